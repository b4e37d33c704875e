-- How conditions and the branches of an `if` are read.
use Rattle.std.proofs.Common.{◌≡◌, ℕ, ◌-◌, Bool, true, false, ◌||◌, cond, Option, Some, None, List, [], ◌∷◌, ◌++◌, refl, sym, ap, ◌∙◌, append_assoc, append-nil}
use Rattle.sw_lex.specs.declared.token.TokenKind.TheVariants as k
use Rattle.sw_grammar.specs.Grammar as g
use Rattle.sw_grammar.specs.Reading.{Out, got, rejected, out_of_fuel, over_budget, ◌>>=◌, at_first, one}
use Rattle.sw_tree.specs.declared.stmt.Stmt.{Stmt}
use Rattle.sw_tree.specs.declared.stmt.Branch.{Branch}
use Rattle.sw_tree.specs.declared.stmt.Condition.{Condition as ConditionTree}
use Rattle.sw_tree.specs.declared.stmt.Condition.TheVariants as condition
use Rattle.sw_syntax.specs.Tokens.{Sighted, Face}
use Rattle.sw_syntax.specs.Tests.{is, is_name, is_let_or_var, is_else, is_else_if, starts_expr}
use Rattle.sw_syntax.specs.Values.{name_of, binding_of}
use Rattle.sw_syntax.specs.Forms.{else_if, else_block, branches_of}
use Rattle.sw_syntax.specs.Nonterminals.{Block, If, Condition, Expr, Branches}
use Rattle.sw_syntax.specs.Parts.{P, ◌·◌, tok, place, name, after}
use Rattle.sw_syntax.specs.Grammar.{initial, conds, branch}
use Rattle.sw_syntax.specs.Answering.{read, read_part, Takes}
use Rattle.sw_syntax.specs.Bodies.{cond_list, more_conds, branch_part, otherwise, with_others, branches_from, initial_part}
use Rattle.sw_syntax.proofs.Equations.{step, bind_same, chosen, first_left, first_right, counted, counted_over_budget}
use Rattle.sw_syntax.proofs.PartEquations.{both_on, gives_on, limited_on, after_on, past_on, name_on, there_on, absent_on, first_on, second_on, some_first, more_end, more_more, first_neither}

-- ---- conditions

pub conds_first : (lenient : Bool) → (d l c : ℕ) (ts : List Sighted) → cond_list lenient d l c ts ≡ (read lenient Condition d l c ts >>= (λ x c' r. more_conds lenient d l c' (x ∷ []) r))
unfolding cond_list
conds_first lenient d l c ts = some_first lenient (g.nonterminal Condition) d l c ts

pub conds_end : (lenient : Bool) → (d l c : ℕ) (xs : List ConditionTree) (ts : List Sighted) → at_first (is k.Comma) ts ≡ false → more_conds lenient d l c xs ts ≡ got xs c ts
conds_end lenient d l c xs ts h = more_end lenient (g.nonterminal Condition) tt d l c xs ts h

pub conds_more : (lenient : Bool) → (d l c : ℕ) (xs : List ConditionTree) (ts : List Sighted) (f : Face) (r : List Sighted) → at_first (is k.Comma) ts ≡ true → Takes (is k.Comma) ts f r
    → more_conds lenient d l c xs ts ≡ (read lenient Condition d l c r >>= (λ x c' r'. more_conds lenient d l c' (xs ++ x ∷ []) r'))
conds_more lenient d l c xs ts f r h takes = more_more lenient (g.nonterminal Condition) tt d l c xs ts f r h takes

pub cond_expr : (lenient : Bool) → (d l c : ℕ) (ts : List Sighted) → at_first starts_expr ts ≡ true → read lenient Condition d l c ts ≡ (read lenient Expr d l l ts >>= (λ x _ r. got (condition.Expr x) c r))
cond_expr lenient d l c ts h = step lenient Condition d l c ts ∙ chosen (at_first starts_expr ts) true _ _ h ∙ limited_on lenient (g.nonterminal Expr) d l c ts _

abbrev bound_part : P ConditionTree
bound_part = g.gives (λ x. condition.Bind (binding_of x.0.kind) x.1.0 x.1.1) (g.terminal is_let_or_var · name · g.maybe initial)

cond_bound : (lenient : Bool) → (d l c : ℕ) (ts : List Sighted) → at_first starts_expr ts ≡ false → read lenient Condition d l c ts ≡ read_part lenient bound_part d l c ts
cond_bound lenient d l c ts h = step lenient Condition d l c ts ∙ chosen (at_first starts_expr ts) false _ _ h

pub cond_bind : (lenient : Bool) → (d l c : ℕ) (ts : List Sighted) → at_first starts_expr ts ≡ false
    → read lenient Condition d l c ts ≡ (one is_let_or_var c ts >>= (λ f c1 r1. one is_name c1 r1 >>= (λ n c2 r2. initial_part lenient d l c2 r2 >>= (λ x c3 r3. got (condition.Bind (binding_of f.kind) (name_of n) x) c3 r3))))
unfolding initial_part
cond_bind lenient d l c ts h = cond_bound lenient d l c ts h
    ∙ both_on lenient (g.terminal is_let_or_var) (name · g.maybe initial) d l c ts _
    ∙ bind_same (one is_let_or_var c ts) _ _ (λ f c1 r1. both_on lenient name (g.maybe initial) d l c1 r1 _ ∙ name_on lenient d l c1 r1 _)

-- ---- branches

pub branch_if : (lenient : Bool) → (d l c : ℕ) (ts : List Sighted)
    → branch_part lenient d l c ts ≡ (one (is k.If) c ts >>= (λ f c1 r1. cond_list lenient d l c1 r1 >>= (λ cs c2 r2. read lenient Block d l c2 r2 >>= (λ body c3 r3. got (record { span = f.span; conditions = cs; body = body }) c3 r3))))
unfolding branch_part cond_list
branch_if lenient d l c ts = both_on lenient (place k.If) (conds · g.nonterminal Block) d l c ts _
    ∙ gives_on lenient (λ f. f.span) (tok k.If) d l c ts _
    ∙ bind_same (one (is k.If) c ts) _ _ (λ f c1 r1. both_on lenient conds (g.nonterminal Block) d l c1 r1 _)

abbrev option_branches : Type 0
option_branches = Option (Branch → Branches)

-- two functions of what follows a branch agree, where they do on each form of it
abbrev Agree : (option_branches → Branches) → (option_branches → Branches) → Type 0
Agree f h = (f None ≡ h None) × ((body : List Stmt) → f (Some (else_block body)) ≡ h (Some (else_block body))) × ((rest : Branches) → f (Some (else_if rest)) ≡ h (Some (else_if rest)))

abbrev gotten : (option_branches → Branches) → option_branches → ℕ → List Sighted → Out Sighted Branches
gotten f x c r = got (f x) c r

agree_on : (f h : option_branches → Branches) → Agree f h → (there block : Bool) (c : ℕ) (ts : List Sighted) (body : Out Sighted (List Stmt)) (rest : Out Sighted Branches)
    → (cond there (cond block (body >>= (λ x c r. got (else_block x) c r)) (rest >>= (λ x c r. got (else_if x) c r)) >>= (λ x c r. got (Some x) c r)) (got None c ts) >>= gotten f)
    ≡ (cond there (cond block (body >>= (λ x c r. got (else_block x) c r)) (rest >>= (λ x c r. got (else_if x) c r)) >>= (λ x c r. got (Some x) c r)) (got None c ts) >>= gotten h)
agree_on f h agree false block c ts body rest = ap (λ x. got x c ts) agree.0
agree_on f h agree true true c ts (got x c' r) rest = ap (λ x. got x c' r) (agree.1 x)
agree_on f h agree true true c ts (rejected reason r) rest = refl
agree_on f h agree true true c ts out_of_fuel rest = refl
agree_on f h agree true false c ts body (got x c' r) = ap (λ x. got x c' r) (agree.2 x)
agree_on f h agree true false c ts body (rejected reason r) = refl
agree_on f h agree true false c ts body out_of_fuel = refl

agree_there : (lenient : Bool) → (d l c : ℕ) (ts : List Sighted) (f h : option_branches → Branches) → Agree f h → (read_part lenient (g.maybe otherwise) d l c ts >>= gotten f) ≡ (read_part lenient (g.maybe otherwise) d l c ts >>= gotten h)
agree_there lenient d l c ts f h agree = agree_on f h agree (at_first (λ t. is_else t || is_else_if t) ts) (at_first is_else ts) c ts
    (read_part lenient (after (g.terminal is_else) (g.nonterminal Block)) d l c ts) (read_part lenient (after (g.counts (g.terminal is_else_if)) (g.nonterminal If)) d l c ts)

pub if_first : (lenient : Bool) → (d l c : ℕ) (ts : List Sighted) → read lenient If d l c ts ≡ (branch_part lenient d l c ts >>= (λ first c' r. branches_from lenient d l c' first [] r))
unfolding branch_part branches_from
if_first lenient d l c ts = step lenient If d l c ts
    ∙ both_on lenient branch (g.maybe otherwise) d l c ts _
    ∙ bind_same (branch_part lenient d l c ts) _ _ (λ first c' r. agree_there lenient d l c' r (branches_of first) (with_others first []) (refl, (λ body. refl), (λ rest. refl)))

pub branches_none : (lenient : Bool) → (d l c : ℕ) (first : Branch) (others : List Branch) (ts : List Sighted) → at_first is_else ts ≡ false → at_first is_else_if ts ≡ false → branches_from lenient d l c first others ts ≡ got (first, (others, None)) c ts
unfolding branches_from
branches_none lenient d l c first others ts h h' = absent_on lenient otherwise d l c ts (gotten (with_others first others)) (first_neither is_else is_else_if ts h h')
    ∙ ap (λ xs. got (first, (xs, None)) c ts) (append-nil others)

pub branches_else : (lenient : Bool) → (d l c : ℕ) (first : Branch) (others : List Branch) (ts : List Sighted) (f : Face) (r : List Sighted) → at_first is_else ts ≡ true → Takes is_else ts f r
    → branches_from lenient d l c first others ts ≡ (read lenient Block d l c r >>= (λ body c' r'. got (first, (others, Some body)) c' r'))
unfolding branches_from
branches_else lenient d l c first others ts f r h takes = there_on lenient otherwise d l c ts (gotten (with_others first others)) (first_left is_else is_else_if ts h)
    ∙ first_on lenient (g.gives else_block (after (g.terminal is_else) (g.nonterminal Block))) (g.gives else_if (after (g.counts (g.terminal is_else_if)) (g.nonterminal If))) d l c ts _ h
    ∙ gives_on lenient else_block (after (g.terminal is_else) (g.nonterminal Block)) d l c ts _
    ∙ past_on lenient is_else (g.nonterminal Block) d l c ts f r _ takes
    ∙ bind_same (read lenient Block d l c r) _ _ (λ body c' r'. ap (λ xs. got (first, (xs, Some body)) c' r') (append-nil others))

-- after an `else` before `if`
abbrev with_rest : (lenient : Bool) → ℕ → ℕ → Branch → List Branch → Out Sighted Face → Out Sighted Branches
with_rest lenient d l first others o = o >>= (λ _ c' r. read lenient If d l c' r >>= (λ rest c'' r'. got (with_others first others (Some (else_if rest))) c'' r'))

else_if_step : (lenient : Bool) → (d l c : ℕ) (first : Branch) (others : List Branch) (ts : List Sighted) → at_first is_else ts ≡ false → at_first is_else_if ts ≡ true
    → branches_from lenient d l c first others ts ≡ with_rest lenient d l first others (read_part lenient (g.counts (g.terminal is_else_if)) d l c ts)
unfolding branches_from
else_if_step lenient d l c first others ts h h' = there_on lenient otherwise d l c ts (gotten (with_others first others)) (first_right is_else is_else_if ts h')
    ∙ second_on lenient (g.gives else_block (after (g.terminal is_else) (g.nonterminal Block))) (g.gives else_if (after (g.counts (g.terminal is_else_if)) (g.nonterminal If))) d l c ts _ h
    ∙ gives_on lenient else_if (after (g.counts (g.terminal is_else_if)) (g.nonterminal If)) d l c ts _
    ∙ after_on lenient (g.counts (g.terminal is_else_if)) (g.nonterminal If) d l c ts _

pub branches_over_budget : (lenient : Bool) → (d l c : ℕ) (first : Branch) (others : List Branch) (ts : List Sighted) → at_first is_else ts ≡ false → at_first is_else_if ts ≡ true → c ≡ 0 → branches_from lenient d l c first others ts ≡ rejected over_budget ts
branches_over_budget lenient d l c first others ts h h' z = else_if_step lenient d l c first others ts h h' ∙ ap (with_rest lenient d l first others) (counted_over_budget lenient is_else_if d l c ts z h')

-- the branches after this one, put after the others
abbrev added : Branch → List Branch → Branches → Branches
added first others rest = (first, (others ++ rest.0 ∷ rest.1.0, rest.1.1))

add_agrees : (first b : Branch) (others : List Branch) → Agree (λ x. added first others (branches_of b x)) (with_others first (others ++ b ∷ []))
add_agrees first b others = (
  ap (λ xs. (first, (xs, None))) (sym (append-nil (others ++ b ∷ []))),
  (λ body. ap (λ xs. (first, (xs, Some body))) (sym (append-nil (others ++ b ∷ [])))),
  (λ rest. ap (λ xs. (first, (xs, rest.1.1))) (sym (append_assoc others (b ∷ []) (rest.0 ∷ rest.1.0)))),
)

pub branches_more : (lenient : Bool) → (d l c : ℕ) (first : Branch) (others : List Branch) (ts : List Sighted) (f : Face) (r : List Sighted) → at_first is_else ts ≡ false → at_first is_else_if ts ≡ true → (c ≡ 0 → ⊥) → Takes is_else_if ts f r
    → branches_from lenient d l c first others ts ≡ (branch_part lenient d l (c - 1) r >>= (λ b c' r'. branches_from lenient d l c' first (others ++ b ∷ []) r'))
unfolding branches_from branch_part
branches_more lenient d l c first others ts f r h h' z takes = else_if_step lenient d l c first others ts h h'
    ∙ ap (with_rest lenient d l first others) (counted lenient is_else_if d l c ts z ∙ takes (c - 1))
    ∙ ap (λ o. o >>= (λ rest c'' r'. got (added first others rest) c'' r')) (step lenient If d l (c - 1) r)
    ∙ gives_on lenient (λ x. branches_of x.0 x.1) (branch · g.maybe otherwise) d l (c - 1) r _
    ∙ both_on lenient branch (g.maybe otherwise) d l (c - 1) r _
    ∙ bind_same (branch_part lenient d l (c - 1) r) _ _ (λ b c' r'. agree_there lenient d l c' r' (λ x. added first others (branches_of b x)) (with_others first (others ++ b ∷ [])) (add_agrees first b others))
