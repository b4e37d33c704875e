-- How statements are read, part by part.
use Rattle.std.proofs.Common.{◌≡◌, ℕ, ◌-◌, Bool, true, false, ◌&&◌, Option, Some, None, List, [], ◌∷◌, ◌++◌, refl, sym, ap, ◌∙◌, append_assoc, append-nil}
use Rattle.sw_lex.specs.declared.token.TokenKind.TheVariants as k
use Rattle.sw_grammar.specs.Grammar as g
use Rattle.sw_grammar.specs.Reading.{Out, got, rejected, out_of_fuel, over_budget, unexpected, ◌>>=◌, at_first, one, if_goes}
use Rattle.sw_tree.specs.declared.expr.Expr.{Expr as ExprTree}
use Rattle.sw_tree.specs.declared.stmt.Stmt.{Stmt}
use Rattle.sw_tree.specs.declared.stmt.Stmt.TheVariants as s
use Rattle.sw_tree.specs.declared.stmt.Catch.{Catch}
use Rattle.sw_tree.specs.declared.stmt.SwitchArm.{SwitchArm}
use Rattle.sw_tree.specs.declared.stmt.ArmLabel.{ArmLabel}
use Rattle.sw_tree.specs.declared.stmt.ArmLabel.TheVariants as arm
use Rattle.sw_tree.specs.declared.stmt.Pattern.{Pattern as PatternTree}
use Rattle.sw_tree.specs.declared.stmt.RangeEnd.{RangeEnd}
use Rattle.sw_tree.specs.declared.expr.Name.{Name}
use Rattle.sw_syntax.specs.declared.class.Sight.{Sight}
use Rattle.sw_syntax.specs.Tokens.{same_kind, Sighted, Face}
use Rattle.sw_syntax.specs.Tests.{is, is_name, is_let_or_var, is_any_else, is_assignment, is_range, starts_expr}
use Rattle.sw_syntax.specs.Values.{or_none, name_of, binding_of, assign_of, is_target}
use Rattle.sw_syntax.specs.Forms.{range_end, assigned}
use Rattle.sw_syntax.specs.Nonterminals.{InBlock, InArm, Open, Closed, Block, Statements, Statement, If, Arms, Pattern, Caught, Expr, TypeExpr, Body}
use Rattle.sw_syntax.specs.Parts.{P, ◌·◌, ◌∣◌, tok, place, name, after, any, whole_expr, whole_type, in_braces}
use Rattle.sw_syntax.specs.Grammar.{annotation, initial, conds, arm_label, catch}
use Rattle.sw_syntax.specs.Tables.{first_table, starts_arm}
use Rattle.sw_syntax.specs.Answering.{read, read_part, Takes}
use Rattle.sw_syntax.specs.Bodies.{IsNoCondition, IsJump, body_from, after_body, arms_from, arm_from, label_part, pattern_list, more_patterns, switch_block, arm_list, cond_list, annotation_part, initial_part, assigned_part, loop_name, range_part, catches_from, catch_pattern}
use Rattle.sw_syntax.proofs.Classes.{apart}
use Rattle.sw_syntax.proofs.Equations.{step, IsOk, bind_assoc, bind_same, chosen, fold_end, fold_more}
use Rattle.sw_syntax.proofs.PartEquations.{both_on, gives_on, limited_on, mark_on, led_on, placed_on, after_on, past_on, name_on, there_on, absent_on, braces_none, braces_deep, braces_open, braces_on, any_none, any_first, more_end, more_more, maybe_none, maybe_some, maybe_past, after_mark_expr}
use Rattle.sw_syntax.proofs.BodyEquations.{body_start}

-- ---- blocks

pub block_none : (lenient : Bool) → (d l c : ℕ) (ts : List Sighted) → at_first (is k.LeftBrace) ts ≡ false → read lenient Block d l c ts ≡ rejected unexpected ts
block_none lenient d l c ts h = step lenient Block d l c ts ∙ ap (λ o. o >>= (λ body c' r. got body.0 c' r)) (braces_none lenient (g.nonterminal (Statements InBlock)) d l c ts h)

pub block_deep : (lenient : Bool) → (d l c : ℕ) (ts : List Sighted) → at_first (is k.LeftBrace) ts ≡ true → d ≡ 0 → read lenient Block d l c ts ≡ rejected over_budget ts
block_deep lenient d l c ts h z = step lenient Block d l c ts ∙ ap (λ o. o >>= (λ body c' r. got body.0 c' r)) (braces_deep lenient (g.nonterminal (Statements InBlock)) d l c ts h z)

pub block_open : (lenient : Bool) → (d l c : ℕ) (ts : List Sighted) (f : Face) (r : List Sighted) → (d ≡ 0 → ⊥) → Takes (is k.LeftBrace) ts f r
    → read lenient Block d l c ts ≡ (body_from lenient InBlock (d - 1) l c [] r >>= (λ body c' r'. one (is k.RightBrace) c' r' >>= (λ _ c'' r''. got body.0 c'' r'')))
block_open lenient d l c ts f r z takes = step lenient Block d l c ts
    ∙ braces_on lenient (g.nonterminal (Statements InBlock)) d l c ts f r (λ body c' r. got body.0 c' r) z takes
    ∙ ap (λ o. o >>= (λ body c' r'. one (is k.RightBrace) c' r' >>= (λ _ c'' r''. got body.0 c'' r''))) (body_start lenient InBlock (d - 1) l c r)

-- ---- types and values that may be absent

pub annotation_none : (lenient : Bool) → (d l c : ℕ) (ts : List Sighted) → at_first (is k.Colon) ts ≡ false → annotation_part lenient d l c ts ≡ got None c ts
unfolding annotation_part
annotation_none lenient d l c ts h = maybe_none lenient annotation d l c ts h

pub annotation_some : (lenient : Bool) → (d l c : ℕ) (ts : List Sighted) (f : Face) (r : List Sighted) → at_first (is k.Colon) ts ≡ true → Takes (is k.Colon) ts f r
    → annotation_part lenient d l c ts ≡ (read lenient TypeExpr d l l r >>= (λ t _ r'. got (Some t) c r'))
unfolding annotation_part
annotation_some lenient d l c ts f r h takes = maybe_past lenient (is k.Colon) whole_type d l c ts f r h takes ∙ limited_on lenient (g.nonterminal TypeExpr) d l c r _

pub initial_none : (lenient : Bool) → (d l c : ℕ) (ts : List Sighted) → at_first (is k.Assign) ts ≡ false → initial_part lenient d l c ts ≡ got None c ts
unfolding initial_part
initial_none lenient d l c ts h = maybe_none lenient initial d l c ts h

pub initial_some : (lenient : Bool) → (d l c : ℕ) (ts : List Sighted) (f : Face) (r : List Sighted) → at_first (is k.Assign) ts ≡ true → Takes (is k.Assign) ts f r
    → initial_part lenient d l c ts ≡ (read lenient Expr d l l r >>= (λ x _ r'. got (Some x) c r'))
unfolding initial_part
initial_some lenient d l c ts f r h takes = maybe_past lenient (is k.Assign) whole_expr d l c ts f r h takes ∙ limited_on lenient (g.nonterminal Expr) d l c r _

-- ---- statements that end in an expression

pub open_local : (lenient : Bool) → (d l c : ℕ) (ts : List Sighted) (f : Face) (r : List Sighted) → at_first is_let_or_var ts ≡ true → Takes is_let_or_var ts f r
    → read lenient (Statement Open) d l c ts ≡ (one is_name c r >>= (λ n c1 r1. annotation_part lenient d l c1 r1 >>= (λ t c2 r2. one (is k.Assign) c2 r2 >>= (λ _ c3 r3. read lenient Expr d l l r3 >>= (λ x _ r4.
    got (s.Local f.span (binding_of f.kind) (name_of n) t x) c3 r4)))))
unfolding annotation_part
open_local lenient d l c ts f r h takes = step lenient (Statement Open) d l c ts ∙ chosen (at_first is_let_or_var ts) true _ _ h
    ∙ led_on lenient is_let_or_var (name · g.maybe annotation · initial) d l c ts f r _ takes
    ∙ both_on lenient name (g.maybe annotation · initial) d l c r _
    ∙ name_on lenient d l c r _
    ∙ bind_same (one is_name c r) _ _ (λ n c1 r1. both_on lenient (g.maybe annotation) initial d l c1 r1 _
    ∙ bind_same (annotation_part lenient d l c1 r1) _ _ (λ t c2 r2. after_mark_expr lenient k.Assign d l c2 r2 _))

pub open_expr : (lenient : Bool) → (d l c : ℕ) (ts : List Sighted) → at_first is_let_or_var ts ≡ false → at_first starts_expr ts ≡ true
    → read lenient (Statement Open) d l c ts ≡ (read lenient Expr d l l ts >>= (λ x _ r. assigned_part lenient d l c x r))
unfolding assigned_part
open_expr lenient d l c ts h0 h = step lenient (Statement Open) d l c ts ∙ chosen (at_first is_let_or_var ts) false _ _ h0 ∙ chosen (at_first starts_expr ts) true _ _ h
    ∙ bind_assoc (read_part lenient whole_expr d l c ts) _ _
    ∙ limited_on lenient (g.nonterminal Expr) d l c ts _

abbrev assignment : P (Face × ExprTree)
assignment = g.terminal is_assignment · whole_expr

abbrev assigned_if : (lenient : Bool) → ℕ → ℕ → ℕ → ExprTree → List Sighted → Bool → Out Sighted Stmt
assigned_if lenient d l c x ts goes = if_goes goes x c ts (read_part lenient assignment d l c ts) >>= (λ y c' r. got (assigned y.0 y.1) c' r)

not_left : (a b : Bool) → a ≡ false → (a && b) ≡ false
not_left true b h = absurd cc
not_left false b h = refl

not_right : (a b : Bool) → b ≡ false → (a && b) ≡ false
not_right true b h = h
not_right false b h = refl

both_true : (a b : Bool) → a ≡ true → b ≡ true → (a && b) ≡ true
both_true true b h h' = h'
both_true false b h h' = absurd cc

-- what is no place
pub assigned_no_place : (lenient : Bool) → (d l c : ℕ) (x : ExprTree) (ts : List Sighted) → is_target x ≡ false → assigned_part lenient d l c x ts ≡ got (s.Expr x) c ts
unfolding assigned_part
assigned_no_place lenient d l c x ts h = ap (assigned_if lenient d l c x ts) (not_left (is_target x) (at_first is_assignment ts) h)

pub assigned_none : (lenient : Bool) → (d l c : ℕ) (x : ExprTree) (ts : List Sighted) → at_first is_assignment ts ≡ false → assigned_part lenient d l c x ts ≡ got (s.Expr x) c ts
unfolding assigned_part
assigned_none lenient d l c x ts h = ap (assigned_if lenient d l c x ts) (not_right (is_target x) (at_first is_assignment ts) h)

pub assigned_some : (lenient : Bool) → (d l c : ℕ) (x : ExprTree) (ts : List Sighted) (f : Face) (r : List Sighted) → is_target x ≡ true → at_first is_assignment ts ≡ true → Takes is_assignment ts f r
    → assigned_part lenient d l c x ts ≡ (read lenient Expr d l l r >>= (λ y _ r'. got (s.Assign x (assign_of f.kind) f.span y) c r'))
unfolding assigned_part
assigned_some lenient d l c x ts f r h h' takes = ap (assigned_if lenient d l c x ts) (both_true (is_target x) (at_first is_assignment ts) h h')
    ∙ bind_assoc (read_part lenient assignment d l c ts) _ _
    ∙ led_on lenient is_assignment whole_expr d l c ts f r _ takes
    ∙ limited_on lenient (g.nonterminal Expr) d l c r _

pub open_discard : (lenient : Bool) → (d l c : ℕ) (ts : List Sighted) (f : Face) (r : List Sighted) → at_first is_let_or_var ts ≡ false → at_first starts_expr ts ≡ false → at_first (is k.Underscore) ts ≡ true → Takes (is k.Underscore) ts f r
    → read lenient (Statement Open) d l c ts ≡ (one (is k.Assign) c r >>= (λ _ c1 r1. read lenient Expr d l l r1 >>= (λ x _ r2. got (s.Discard f.span x) c1 r2)))
open_discard lenient d l c ts f r h0 h1 h takes = step lenient (Statement Open) d l c ts ∙ chosen (at_first is_let_or_var ts) false _ _ h0 ∙ chosen (at_first starts_expr ts) false _ _ h1 ∙ chosen (at_first (is k.Underscore) ts) true _ _ h
    ∙ placed_on lenient k.Underscore initial d l c ts f r _ takes
    ∙ after_mark_expr lenient k.Assign d l c r _

pub open_throw : (lenient : Bool) → (d l c : ℕ) (ts : List Sighted) → at_first is_let_or_var ts ≡ false → at_first starts_expr ts ≡ false → at_first (is k.Underscore) ts ≡ false
    → read lenient (Statement Open) d l c ts ≡ (one (is k.Throw) c ts >>= (λ f c1 r1. read lenient Expr d l l r1 >>= (λ x _ r2. got (s.Throw f.span x) c1 r2)))
open_throw lenient d l c ts h0 h1 h2 = step lenient (Statement Open) d l c ts ∙ chosen (at_first is_let_or_var ts) false _ _ h0 ∙ chosen (at_first starts_expr ts) false _ _ h1 ∙ chosen (at_first (is k.Underscore) ts) false _ _ h2
    ∙ both_on lenient (place k.Throw) whole_expr d l c ts _
    ∙ gives_on lenient (λ f. f.span) (tok k.Throw) d l c ts _
    ∙ bind_same (one (is k.Throw) c ts) _ _ (λ f c1 r1. limited_on lenient (g.nonterminal Expr) d l c1 r1 _)

-- ---- statements that do not

pub closed_if : (lenient : Bool) → (d l c : ℕ) (ts : List Sighted) → at_first (is k.If) ts ≡ true → read lenient (Statement Closed) d l c ts ≡ (read lenient If d l l ts >>= (λ x _ r. got (s.If x.0 x.1.0 x.1.1) c r))
closed_if lenient d l c ts h = step lenient (Statement Closed) d l c ts ∙ chosen (at_first (is k.If) ts) true _ _ h ∙ limited_on lenient (g.nonterminal If) d l c ts _

pub closed_guard : (lenient : Bool) → (d l c : ℕ) (ts : List Sighted) (f : Face) (r : List Sighted) → at_first (is k.If) ts ≡ false → at_first (is k.Guard) ts ≡ true → Takes (is k.Guard) ts f r
    → read lenient (Statement Closed) d l c ts ≡ (cond_list lenient d l c r >>= (λ cs c1 r1. one is_any_else c1 r1 >>= (λ _ c2 r2. read lenient Block d l c2 r2 >>= (λ body c3 r3. got (s.Guard f.span cs body) c3 r3))))
unfolding cond_list
closed_guard lenient d l c ts f r h0 h takes = step lenient (Statement Closed) d l c ts ∙ chosen (at_first (is k.If) ts) false _ _ h0 ∙ chosen (at_first (is k.Guard) ts) true _ _ h
    ∙ placed_on lenient k.Guard (conds · after (g.terminal is_any_else) (g.nonterminal Block)) d l c ts f r _ takes
    ∙ both_on lenient conds (after (g.terminal is_any_else) (g.nonterminal Block)) d l c r _
    ∙ bind_same (cond_list lenient d l c r) _ _ (λ cs c1 r1. after_on lenient (g.terminal is_any_else) (g.nonterminal Block) d l c1 r1 _)

pub closed_while : (lenient : Bool) → (d l c : ℕ) (ts : List Sighted) (f : Face) (r : List Sighted) → at_first (is k.If) ts ≡ false → at_first (is k.Guard) ts ≡ false → at_first (is k.While) ts ≡ true → Takes (is k.While) ts f r
    → read lenient (Statement Closed) d l c ts ≡ (cond_list lenient d l c r >>= (λ cs c1 r1. read lenient Block d l c1 r1 >>= (λ body c2 r2. got (s.While f.span cs body) c2 r2)))
unfolding cond_list
closed_while lenient d l c ts f r h0 h1 h takes = step lenient (Statement Closed) d l c ts ∙ chosen (at_first (is k.If) ts) false _ _ h0 ∙ chosen (at_first (is k.Guard) ts) false _ _ h1 ∙ chosen (at_first (is k.While) ts) true _ _ h
    ∙ placed_on lenient k.While (conds · g.nonterminal Block) d l c ts f r _ takes
    ∙ both_on lenient conds (g.nonterminal Block) d l c r _

abbrev loop_name_part : P (Option Name)
loop_name_part = g.gives Some name ∣ g.gives (λ _. None) (tok k.Underscore)

abbrev range_mark : P RangeEnd
range_mark = g.gives (λ x. range_end x.0 x.1) (g.terminal is_range · whole_expr)

abbrev arms_block : P (List SwitchArm)
arms_block = in_braces (g.gives or_none (g.maybe (g.nonterminal Arms)))

abbrev for_part : P Stmt
for_part = g.gives (λ x. s.For x.0 x.1.0 x.1.1.1.0 x.1.1.1.1.0 x.1.1.1.1.1) (place k.For · loop_name_part · tok k.In · whole_expr · g.maybe range_mark · g.nonterminal Block)

abbrev switch_part : P Stmt
switch_part = g.gives (λ x. s.Switch x.0 x.1.0 x.1.1) (place k.Switch · whole_expr · arms_block)

abbrev do_part : P Stmt
do_part = g.gives (λ x. s.Do x.0 x.1.0 x.1.1) (place k.Do · g.nonterminal Block · g.many catch)

abbrev later_parts : P Stmt
later_parts = for_part ∣ (switch_part ∣ (do_part ∣ (g.gives s.Break (place k.Break) ∣ g.gives s.Continue (place k.Continue))))

closed_later : (lenient : Bool) → (d l c : ℕ) (ts : List Sighted) → IsNoCondition ts → read lenient (Statement Closed) d l c ts ≡ read_part lenient later_parts d l c ts
closed_later lenient d l c ts (h0, h1, h2) = step lenient (Statement Closed) d l c ts ∙ chosen (at_first (is k.If) ts) false _ _ h0 ∙ chosen (at_first (is k.Guard) ts) false _ _ h1 ∙ chosen (at_first (is k.While) ts) false _ _ h2

pub closed_for : (lenient : Bool) → (d l c : ℕ) (ts : List Sighted) (f : Face) (r : List Sighted) → IsNoCondition ts → at_first (is k.For) ts ≡ true → Takes (is k.For) ts f r
    → read lenient (Statement Closed) d l c ts ≡ (loop_name lenient d l c r >>= (λ n c1 r1. one (is k.In) c1 r1 >>= (λ _ c2 r2. read lenient Expr d l l r2 >>= (λ x _ r3. range_part lenient d l c2 r3 >>= (λ y c4 r4. read lenient Block d l c4 r4 >>= (λ body c5 r5.
    got (s.For f.span n x y body) c5 r5))))))
unfolding loop_name range_part
closed_for lenient d l c ts f r h0 h takes = closed_later lenient d l c ts h0 ∙ chosen (at_first (is k.For) ts) true _ _ h
    ∙ placed_on lenient k.For (loop_name_part · tok k.In · whole_expr · g.maybe range_mark · g.nonterminal Block) d l c ts f r _ takes
    ∙ both_on lenient loop_name_part (tok k.In · whole_expr · g.maybe range_mark · g.nonterminal Block) d l c r _
    ∙ bind_same (loop_name lenient d l c r) _ _ (λ n c1 r1. both_on lenient (tok k.In) (whole_expr · g.maybe range_mark · g.nonterminal Block) d l c1 r1 _
    ∙ bind_same (one (is k.In) c1 r1) _ _ (λ m c2 r2. both_on lenient whole_expr (g.maybe range_mark · g.nonterminal Block) d l c2 r2 _
    ∙ limited_on lenient (g.nonterminal Expr) d l c2 r2 _
    ∙ bind_same (read lenient Expr d l l r2) _ _ (λ x c3 r3. both_on lenient (g.maybe range_mark) (g.nonterminal Block) d l c2 r3 _)))

pub loop_name_name : (lenient : Bool) → (d l c : ℕ) (ts : List Sighted) (f : Face) (r : List Sighted) → at_first is_name ts ≡ true → Takes is_name ts f r → loop_name lenient d l c ts ≡ got (Some (name_of f)) c r
unfolding loop_name
loop_name_name lenient d l c ts f r h takes = chosen (at_first is_name ts) true _ _ h ∙ name_on lenient d l c ts _ ∙ mark_on lenient is_name d l c ts f r _ takes

pub loop_name_none : (lenient : Bool) → (d l c : ℕ) (ts : List Sighted) → at_first is_name ts ≡ false → loop_name lenient d l c ts ≡ (one (is k.Underscore) c ts >>= (λ _ c' r. got None c' r))
unfolding loop_name
loop_name_none lenient d l c ts h = chosen (at_first is_name ts) false _ _ h

pub range_none : (lenient : Bool) → (d l c : ℕ) (ts : List Sighted) → at_first is_range ts ≡ false → range_part lenient d l c ts ≡ got None c ts
unfolding range_part
range_none lenient d l c ts h = maybe_none lenient range_mark d l c ts h

pub range_some : (lenient : Bool) → (d l c : ℕ) (ts : List Sighted) (f : Face) (r : List Sighted) → at_first is_range ts ≡ true → Takes is_range ts f r
    → range_part lenient d l c ts ≡ (read lenient Expr d l l r >>= (λ x _ r'. got (Some (range_end f x)) c r'))
unfolding range_part
range_some lenient d l c ts f r h takes = maybe_some lenient range_mark d l c ts h
    ∙ gives_on lenient (λ x. range_end x.0 x.1) (g.terminal is_range · whole_expr) d l c ts _
    ∙ led_on lenient is_range whole_expr d l c ts f r _ takes
    ∙ limited_on lenient (g.nonterminal Expr) d l c r _

-- ---- `switch`

pub closed_switch : (lenient : Bool) → (d l c : ℕ) (ts : List Sighted) (f : Face) (r : List Sighted) → IsNoCondition ts → at_first (is k.For) ts ≡ false → at_first (is k.Switch) ts ≡ true → Takes (is k.Switch) ts f r
    → read lenient (Statement Closed) d l c ts ≡ (read lenient Expr d l l r >>= (λ x _ r1. switch_block lenient d l c r1 >>= (λ arms c2 r2. got (s.Switch f.span x arms) c2 r2)))
unfolding switch_block
closed_switch lenient d l c ts f r h0 h1 h takes = closed_later lenient d l c ts h0 ∙ chosen (at_first (is k.For) ts) false _ _ h1 ∙ chosen (at_first (is k.Switch) ts) true _ _ h
    ∙ placed_on lenient k.Switch (whole_expr · arms_block) d l c ts f r _ takes
    ∙ both_on lenient whole_expr arms_block d l c r _
    ∙ limited_on lenient (g.nonterminal Expr) d l c r _

pub switch_none : (lenient : Bool) → (d l c : ℕ) (ts : List Sighted) → at_first (is k.LeftBrace) ts ≡ false → switch_block lenient d l c ts ≡ rejected unexpected ts
unfolding switch_block
switch_none lenient d l c ts h = braces_none lenient (g.gives or_none (g.maybe (g.nonterminal Arms))) d l c ts h

pub switch_deep : (lenient : Bool) → (d l c : ℕ) (ts : List Sighted) → at_first (is k.LeftBrace) ts ≡ true → d ≡ 0 → switch_block lenient d l c ts ≡ rejected over_budget ts
unfolding switch_block
switch_deep lenient d l c ts h z = braces_deep lenient (g.gives or_none (g.maybe (g.nonterminal Arms))) d l c ts h z

pub switch_open : (lenient : Bool) → (d l c : ℕ) (ts : List Sighted) (f : Face) (r : List Sighted) → (d ≡ 0 → ⊥) → Takes (is k.LeftBrace) ts f r
    → switch_block lenient d l c ts ≡ (arm_list lenient (d - 1) l c r >>= (λ arms c1 r1. one (is k.RightBrace) c1 r1 >>= (λ _ c2 r2. got arms c2 r2)))
unfolding switch_block arm_list
switch_open lenient d l c ts f r z takes = braces_open lenient (g.gives or_none (g.maybe (g.nonterminal Arms))) d l c ts f r z takes

pub arm_list_none : (lenient : Bool) → (d l c : ℕ) (ts : List Sighted) → at_first starts_arm ts ≡ false → arm_list lenient d l c ts ≡ got [] c ts
unfolding arm_list
arm_list_none lenient d l c ts h = absent_on lenient (g.nonterminal Arms) d l c ts _ h

pub arm_list_some : (lenient : Bool) → (d l c : ℕ) (ts : List Sighted) → at_first starts_arm ts ≡ true → arm_list lenient d l c ts ≡ arms_from lenient d l c [] ts
unfolding arm_list arms_from
arm_list_some lenient d l c ts h = there_on lenient (g.nonterminal Arms) d l c ts _ h

-- an arm: its label, `:`, and from its first statement on
pub arms_label : (lenient : Bool) → (d l c : ℕ) (arms : List SwitchArm) (ts : List Sighted)
    → arms_from lenient d l c arms ts ≡ (label_part lenient d l c ts >>= (λ label c1 r1. one (is k.Colon) c1 r1 >>= (λ _ c2 r2. arm_from lenient d l c2 arms label r2)))
unfolding arms_from label_part
arms_label lenient d l c arms ts = ap (λ o. o >>= (λ others c' r. got (arms ++ others) c' r)) (step lenient Arms d l c ts)
    ∙ gives_on lenient (λ x. record { label = x.0; body = x.1.0 } ∷ x.1.1) (arm_label · after (tok k.Colon) (g.nonterminal (Statements InArm))) d l c ts _
    ∙ both_on lenient arm_label (after (tok k.Colon) (g.nonterminal (Statements InArm))) d l c ts _
    ∙ bind_same (label_part lenient d l c ts) _ _ (λ label c1 r1. after_on lenient (tok k.Colon) (g.nonterminal (Statements InArm)) d l c1 r1 _
    ∙ bind_same (one (is k.Colon) c1 r1) _ _ (λ m c2 r2. ap (λ o. o >>= (λ body c' r. got (arms ++ record { label = label; body = body.0 } ∷ body.1) c' r)) (body_start lenient InArm d l c2 r2)))

abbrev arm_ends : List SwitchArm → ArmLabel → Out Sighted Body → Out Sighted (List SwitchArm)
arm_ends arms label o = o >>= (λ body c' r. got (arms ++ record { label = label; body = body.0 } ∷ body.1) c' r)

-- after the statements of an arm: another arm, and nothing more
pub arm_then_arm : (lenient : Bool) → (d l c : ℕ) (arms : List SwitchArm) (label : ArmLabel) (xs : List Stmt) (ts : List Sighted) (c' : ℕ) (r : List Sighted) → body_from lenient InArm d l c [] ts ≡ after_body lenient d l c' xs true r
    → arm_from lenient d l c arms label ts ≡ arms_from lenient d l c' (arms ++ record { label = label; body = xs } ∷ []) r
unfolding arms_from
arm_then_arm lenient d l c arms label xs ts c' r h = ap (arm_ends arms label) h ∙ same (read lenient Arms d l c' r)
  where
    same : (o : Out Sighted (List SwitchArm)) → arm_ends arms label (o >>= (λ others c r. got (xs, others) c r)) ≡ (o >>= (λ others c r. got ((arms ++ record { label = label; body = xs } ∷ []) ++ others) c r))
    same (got others c r) = ap (λ l. got l c r) (sym (append_assoc arms (record { label = label; body = xs } ∷ []) others))
    same (rejected reason r) = refl
    same out_of_fuel = refl

pub arm_then_end : (lenient : Bool) → (d l c : ℕ) (arms : List SwitchArm) (label : ArmLabel) (xs : List Stmt) (ts : List Sighted) (c' : ℕ) (r : List Sighted) → body_from lenient InArm d l c [] ts ≡ after_body lenient d l c' xs false r
    → arm_from lenient d l c arms label ts ≡ got (arms ++ record { label = label; body = xs } ∷ []) c' r
arm_then_end lenient d l c arms label xs ts c' r h = ap (arm_ends arms label) h

pub label_case : (lenient : Bool) → (d l c : ℕ) (ts : List Sighted) (f : Face) (r : List Sighted) → at_first (is k.Case) ts ≡ true → Takes (is k.Case) ts f r
    → label_part lenient d l c ts ≡ (pattern_list lenient d l c r >>= (λ ps c' r'. got (arm.Case ps) c' r'))
unfolding label_part pattern_list
label_case lenient d l c ts f r h takes = chosen (at_first (is k.Case) ts) true _ _ h ∙ past_on lenient (is k.Case) (any (g.nonterminal Pattern)) d l c ts f r _ takes

pub label_default : (lenient : Bool) → (d l c : ℕ) (ts : List Sighted) → at_first (is k.Case) ts ≡ false → label_part lenient d l c ts ≡ (one (is k.Default) c ts >>= (λ _ c' r. got arm.Default c' r))
unfolding label_part
label_default lenient d l c ts h = chosen (at_first (is k.Case) ts) false _ _ h

pub patterns_none : (lenient : Bool) → (d l c : ℕ) (ts : List Sighted) → at_first (first_table Pattern) ts ≡ false → pattern_list lenient d l c ts ≡ got [] c ts
unfolding pattern_list
patterns_none lenient d l c ts h = any_none lenient (g.nonterminal Pattern) d l c ts h

pub patterns_first : (lenient : Bool) → (d l c : ℕ) (ts : List Sighted) → at_first (first_table Pattern) ts ≡ true → pattern_list lenient d l c ts ≡ (read lenient Pattern d l c ts >>= (λ x c' r. more_patterns lenient d l c' (x ∷ []) r))
unfolding pattern_list
patterns_first lenient d l c ts h = any_first lenient (g.nonterminal Pattern) d l c ts h

pub patterns_end : (lenient : Bool) → (d l c : ℕ) (xs : List PatternTree) (ts : List Sighted) → at_first (is k.Comma) ts ≡ false → more_patterns lenient d l c xs ts ≡ got xs c ts
patterns_end lenient d l c xs ts h = more_end lenient (g.nonterminal Pattern) tt d l c xs ts h

pub patterns_more : (lenient : Bool) → (d l c : ℕ) (xs : List PatternTree) (ts : List Sighted) (f : Face) (r : List Sighted) → at_first (is k.Comma) ts ≡ true → Takes (is k.Comma) ts f r
    → more_patterns lenient d l c xs ts ≡ (read lenient Pattern d l c r >>= (λ x c' r'. more_patterns lenient d l c' (xs ++ x ∷ []) r'))
patterns_more lenient d l c xs ts f r h takes = more_more lenient (g.nonterminal Pattern) tt d l c xs ts f r h takes

-- ---- `do`

pub closed_do : (lenient : Bool) → (d l c : ℕ) (ts : List Sighted) (f : Face) (r : List Sighted) → IsNoCondition ts → at_first (is k.For) ts ≡ false → at_first (is k.Switch) ts ≡ false → at_first (is k.Do) ts ≡ true → Takes (is k.Do) ts f r
    → read lenient (Statement Closed) d l c ts ≡ (read lenient Block d l c r >>= (λ body c1 r1. catches_from lenient d l c1 [] r1 >>= (λ catches c2 r2. got (s.Do f.span body catches) c2 r2)))
unfolding catches_from
closed_do lenient d l c ts f r h0 h1 h2 h takes = closed_later lenient d l c ts h0 ∙ chosen (at_first (is k.For) ts) false _ _ h1 ∙ chosen (at_first (is k.Switch) ts) false _ _ h2 ∙ chosen (at_first (is k.Do) ts) true _ _ h
    ∙ placed_on lenient k.Do (g.nonterminal Block · g.many catch) d l c ts f r _ takes
    ∙ both_on lenient (g.nonterminal Block) (g.many catch) d l c r _
    ∙ bind_same (read lenient Block d l c r) _ _ (λ body c1 r1. sym (bind_assoc (read_part lenient (g.many catch) d l c1 r1) _ _))

decided_catch : (lenient : Bool) → IsOk lenient catch
unfolding same_kind
decided_catch lenient = (tt, ((tt, refl), tt, apart _ _ refl), apart _ _ refl)

pub catches_end : (lenient : Bool) → (d l c : ℕ) (xs : List Catch) (ts : List Sighted) → at_first (is k.Catch) ts ≡ false → catches_from lenient d l c xs ts ≡ got xs c ts
unfolding catches_from
catches_end lenient d l c xs ts h = fold_end lenient catch (decided_catch lenient) refl (λ xs ys. xs ++ ys) (λ xs x. xs ++ x ∷ []) (λ xs x ys. sym (append_assoc xs (x ∷ []) ys)) d l c xs ts h ∙ ap (λ xs. got xs c ts) (append-nil xs)

pub catches_more : (lenient : Bool) → (d l c : ℕ) (xs : List Catch) (ts : List Sighted) (f : Face) (r : List Sighted) → at_first (is k.Catch) ts ≡ true → Takes (is k.Catch) ts f r
    → catches_from lenient d l c xs ts ≡ (catch_pattern lenient d l c r >>= (λ p c1 r1. read lenient Block d l c1 r1 >>= (λ body c2 r2. catches_from lenient d l c2 (xs ++ record { span = f.span; pattern = p; body = body } ∷ []) r2)))
unfolding catches_from catch_pattern
catches_more lenient d l c xs ts f r h takes =
    fold_more lenient catch (decided_catch lenient) refl (λ xs ys. xs ++ ys) (λ xs x. xs ++ x ∷ []) (λ xs x ys. sym (append_assoc xs (x ∷ []) ys)) d l c xs ts h
    ∙ gives_on lenient (λ x. record { span = x.0; pattern = x.1.0; body = x.1.1 }) (place k.Catch · g.maybe (g.nonterminal Caught) · g.nonterminal Block) d l c ts _
    ∙ placed_on lenient k.Catch (g.maybe (g.nonterminal Caught) · g.nonterminal Block) d l c ts f r _ takes
    ∙ both_on lenient (g.maybe (g.nonterminal Caught)) (g.nonterminal Block) d l c r _

pub catch_pattern_none : (lenient : Bool) → (d l c : ℕ) (ts : List Sighted) → at_first (first_table Caught) ts ≡ false → catch_pattern lenient d l c ts ≡ got None c ts
unfolding catch_pattern
catch_pattern_none lenient d l c ts h = maybe_none lenient (g.nonterminal Caught) d l c ts h

pub catch_pattern_some : (lenient : Bool) → (d l c : ℕ) (ts : List Sighted) → at_first (first_table Caught) ts ≡ true → catch_pattern lenient d l c ts ≡ (read lenient Caught d l c ts >>= (λ p c' r. got (Some p) c' r))
unfolding catch_pattern
catch_pattern_some lenient d l c ts h = maybe_some lenient (g.nonterminal Caught) d l c ts h

-- ---- `break` and `continue`

closed_jump : (lenient : Bool) → (d l c : ℕ) (ts : List Sighted) → IsJump ts → read lenient (Statement Closed) d l c ts ≡ read_part lenient (g.gives s.Break (place k.Break) ∣ g.gives s.Continue (place k.Continue)) d l c ts
closed_jump lenient d l c ts (h0, h1, h2, h3) = closed_later lenient d l c ts h0 ∙ chosen (at_first (is k.For) ts) false _ _ h1 ∙ chosen (at_first (is k.Switch) ts) false _ _ h2 ∙ chosen (at_first (is k.Do) ts) false _ _ h3

pub closed_break : (lenient : Bool) → (d l c : ℕ) (ts : List Sighted) (f : Face) (r : List Sighted) → IsJump ts → at_first (is k.Break) ts ≡ true → Takes (is k.Break) ts f r → read lenient (Statement Closed) d l c ts ≡ got (s.Break f.span) c r
closed_break lenient d l c ts f r h0 h takes = closed_jump lenient d l c ts h0 ∙ chosen (at_first (is k.Break) ts) true _ _ h
    ∙ gives_on lenient (λ f. f.span) (tok k.Break) d l c ts _ ∙ mark_on lenient (is k.Break) d l c ts f r _ takes

pub closed_continue : (lenient : Bool) → (d l c : ℕ) (ts : List Sighted) → IsJump ts → at_first (is k.Break) ts ≡ false → read lenient (Statement Closed) d l c ts ≡ (one (is k.Continue) c ts >>= (λ f c' r. got (s.Continue f.span) c' r))
closed_continue lenient d l c ts h0 h = closed_jump lenient d l c ts h0 ∙ chosen (at_first (is k.Break) ts) false _ _ h
    ∙ gives_on lenient (λ f. f.span) (tok k.Continue) d l c ts _
