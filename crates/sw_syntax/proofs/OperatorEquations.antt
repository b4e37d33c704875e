-- How expressions are read down to their operands.
use Rattle.std.proofs.Common.{◌≡◌, ℕ, zero, suc, ◌+◌, ◌-◌, ◌<◌, ◌≤◌, Bool, true, false, not, ◌&&◌, Option, Some, None, List, refl, ap, ◌∙◌, subst, arith}
use Rattle.sw_lex.specs.declared.token.TokenKind.TheVariants as k
use Rattle.sw_grammar.specs.Grammar as g
use Rattle.sw_grammar.specs.Reading.{Out, got, rejected, out_of_fuel, over_budget, ◌>>=◌, at_first, one}
use Rattle.sw_tree.specs.declared.expr.Expr.{Expr as ExprTree}
use Rattle.sw_tree.specs.declared.expr.Expr.TheVariants as e
use Rattle.sw_syntax.specs.Tokens.{Sighted, Face, same_kind}
use Rattle.sw_syntax.specs.Tests.{is, is_joined_question, is_ternary, is_sign, is_effect, is_binary, starts_operand}
use Rattle.sw_syntax.specs.Values.{prefix_of, binary_of, to_left, to_right, ternary_of, with_forms, awaited, tried, is_some}
use Rattle.sw_syntax.specs.Nonterminals.{Expr, Ternary, Binary, Prefix, Postfix, Primary, PostfixForm}
use Rattle.sw_syntax.specs.Parts.{P, ◌·◌, tok, place, present, after}
use Rattle.sw_syntax.specs.Grammar.{production, operand, right, leftward as leftward_part, try_mark}
use Rattle.sw_syntax.specs.Answering.{read, read_part, Takes}
use Rattle.sw_syntax.specs.Chains.{takes_one, try_part, await_part, branches, chain, once, forms}
use Rattle.sw_syntax.proofs.Classes.{apart}
use Rattle.sw_syntax.proofs.Equations.{step, IsOk, bind_assoc, bind_then, bracketed, chosen, counted, counted_over_budget, fold_end, fold_more}

-- ---- `try` and `await`

pub try_none : (lenient : Bool) → (d l c : ℕ) (ts : List Sighted) → at_first (is k.Try) ts ≡ false → try_part lenient d l c ts ≡ got None c ts
unfolding try_part
try_none lenient d l c ts h = chosen (at_first (is k.Try) ts) false _ (got None c ts) h

abbrev optional_mark : (lenient : Bool) → ℕ → List Sighted → Out Sighted Bool
optional_mark lenient c r = read_part lenient (present (g.terminal is_joined_question)) 0 0 c r

try_some : (lenient : Bool) → (d l c : ℕ) (ts : List Sighted) (f : Face) (r : List Sighted) → at_first (is k.Try) ts ≡ true → Takes (is k.Try) ts f r
    → try_part lenient d l c ts ≡ (optional_mark lenient c r >>= (λ q c' r'. got (Some (f.span, q)) c' r'))
unfolding try_part
try_some lenient d l c ts f r h takes =
    chosen (at_first (is k.Try) ts) true (read_part lenient try_mark d l c ts >>= (λ x c' r'. got (Some x) c' r')) (got None c ts) h
    ∙ ap (λ o. ((o >>= (λ f c' r'. got f.span c' r')) >>= (λ x c' r'. optional_mark lenient c' r' >>= (λ y c'' r''. got (x, y) c'' r''))) >>= (λ x c' r'. got (Some x) c' r')) (takes c)
    ∙ bind_assoc (optional_mark lenient c r) (λ y c'' r''. got (f.span, y) c'' r'') (λ x c' r'. got (Some x) c' r')

pub try_plain : (lenient : Bool) → (d l c : ℕ) (ts : List Sighted) (f : Face) (r : List Sighted) → at_first (is k.Try) ts ≡ true → Takes (is k.Try) ts f r → at_first is_joined_question r ≡ false
    → try_part lenient d l c ts ≡ got (Some (f.span, false)) c r
try_plain lenient d l c ts f r h takes bare = try_some lenient d l c ts f r h takes
    ∙ ap (λ o. (o >>= (λ x c' r'. got (is_some x) c' r')) >>= (λ q c' r'. got (Some (f.span, q)) c' r')) (chosen (at_first is_joined_question r) false (one is_joined_question c r >>= (λ x c' r'. got (Some x) c' r')) (got None c r) bare)

pub try_optional : (lenient : Bool) → (d l c : ℕ) (ts : List Sighted) (f : Face) (r : List Sighted) (q : Face) (r' : List Sighted) → at_first (is k.Try) ts ≡ true → Takes (is k.Try) ts f r
    → at_first is_joined_question r ≡ true → Takes is_joined_question r q r' → try_part lenient d l c ts ≡ got (Some (f.span, true)) c r'
try_optional lenient d l c ts f r q r' h takes joined takes' = try_some lenient d l c ts f r h takes
    ∙ ap (λ o. (o >>= (λ x c' r'. got (is_some x) c' r')) >>= (λ q c' r'. got (Some (f.span, q)) c' r')) (chosen (at_first is_joined_question r) true (one is_joined_question c r >>= (λ x c' r'. got (Some x) c' r')) (got None c r) joined)
    ∙ ap (λ o. ((o >>= (λ x c' r'. got (Some x) c' r')) >>= (λ x c' r'. got (is_some x) c' r')) >>= (λ q c' r'. got (Some (f.span, q)) c' r')) (takes' c)

pub await_none : (lenient : Bool) → (d l c : ℕ) (ts : List Sighted) → at_first (is k.Await) ts ≡ false → await_part lenient d l c ts ≡ got None c ts
await_none lenient d l c ts h = chosen (at_first (is k.Await) ts) false _ (got None c ts) h

pub await_some : (lenient : Bool) → (d l c : ℕ) (ts : List Sighted) (f : Face) (r : List Sighted) → at_first (is k.Await) ts ≡ true → Takes (is k.Await) ts f r → await_part lenient d l c ts ≡ got (Some f.span) c r
await_some lenient d l c ts f r h takes =
    chosen (at_first (is k.Await) ts) true (read_part lenient (place k.Await) d l c ts >>= (λ x c' r'. got (Some x) c' r')) (got None c ts) h
    ∙ ap (λ o. (o >>= (λ f c' r'. got f.span c' r')) >>= (λ x c' r'. got (Some x) c' r')) (takes c)

pub expr_tern : (lenient : Bool) → (d l c : ℕ) (ts : List Sighted)
    → read lenient Expr d l c ts ≡ (try_part lenient d l c ts >>= (λ t c1 r1. await_part lenient d l c1 r1 >>= (λ a c2 r2. read lenient Ternary d l c2 r2 >>= (λ x c3 r3. got (tried t (awaited a x)) c3 r3))))
unfolding try_part
expr_tern lenient d l c ts = step lenient Expr d l c ts ∙ bracketed (read_part lenient (g.maybe try_mark) d l c ts) (λ c r. await_part lenient d l c r) (λ c r. read lenient Ternary d l c r) (λ x. tried x.0 (awaited x.1.0 x.1.1))

-- ---- ternaries

pub tern_bin : (lenient : Bool) → (d l c : ℕ) (ts : List Sighted) → read lenient Ternary d l c ts ≡ (read lenient (Binary 0) d l c ts >>= (λ x c' r. branches lenient d l c' x r))
unfolding branches
tern_bin lenient d l c ts = step lenient Ternary d l c ts
    ∙ bind_then (read lenient (Binary 0) d l c ts) (λ c r. read_part lenient (g.maybe (after (g.counts (g.terminal is_ternary)) (g.nonterminal Expr · after (tok k.Colon) (g.nonterminal Expr)))) d l c r) (λ x. ternary_of x.0 x.1)

pub branches_none : (lenient : Bool) → (d l c : ℕ) (x : ExprTree) (ts : List Sighted) → at_first is_ternary ts ≡ false → branches lenient d l c x ts ≡ got x c ts
unfolding branches
branches_none lenient d l c x ts h = ap (λ o. o >>= (λ y c' r. got (ternary_of x y) c' r)) (chosen (at_first is_ternary ts) false _ (got None c ts) h)

abbrev two_branches : P (ExprTree × ExprTree)
two_branches = g.nonterminal Expr · after (tok k.Colon) (g.nonterminal Expr)

branches_some : (lenient : Bool) → (d l c : ℕ) (x : ExprTree) (ts : List Sighted) → at_first is_ternary ts ≡ true
    → branches lenient d l c x ts ≡ (((((read_part lenient (g.counts (g.terminal is_ternary)) d l c ts) >>= (λ f c1 r1. read_part lenient two_branches d l c1 r1 >>= (λ y c2 r2. got (f, y) c2 r2))) >>= (λ (y : Face × (ExprTree × ExprTree)) c2 r2. got y.1 c2 r2)) >>= (λ y c2 r2. got (Some y) c2 r2)) >>= (λ y c2 r2. got (ternary_of x y) c2 r2))
unfolding branches
branches_some lenient d l c x ts h = ap (λ o. o >>= (λ y c' r. got (ternary_of x y) c' r)) (chosen (at_first is_ternary ts) true _ (got None c ts) h)

pub branches_over_budget : (lenient : Bool) → (d l c : ℕ) (x : ExprTree) (ts : List Sighted) → at_first is_ternary ts ≡ true → c ≡ 0 → branches lenient d l c x ts ≡ rejected over_budget ts
branches_over_budget lenient d l c x ts h z = branches_some lenient d l c x ts h
    ∙ ap (λ o. (((o >>= (λ f c1 r1. read_part lenient two_branches d l c1 r1 >>= (λ y c2 r2. got (f, y) c2 r2))) >>= (λ (y : Face × (ExprTree × ExprTree)) c2 r2. got y.1 c2 r2)) >>= (λ y c2 r2. got (Some y) c2 r2)) >>= (λ y c2 r2. got (ternary_of x y) c2 r2)) (counted_over_budget lenient is_ternary d l c ts z h)

both_branches : (x : ExprTree) (f : Face) (o : Out Sighted ExprTree) (q : ℕ → List Sighted → Out Sighted Face) (s : ℕ → List Sighted → Out Sighted ExprTree)
    → (((((o >>= (λ y c r. ((q c r >>= (λ f c' r'. s c' r' >>= (λ z c'' r''. got (f, z) c'' r''))) >>= (λ (z : Face × ExprTree) c'' r''. got z.1 c'' r'')) >>= (λ z c' r'. got (y, z) c' r'))) >>= (λ y c2 r2. got (f, y) c2 r2)) >>= (λ (y : Face × (ExprTree × ExprTree)) c2 r2. got y.1 c2 r2)) >>= (λ y c2 r2. got (Some y) c2 r2)) >>= (λ y c2 r2. got (ternary_of x y) c2 r2))
    ≡ (o >>= (λ y c r. q c r >>= (λ _ c' r'. s c' r' >>= (λ z c'' r''. got (e.Ternary x (y, z)) c'' r''))))
both_branches x f (got y c r) q s = go (q c r)
  where
    last : (o : Out Sighted ExprTree) (h : Face) → ((((((o >>= (λ z c'' r''. got (h, z) c'' r'')) >>= (λ (z : Face × ExprTree) c'' r''. got z.1 c'' r'')) >>= (λ z c' r'. got (y, z) c' r')) >>= (λ y c2 r2. got (f, y) c2 r2)) >>= (λ (y : Face × (ExprTree × ExprTree)) c2 r2. got y.1 c2 r2)) >>= (λ y c2 r2. got (Some y) c2 r2)) >>= (λ y c2 r2. got (ternary_of x y) c2 r2) ≡ (o >>= (λ z c'' r''. got (e.Ternary x (y, z)) c'' r''))
    last (got z c r) h = refl
    last (rejected reason r) h = refl
    last out_of_fuel h = refl

    go : (o : Out Sighted Face) → ((((((o >>= (λ f c' r'. s c' r' >>= (λ z c'' r''. got (f, z) c'' r''))) >>= (λ (z : Face × ExprTree) c'' r''. got z.1 c'' r'')) >>= (λ z c' r'. got (y, z) c' r')) >>= (λ y c2 r2. got (f, y) c2 r2)) >>= (λ (y : Face × (ExprTree × ExprTree)) c2 r2. got y.1 c2 r2)) >>= (λ y c2 r2. got (Some y) c2 r2)) >>= (λ y c2 r2. got (ternary_of x y) c2 r2) ≡ (o >>= (λ _ c' r'. s c' r' >>= (λ z c'' r''. got (e.Ternary x (y, z)) c'' r'')))
    go (got h c r) = last (s c r) h
    go (rejected reason r) = refl
    go out_of_fuel = refl
both_branches x f (rejected reason r) q s = refl
both_branches x f out_of_fuel q s = refl

pub branches_more : (lenient : Bool) → (d l c : ℕ) (x : ExprTree) (ts : List Sighted) (f : Face) (r : List Sighted) → at_first is_ternary ts ≡ true → (c ≡ 0 → ⊥) → Takes is_ternary ts f r
    → branches lenient d l c x ts ≡ (read lenient Expr d l (c - 1) r >>= (λ y c1 r1. one (is k.Colon) c1 r1 >>= (λ _ c2 r2. read lenient Expr d l c2 r2 >>= (λ z c3 r3. got (e.Ternary x (y, z)) c3 r3))))
branches_more lenient d l c x ts f r h z takes = branches_some lenient d l c x ts h
    ∙ ap (λ o. (((o >>= (λ f c1 r1. read_part lenient two_branches d l c1 r1 >>= (λ y c2 r2. got (f, y) c2 r2))) >>= (λ (y : Face × (ExprTree × ExprTree)) c2 r2. got y.1 c2 r2)) >>= (λ y c2 r2. got (Some y) c2 r2)) >>= (λ y c2 r2. got (ternary_of x y) c2 r2)) (counted lenient is_ternary d l c ts z ∙ takes (c - 1))
    ∙ both_branches x f (read lenient Expr d l (c - 1) r) (λ c r. one (is k.Colon) c r) (λ c r. read lenient Expr d l c r)

-- ---- binary marks

decided_right : (lenient : Bool) (m : ℕ) → IsOk lenient (right lenient m)
unfolding same_kind
decided_right false m = tt
decided_right true m = (tt, tt, apart _ _ refl, refl, refl)

decided_operand : (lenient : Bool) (n m : ℕ) → IsOk lenient (operand n (right lenient m))
decided_operand lenient n m = ((tt, refl), decided_right lenient m, λ t e h. cc)

abbrev binary : Face → ExprTree → ExprTree → ExprTree
binary f left right = e.Binary (binary_of f.kind) f.span (left, right)

pub chain_end : (lenient : Bool) → (n d l c : ℕ) (left : ExprTree) (ts : List Sighted) → at_first (is_binary n) ts ≡ false → chain lenient n d l c left ts ≡ got left c ts
unfolding chain
chain_end lenient n d l c left ts h = fold_end lenient (operand n (right lenient (suc n))) (decided_operand lenient n (suc n)) refl to_left (λ left x. binary x.0 left x.1) (λ left x xs. refl) d l c left ts h

abbrev chain_back : (lenient : Bool) → ℕ → ℕ → ℕ → ExprTree → (Face × ExprTree) → ℕ → List Sighted → Out Sighted ExprTree
chain_back lenient n d l left x c r = read_part lenient (g.many (operand n (right lenient (suc n)))) d l c r >>= (λ xs c' r'. got (to_left (binary x.0 left x.1) xs) c' r')

chain_some : (lenient : Bool) → (n d l c : ℕ) (left : ExprTree) (ts : List Sighted) → at_first (is_binary n) ts ≡ true
    → chain lenient n d l c left ts ≡ ((read_part lenient (g.counts (g.terminal (is_binary n))) d l c ts >>= (λ f c1 r1. read_part lenient (right lenient (suc n)) d l c1 r1 >>= (λ y c2 r2. got (f, y) c2 r2))) >>= chain_back lenient n d l left)
unfolding chain
chain_some lenient n d l c left ts h = fold_more lenient (operand n (right lenient (suc n))) (decided_operand lenient n (suc n)) refl to_left (λ left x. binary x.0 left x.1) (λ left x xs. refl) d l c left ts h

pub chain_over_budget : (lenient : Bool) → (n d l c : ℕ) (left : ExprTree) (ts : List Sighted) → at_first (is_binary n) ts ≡ true → c ≡ 0 → chain lenient n d l c left ts ≡ rejected over_budget ts
chain_over_budget lenient n d l c left ts h z = chain_some lenient n d l c left ts h
    ∙ ap (λ o. (o >>= (λ f c1 r1. read_part lenient (right lenient (suc n)) d l c1 r1 >>= (λ y c2 r2. got (f, y) c2 r2))) >>= chain_back lenient n d l left) (counted_over_budget lenient (is_binary n) d l c ts z h)

pub chain_more : (lenient : Bool) → (n d l c : ℕ) (left : ExprTree) (ts : List Sighted) (f : Face) (r : List Sighted) → at_first (is_binary n) ts ≡ true → (c ≡ 0 → ⊥) → Takes (is_binary n) ts f r
    → chain lenient n d l c left ts ≡ (read_part lenient (right lenient (suc n)) d l (c - 1) r >>= (λ y c' r'. chain lenient n d l c' (e.Binary (binary_of f.kind) f.span (left, y)) r'))
unfolding chain
chain_more lenient n d l c left ts f r h z takes = chain_some lenient n d l c left ts h
    ∙ ap (λ o. (o >>= (λ f c1 r1. read_part lenient (right lenient (suc n)) d l c1 r1 >>= (λ y c2 r2. got (f, y) c2 r2))) >>= chain_back lenient n d l left) (counted lenient (is_binary n) d l c ts z ∙ takes (c - 1))
    ∙ bind_assoc (read_part lenient (right lenient (suc n)) d l (c - 1) r) (λ y c2 r2. got (f, y) c2 r2) (chain_back lenient n d l left)

pub once_none : (lenient : Bool) → (n m d l c : ℕ) (x : ExprTree) (ts : List Sighted) → at_first (is_binary n) ts ≡ false → once lenient n m d l c x ts ≡ got x c ts
unfolding once
once_none lenient n m d l c x ts h = ap (λ o. o >>= (λ y c' r. got (to_right x y) c' r)) (chosen (at_first (is_binary n) ts) false _ (got None c ts) h)

once_some : (lenient : Bool) → (n m d l c : ℕ) (x : ExprTree) (ts : List Sighted) → at_first (is_binary n) ts ≡ true
    → once lenient n m d l c x ts ≡ (((read_part lenient (g.counts (g.terminal (is_binary n))) d l c ts >>= (λ f c1 r1. read_part lenient (right lenient m) d l c1 r1 >>= (λ y c2 r2. got (f, y) c2 r2))) >>= (λ y c2 r2. got (Some y) c2 r2)) >>= (λ y c' r. got (to_right x y) c' r))
unfolding once
once_some lenient n m d l c x ts h = ap (λ o. o >>= (λ y c' r. got (to_right x y) c' r)) (chosen (at_first (is_binary n) ts) true _ (got None c ts) h)

pub once_over_budget : (lenient : Bool) → (n m d l c : ℕ) (x : ExprTree) (ts : List Sighted) → at_first (is_binary n) ts ≡ true → c ≡ 0 → once lenient n m d l c x ts ≡ rejected over_budget ts
once_over_budget lenient n m d l c x ts h z = once_some lenient n m d l c x ts h
    ∙ ap (λ o. ((o >>= (λ f c1 r1. read_part lenient (right lenient m) d l c1 r1 >>= (λ y c2 r2. got (f, y) c2 r2))) >>= (λ y c2 r2. got (Some y) c2 r2)) >>= (λ y c' r. got (to_right x y) c' r)) (counted_over_budget lenient (is_binary n) d l c ts z h)

pub once_more : (lenient : Bool) → (n m d l c : ℕ) (x : ExprTree) (ts : List Sighted) (f : Face) (r : List Sighted) → at_first (is_binary n) ts ≡ true → (c ≡ 0 → ⊥) → Takes (is_binary n) ts f r
    → once lenient n m d l c x ts ≡ (read_part lenient (right lenient m) d l (c - 1) r >>= (λ y c' r'. got (e.Binary (binary_of f.kind) f.span (x, y)) c' r'))
once_more lenient n m d l c x ts f r h z takes = once_some lenient n m d l c x ts h
    ∙ ap (λ o. ((o >>= (λ f c1 r1. read_part lenient (right lenient m) d l c1 r1 >>= (λ y c2 r2. got (f, y) c2 r2))) >>= (λ y c2 r2. got (Some y) c2 r2)) >>= (λ y c' r. got (to_right x y) c' r)) (counted lenient (is_binary n) d l c ts z ∙ takes (c - 1))
    ∙ ap (λ o. o >>= (λ y c' r. got (to_right x y) c' r)) (bind_assoc (read_part lenient (right lenient m) d l (c - 1) r) (λ y c2 r2. got (f, y) c2 r2) (λ y c2 r2. got (Some y) c2 r2))
    ∙ bind_assoc (read_part lenient (right lenient m) d l (c - 1) r) (λ y c2 r2. got (Some (f, y)) c2 r2) (λ y c' r. got (to_right x y) c' r)

leftward : (lenient : Bool) (n d l c : ℕ) (ts : List Sighted) → read_part lenient (production lenient (Binary n)) d l c ts ≡ read_part lenient (leftward_part lenient n) d l c ts
    → read lenient (Binary n) d l c ts ≡ (read lenient (Binary (suc n)) d l c ts >>= (λ x c' r. chain lenient n d l c' x r))
unfolding chain
leftward lenient n d l c ts h = step lenient (Binary n) d l c ts ∙ h ∙ bind_then (read lenient (Binary (suc n)) d l c ts) (λ c r. read_part lenient (g.many (operand n (right lenient (suc n)))) d l c r) (λ x. to_left x.0 x.1)

one_mark : (lenient : Bool) (n d l c : ℕ) (ts : List Sighted) → read_part lenient (production lenient (Binary n)) d l c ts ≡ read_part lenient (g.gives (λ (x : ExprTree × Option (Face × ExprTree)). to_right x.0 x.1) (g.nonterminal (Binary (suc n)) · g.maybe (operand n (right lenient 3)))) d l c ts
    → read lenient (Binary n) d l c ts ≡ (read lenient (Binary (suc n)) d l c ts >>= (λ x c' r. once lenient n 3 d l c' x r))
unfolding once
one_mark lenient n d l c ts h = step lenient (Binary n) d l c ts ∙ h ∙ bind_then (read lenient (Binary (suc n)) d l c ts) (λ c r. read_part lenient (g.maybe (operand n (right lenient 3))) d l c r) (λ x. to_right x.0 x.1)

next_strength : (n : ℕ) → suc n ≡ n + 1
next_strength n = omega arith

-- marks that are taken to the left
pub bin_leftward : (lenient : Bool) (n d l c : ℕ) (ts : List Sighted) → takes_one lenient n ≡ false → n < 6 → read lenient (Binary n) d l c ts ≡ (read lenient (Binary (n + 1)) d l c ts >>= (λ x c' r. chain lenient n d l c' x r))
bin_leftward lenient n d l c ts h below = subst (λ m. read lenient (Binary n) d l c ts ≡ (read lenient (Binary m) d l c ts >>= (λ x c' r. chain lenient n d l c' x r))) (next_strength n) (go lenient n h below)
  where
    go : (lenient : Bool) (n : ℕ) → takes_one lenient n ≡ false → n < 6 → read lenient (Binary n) d l c ts ≡ (read lenient (Binary (suc n)) d l c ts >>= (λ x c' r. chain lenient n d l c' x r))
    go lenient zero h below = leftward lenient 0 d l c ts refl
    go lenient (suc zero) h below = leftward lenient 1 d l c ts refl
    go false (suc (suc zero)) h below = absurd cc
    go true (suc (suc zero)) h below = leftward true 2 d l c ts refl
    go lenient (suc (suc (suc zero))) h below = absurd cc
    go lenient (suc (suc (suc (suc zero)))) h below = leftward lenient 4 d l c ts refl
    go lenient (suc (suc (suc (suc (suc zero))))) h below = leftward lenient 5 d l c ts refl
    go lenient (suc (suc (suc (suc (suc (suc n)))))) h below = absurd (omega arith)

-- marks of which one at most is taken
pub bin_one : (lenient : Bool) (n d l c : ℕ) (ts : List Sighted) → takes_one lenient n ≡ true → read lenient (Binary n) d l c ts ≡ (read lenient (Binary (n + 1)) d l c ts >>= (λ x c' r. once lenient n 3 d l c' x r))
bin_one lenient n d l c ts h = subst (λ m. read lenient (Binary n) d l c ts ≡ (read lenient (Binary m) d l c ts >>= (λ x c' r. once lenient n 3 d l c' x r))) (next_strength n) (go lenient n h)
  where
    go : (lenient : Bool) (n : ℕ) → takes_one lenient n ≡ true → read lenient (Binary n) d l c ts ≡ (read lenient (Binary (suc n)) d l c ts >>= (λ x c' r. once lenient n 3 d l c' x r))
    go lenient zero h = absurd cc
    go lenient (suc zero) h = absurd cc
    go false (suc (suc zero)) h = one_mark false 2 d l c ts refl
    go true (suc (suc zero)) h = absurd cc
    go lenient (suc (suc (suc zero))) h = one_mark lenient 3 d l c ts refl
    go lenient (suc (suc (suc (suc n)))) h = absurd cc

pub bin_prefix : (lenient : Bool) (n d l c : ℕ) (ts : List Sighted) → 6 ≤ n → read lenient (Binary n) d l c ts ≡ read lenient Prefix d l c ts
bin_prefix lenient zero d l c ts h = absurd (omega arith)
bin_prefix lenient (suc zero) d l c ts h = absurd (omega arith)
bin_prefix lenient (suc (suc zero)) d l c ts h = absurd (omega arith)
bin_prefix lenient (suc (suc (suc zero))) d l c ts h = absurd (omega arith)
bin_prefix lenient (suc (suc (suc (suc zero)))) d l c ts h = absurd (omega arith)
bin_prefix lenient (suc (suc (suc (suc (suc zero))))) d l c ts h = absurd (omega arith)
bin_prefix lenient (suc (suc (suc (suc (suc (suc n)))))) d l c ts h = step lenient (Binary (suc (suc (suc (suc (suc (suc n))))))) d l c ts

-- the chain one mark on, with the strength as the code has it
pub chain_plus : (lenient : Bool) (n d l c : ℕ) (left : ExprTree) (ts : List Sighted) (f : Face) (r : List Sighted) → at_first (is_binary n) ts ≡ true → (c ≡ 0 → ⊥) → Takes (is_binary n) ts f r
    → chain lenient n d l c left ts ≡ (read_part lenient (right lenient (n + 1)) d l (c - 1) r >>= (λ y c' r'. chain lenient n d l c' (e.Binary (binary_of f.kind) f.span (left, y)) r'))
chain_plus lenient n d l c left ts f r h z takes =
    subst (λ m. chain lenient n d l c left ts ≡ (read_part lenient (right lenient m) d l (c - 1) r >>= (λ y c' r'. chain lenient n d l c' (e.Binary (binary_of f.kind) f.span (left, y)) r'))) (next_strength n) (chain_more lenient n d l c left ts f r h z takes)

-- what stands right of a mark: an operand, unless the grammar is lenient and none begins there
pub right_operand : (lenient : Bool) (n d l c : ℕ) (ts : List Sighted) → (lenient && not (at_first starts_operand ts)) ≡ false → read_part lenient (right lenient n) d l c ts ≡ read lenient (Binary n) d l c ts
right_operand false n d l c ts h = refl
right_operand true n d l c ts h = chosen (at_first starts_operand ts) true _ _ (said (at_first starts_operand ts) h)
  where
    said : (x : Bool) → (true && not x) ≡ false → x ≡ true
    said true h = refl
    said false h = absurd cc

pub right_effect : (lenient : Bool) (n d l c : ℕ) (ts : List Sighted) → (lenient && not (at_first starts_operand ts)) ≡ true → read_part lenient (right lenient n) d l c ts ≡ (one is_effect c ts >>= (λ f c' r. got (e.Nil f.span) c' r))
right_effect false n d l c ts h = absurd cc
right_effect true n d l c ts h = chosen (at_first starts_operand ts) false _ _ (said (at_first starts_operand ts) h)
  where
    said : (x : Bool) → (true && not x) ≡ true → x ≡ false
    said true h = absurd cc
    said false h = refl

-- ---- signs

pub prefix_postfix : (lenient : Bool) → (d l c : ℕ) (ts : List Sighted) → at_first is_sign ts ≡ false → read lenient Prefix d l c ts ≡ read lenient Postfix d l c ts
prefix_postfix lenient d l c ts h = step lenient Prefix d l c ts ∙ chosen (at_first is_sign ts) false _ _ h

abbrev signed : (lenient : Bool) → ℕ → ℕ → Out Sighted Face → Out Sighted ExprTree
signed lenient d l o = (o >>= (λ f c1 r1. read lenient Prefix d l c1 r1 >>= (λ x c2 r2. got (f, x) c2 r2))) >>= (λ (x : Face × ExprTree) c2 r2. got (e.Prefix (prefix_of x.0.kind) x.0.span x.1) c2 r2)

pub prefix_over_budget : (lenient : Bool) → (d l c : ℕ) (ts : List Sighted) → at_first is_sign ts ≡ true → c ≡ 0 → read lenient Prefix d l c ts ≡ rejected over_budget ts
prefix_over_budget lenient d l c ts h z = step lenient Prefix d l c ts ∙ chosen (at_first is_sign ts) true _ _ h ∙ ap (signed lenient d l) (counted_over_budget lenient is_sign d l c ts z h)

pub prefix_sign : (lenient : Bool) → (d l c : ℕ) (ts : List Sighted) (f : Face) (r : List Sighted) → at_first is_sign ts ≡ true → (c ≡ 0 → ⊥) → Takes is_sign ts f r
    → read lenient Prefix d l c ts ≡ (read lenient Prefix d l (c - 1) r >>= (λ x c' r'. got (e.Prefix (prefix_of f.kind) f.span x) c' r'))
prefix_sign lenient d l c ts f r h z takes = step lenient Prefix d l c ts ∙ chosen (at_first is_sign ts) true _ _ h ∙ ap (signed lenient d l) (counted lenient is_sign d l c ts z ∙ takes (c - 1))
    ∙ bind_assoc (read lenient Prefix d l (c - 1) r) (λ x c2 r2. got (f, x) c2 r2) (λ (x : Face × ExprTree) c2 r2. got (e.Prefix (prefix_of x.0.kind) x.0.span x.1) c2 r2)

pub postfix_primary : (lenient : Bool) → (d l c : ℕ) (ts : List Sighted) → read lenient Postfix d l c ts ≡ (read lenient Primary d l c ts >>= (λ x c' r. forms lenient d l c' x r))
unfolding forms
postfix_primary lenient d l c ts = step lenient Postfix d l c ts ∙ bind_then (read lenient Primary d l c ts) (λ c r. read_part lenient (g.many (g.nonterminal PostfixForm)) d l c r) (λ x. with_forms x.0 x.1)
