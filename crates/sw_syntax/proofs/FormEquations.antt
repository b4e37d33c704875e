-- How members, calls, indices and `!` are read, and arguments.
use Rattle.std.proofs.Common.{◌≡◌, ℕ, zero, suc, ◌-◌, Bool, true, false, ◌||◌, Some, None, List, [], ◌∷◌, ◌++◌, refl, sym, ap, ◌∙◌, append_assoc, append-nil, arith}
use Rattle.sw_lex.specs.declared.token.TokenKind.TheVariants as k
use Rattle.sw_grammar.specs.Grammar as g
use Rattle.sw_grammar.specs.Reading.{Out, got, rejected, out_of_fuel, over_budget, unexpected, ◌>>=◌, at_first, one}
use Rattle.sw_tree.specs.declared.expr.Name.{Name}
use Rattle.sw_tree.specs.declared.expr.Expr.{Expr as ExprTree}
use Rattle.sw_tree.specs.declared.expr.Expr.TheVariants as e
use Rattle.sw_tree.specs.declared.expr.Argument.{Argument as ArgumentTree}
use Rattle.sw_syntax.specs.declared.class.Sight.{Sight}
use Rattle.sw_syntax.specs.Tokens.{Sighted, Face}
use Rattle.sw_syntax.specs.Tests.{is, is_name, is_call, is_index, is_force, is_label, is_unlabelled, starts_expr}
use Rattle.sw_syntax.specs.Values.{or_none, name_of, with_forms}
use Rattle.sw_syntax.specs.Nonterminals.{Expr, PostfixForm, Argument}
use Rattle.sw_syntax.specs.Parts.{P, ◌·◌, tok, name, after, any}
use Rattle.sw_syntax.specs.Tables.{first_table, is_form}
use Rattle.sw_syntax.specs.Answering.{read, read_part, Takes}
use Rattle.sw_syntax.specs.Chains.{forms, arg_list, more_args}
use Rattle.sw_syntax.proofs.Equations.{step, bind_assoc, chosen, counted, counted_over_budget, opened, opened_over_budget, first_left, first_right, fold_end, fold_more}

-- ---- forms

pub forms_end : (lenient : Bool) → (d l c : ℕ) (x : ExprTree) (ts : List Sighted) → at_first is_form ts ≡ false → forms lenient d l c x ts ≡ got x c ts
unfolding forms
forms_end lenient d l c x ts h = fold_end lenient (g.nonterminal PostfixForm) tt refl with_forms (λ base form. form base) (λ base form rest. refl) d l c x ts h

forms_more : (lenient : Bool) → (d l c : ℕ) (x : ExprTree) (ts : List Sighted) → at_first is_form ts ≡ true → forms lenient d l c x ts ≡ (read lenient PostfixForm d l c ts >>= (λ form c' r. forms lenient d l c' (form x) r))
unfolding forms
forms_more lenient d l c x ts h = fold_more lenient (g.nonterminal PostfixForm) tt refl with_forms (λ base form. form base) (λ base form rest. refl) d l c x ts h

abbrev back : (lenient : Bool) → ℕ → ℕ → ExprTree → Out Sighted (ExprTree → ExprTree) → Out Sighted ExprTree
back lenient d l x o = o >>= (λ form c' r. forms lenient d l c' (form x) r)

is_dot_form : (ts : List Sighted) → at_first (is k.Dot) ts ≡ true → at_first is_form ts ≡ true
is_dot_form ts h = first_left (is k.Dot) (λ t. is_call t || (is_index t || is_force t)) ts h

is_call_form : (ts : List Sighted) → at_first is_call ts ≡ true → at_first is_form ts ≡ true
is_call_form ts h = first_right (is k.Dot) (λ t. is_call t || (is_index t || is_force t)) ts (first_left is_call (λ t. is_index t || is_force t) ts h)

is_index_form : (ts : List Sighted) → at_first is_index ts ≡ true → at_first is_form ts ≡ true
is_index_form ts h = first_right (is k.Dot) (λ t. is_call t || (is_index t || is_force t)) ts (first_right is_call (λ t. is_index t || is_force t) ts (first_left is_index is_force ts h))

is_force_form : (ts : List Sighted) → at_first is_force ts ≡ true → at_first is_form ts ≡ true
is_force_form ts h = first_right (is k.Dot) (λ t. is_call t || (is_index t || is_force t)) ts (first_right is_call (λ t. is_index t || is_force t) ts (first_right is_index is_force ts h))

-- ---- members

abbrev member_of : (lenient : Bool) → ℕ → ℕ → ExprTree → Out Sighted Face → Out Sighted ExprTree
member_of lenient d l x o = back lenient d l x (((o >>= (λ f c1 r1. read_part lenient name d l c1 r1 >>= (λ n c2 r2. got (f, n) c2 r2))) >>= (λ (z : Face × Name) c2 r2. got z.1 c2 r2)) >>= (λ n c2 r2. got (λ base. e.Member base n) c2 r2))

member_step : (lenient : Bool) → (d l c : ℕ) (x : ExprTree) (ts : List Sighted) → at_first (is k.Dot) ts ≡ true → forms lenient d l c x ts ≡ member_of lenient d l x (read_part lenient (g.counts (tok k.Dot)) d l c ts)
member_step lenient d l c x ts h = forms_more lenient d l c x ts (is_dot_form ts h) ∙ ap (back lenient d l x) (step lenient PostfixForm d l c ts ∙ chosen (at_first (is k.Dot) ts) true _ _ h)

pub member_over_budget : (lenient : Bool) → (d l c : ℕ) (x : ExprTree) (ts : List Sighted) → at_first (is k.Dot) ts ≡ true → c ≡ 0 → forms lenient d l c x ts ≡ rejected over_budget ts
member_over_budget lenient d l c x ts h z = member_step lenient d l c x ts h ∙ ap (member_of lenient d l x) (counted_over_budget lenient (is k.Dot) d l c ts z h)

named : (lenient : Bool) → (d l : ℕ) (x : ExprTree) (f : Face) (o : Out Sighted Face)
    → back lenient d l x ((((o >>= (λ n c2 r2. got (name_of n) c2 r2)) >>= (λ n c2 r2. got (f, n) c2 r2)) >>= (λ (z : Face × Name) c2 r2. got z.1 c2 r2)) >>= (λ n c2 r2. got (λ base. e.Member base n) c2 r2)) ≡ (o >>= (λ n c' r'. forms lenient d l c' (e.Member x (name_of n)) r'))
named lenient d l x f (got n c r) = refl
named lenient d l x f (rejected reason r) = refl
named lenient d l x f out_of_fuel = refl

pub member_more : (lenient : Bool) → (d l c : ℕ) (x : ExprTree) (ts : List Sighted) (f : Face) (r : List Sighted) → at_first (is k.Dot) ts ≡ true → (c ≡ 0 → ⊥) → Takes (is k.Dot) ts f r
    → forms lenient d l c x ts ≡ (one is_name (c - 1) r >>= (λ n c' r'. forms lenient d l c' (e.Member x (name_of n)) r'))
member_more lenient d l c x ts f r h z takes = member_step lenient d l c x ts h ∙ ap (member_of lenient d l x) (counted lenient (is k.Dot) d l c ts z ∙ takes (c - 1)) ∙ named lenient d l x f (one is_name (c - 1) r)

-- ---- calls

abbrev call : P (Face × (List ArgumentTree × Face))
call = g.counts (g.terminal is_call) · any (g.nonterminal Argument) · tok k.RightParen

abbrev called : (lenient : Bool) → ℕ → ℕ → ExprTree → Out Sighted (Face × (List ArgumentTree × Face)) → Out Sighted ExprTree
called lenient d l x o = back lenient d l x (o >>= (λ z c2 r2. got (λ base. e.Call base (z.0.span, z.1.0)) c2 r2))

call_step : (lenient : Bool) → (d l c : ℕ) (x : ExprTree) (ts : List Sighted) → at_first (is k.Dot) ts ≡ false → at_first is_call ts ≡ true → forms lenient d l c x ts ≡ called lenient d l x (read_part lenient (g.nest call) d l c ts)
call_step lenient d l c x ts h0 h = forms_more lenient d l c x ts (is_call_form ts h) ∙ ap (back lenient d l x) (step lenient PostfixForm d l c ts ∙ chosen (at_first (is k.Dot) ts) false _ _ h0 ∙ chosen (at_first is_call ts) true _ _ h)

pub call_deep : (lenient : Bool) → (d l c : ℕ) (x : ExprTree) (ts : List Sighted) → at_first (is k.Dot) ts ≡ false → at_first is_call ts ≡ true → d ≡ 0 → forms lenient d l c x ts ≡ rejected over_budget ts
call_deep lenient d l c x ts h0 h z = call_step lenient d l c x ts h0 h ∙ ap (called lenient d l x) (opened_over_budget lenient call d l c ts z h)

abbrev counted_call : (lenient : Bool) → ℕ → ℕ → Out Sighted Face → Out Sighted (Face × (List ArgumentTree × Face))
counted_call lenient d l o = o >>= (λ f c r. (arg_list lenient d l c r >>= (λ xs c' r'. one (is k.RightParen) c' r' >>= (λ q c'' r''. got (xs, q) c'' r''))) >>= (λ w c' r'. got (f, w) c' r'))

call_open : (lenient : Bool) → (d l c : ℕ) (x : ExprTree) (ts : List Sighted) → at_first (is k.Dot) ts ≡ false → at_first is_call ts ≡ true → (d ≡ 0 → ⊥)
    → forms lenient d l c x ts ≡ called lenient d l x (counted_call lenient (d - 1) l (read_part lenient (g.counts (g.terminal is_call)) (d - 1) l c ts))
unfolding arg_list
call_open lenient d l c x ts h0 h z = call_step lenient d l c x ts h0 h ∙ ap (called lenient d l x) (opened lenient call d l c ts z)

pub call_over_budget : (lenient : Bool) → (d l c : ℕ) (x : ExprTree) (ts : List Sighted) → at_first (is k.Dot) ts ≡ false → at_first is_call ts ≡ true → (d ≡ 0 → ⊥) → c ≡ 0 → forms lenient d l c x ts ≡ rejected over_budget ts
call_over_budget lenient d l c x ts h0 h z z' = call_open lenient d l c x ts h0 h z ∙ ap (λ o. called lenient d l x (counted_call lenient (d - 1) l o)) (counted_over_budget lenient is_call (d - 1) l c ts z' h)

call_shape : (lenient : Bool) → (d l : ℕ) (x : ExprTree) (f : Face) (o : Out Sighted (List ArgumentTree)) (q : ℕ → List Sighted → Out Sighted Face)
    → called lenient d l x ((o >>= (λ xs c' r'. q c' r' >>= (λ y c'' r''. got (xs, y) c'' r''))) >>= (λ w c' r'. got (f, w) c' r')) ≡ (o >>= (λ xs c' r'. q c' r' >>= (λ _ c'' r''. forms lenient d l c'' (e.Call x (f.span, xs)) r'')))
call_shape lenient d l x f (got xs c r) q = go (q c r)
  where
    go : (o : Out Sighted Face) → called lenient d l x ((o >>= (λ y c'' r''. got (xs, y) c'' r'')) >>= (λ w c' r'. got (f, w) c' r')) ≡ (o >>= (λ _ c'' r''. forms lenient d l c'' (e.Call x (f.span, xs)) r''))
    go (got y c r) = refl
    go (rejected reason r) = refl
    go out_of_fuel = refl
call_shape lenient d l x f (rejected reason r) q = refl
call_shape lenient d l x f out_of_fuel q = refl

pub call_more : (lenient : Bool) → (d l c : ℕ) (x : ExprTree) (ts : List Sighted) (f : Face) (r : List Sighted) → at_first (is k.Dot) ts ≡ false → at_first is_call ts ≡ true → (d ≡ 0 → ⊥) → (c ≡ 0 → ⊥) → Takes is_call ts f r
    → forms lenient d l c x ts ≡ (arg_list lenient (d - 1) l (c - 1) r >>= (λ xs c' r'. one (is k.RightParen) c' r' >>= (λ _ c'' r''. forms lenient d l c'' (e.Call x (f.span, xs)) r'')))
call_more lenient d l c x ts f r h0 h z z' takes = call_open lenient d l c x ts h0 h z
    ∙ ap (λ o. called lenient d l x (counted_call lenient (d - 1) l o)) (counted lenient is_call (d - 1) l c ts z' ∙ takes (c - 1))
    ∙ call_shape lenient d l x f (arg_list lenient (d - 1) l (c - 1) r) (λ c r. one (is k.RightParen) c r)

-- ---- indices

abbrev index : P (Face × (ExprTree × Face))
index = g.counts (g.terminal is_index) · g.nonterminal Expr · tok k.RightBracket

abbrev indexed : (lenient : Bool) → ℕ → ℕ → ExprTree → Out Sighted (Face × (ExprTree × Face)) → Out Sighted ExprTree
indexed lenient d l x o = back lenient d l x (o >>= (λ z c2 r2. got (λ base. e.Index base (z.0.span, z.1.0)) c2 r2))

index_step : (lenient : Bool) → (d l c : ℕ) (x : ExprTree) (ts : List Sighted) → at_first (is k.Dot) ts ≡ false → at_first is_call ts ≡ false → at_first is_index ts ≡ true → forms lenient d l c x ts ≡ indexed lenient d l x (read_part lenient (g.nest index) d l c ts)
index_step lenient d l c x ts h0 h1 h = forms_more lenient d l c x ts (is_index_form ts h)
    ∙ ap (back lenient d l x) (step lenient PostfixForm d l c ts ∙ chosen (at_first (is k.Dot) ts) false _ _ h0 ∙ chosen (at_first is_call ts) false _ _ h1 ∙ chosen (at_first is_index ts) true _ _ h)

pub index_deep : (lenient : Bool) → (d l c : ℕ) (x : ExprTree) (ts : List Sighted) → at_first (is k.Dot) ts ≡ false → at_first is_call ts ≡ false → at_first is_index ts ≡ true → d ≡ 0 → forms lenient d l c x ts ≡ rejected over_budget ts
index_deep lenient d l c x ts h0 h1 h z = index_step lenient d l c x ts h0 h1 h ∙ ap (indexed lenient d l x) (opened_over_budget lenient index d l c ts z h)

abbrev counted_index : (lenient : Bool) → ℕ → ℕ → Out Sighted Face → Out Sighted (Face × (ExprTree × Face))
counted_index lenient d l o = o >>= (λ f c r. (read lenient Expr d l c r >>= (λ y c' r'. one (is k.RightBracket) c' r' >>= (λ q c'' r''. got (y, q) c'' r''))) >>= (λ w c' r'. got (f, w) c' r'))

index_open : (lenient : Bool) → (d l c : ℕ) (x : ExprTree) (ts : List Sighted) → at_first (is k.Dot) ts ≡ false → at_first is_call ts ≡ false → at_first is_index ts ≡ true → (d ≡ 0 → ⊥)
    → forms lenient d l c x ts ≡ indexed lenient d l x (counted_index lenient (d - 1) l (read_part lenient (g.counts (g.terminal is_index)) (d - 1) l c ts))
index_open lenient d l c x ts h0 h1 h z = index_step lenient d l c x ts h0 h1 h ∙ ap (indexed lenient d l x) (opened lenient index d l c ts z)

pub index_over_budget : (lenient : Bool) → (d l c : ℕ) (x : ExprTree) (ts : List Sighted) → at_first (is k.Dot) ts ≡ false → at_first is_call ts ≡ false → at_first is_index ts ≡ true → (d ≡ 0 → ⊥) → c ≡ 0 → forms lenient d l c x ts ≡ rejected over_budget ts
index_over_budget lenient d l c x ts h0 h1 h z z' = index_open lenient d l c x ts h0 h1 h z ∙ ap (λ o. indexed lenient d l x (counted_index lenient (d - 1) l o)) (counted_over_budget lenient is_index (d - 1) l c ts z' h)

index_shape : (lenient : Bool) → (d l : ℕ) (x : ExprTree) (f : Face) (o : Out Sighted ExprTree) (q : ℕ → List Sighted → Out Sighted Face)
    → indexed lenient d l x ((o >>= (λ y c' r'. q c' r' >>= (λ z c'' r''. got (y, z) c'' r''))) >>= (λ w c' r'. got (f, w) c' r')) ≡ (o >>= (λ y c' r'. q c' r' >>= (λ _ c'' r''. forms lenient d l c'' (e.Index x (f.span, y)) r'')))
index_shape lenient d l x f (got y c r) q = go (q c r)
  where
    go : (o : Out Sighted Face) → indexed lenient d l x ((o >>= (λ z c'' r''. got (y, z) c'' r'')) >>= (λ w c' r'. got (f, w) c' r')) ≡ (o >>= (λ _ c'' r''. forms lenient d l c'' (e.Index x (f.span, y)) r''))
    go (got z c r) = refl
    go (rejected reason r) = refl
    go out_of_fuel = refl
index_shape lenient d l x f (rejected reason r) q = refl
index_shape lenient d l x f out_of_fuel q = refl

pub index_more : (lenient : Bool) → (d l c : ℕ) (x : ExprTree) (ts : List Sighted) (f : Face) (r : List Sighted) → at_first (is k.Dot) ts ≡ false → at_first is_call ts ≡ false → at_first is_index ts ≡ true → (d ≡ 0 → ⊥) → (c ≡ 0 → ⊥) → Takes is_index ts f r
    → forms lenient d l c x ts ≡ (read lenient Expr (d - 1) l (c - 1) r >>= (λ y c' r'. one (is k.RightBracket) c' r' >>= (λ _ c'' r''. forms lenient d l c'' (e.Index x (f.span, y)) r'')))
index_more lenient d l c x ts f r h0 h1 h z z' takes = index_open lenient d l c x ts h0 h1 h z
    ∙ ap (λ o. indexed lenient d l x (counted_index lenient (d - 1) l o)) (counted lenient is_index (d - 1) l c ts z' ∙ takes (c - 1))
    ∙ index_shape lenient d l x f (read lenient Expr (d - 1) l (c - 1) r) (λ c r. one (is k.RightBracket) c r)

-- ---- `!`

abbrev forced : (lenient : Bool) → ℕ → ℕ → ExprTree → Out Sighted Face → Out Sighted ExprTree
forced lenient d l x o = back lenient d l x (o >>= (λ f c2 r2. got (λ base. e.Force base f.span) c2 r2))

force_step : (lenient : Bool) → (d l c : ℕ) (x : ExprTree) (ts : List Sighted) → at_first (is k.Dot) ts ≡ false → at_first is_call ts ≡ false → at_first is_index ts ≡ false → at_first is_force ts ≡ true → forms lenient d l c x ts ≡ forced lenient d l x (read_part lenient (g.counts (g.terminal is_force)) d l c ts)
force_step lenient d l c x ts h0 h1 h2 h = forms_more lenient d l c x ts (is_force_form ts h)
    ∙ ap (back lenient d l x) (step lenient PostfixForm d l c ts ∙ chosen (at_first (is k.Dot) ts) false _ _ h0 ∙ chosen (at_first is_call ts) false _ _ h1 ∙ chosen (at_first is_index ts) false _ _ h2)

pub force_over_budget : (lenient : Bool) → (d l c : ℕ) (x : ExprTree) (ts : List Sighted) → at_first (is k.Dot) ts ≡ false → at_first is_call ts ≡ false → at_first is_index ts ≡ false → at_first is_force ts ≡ true → c ≡ 0 → forms lenient d l c x ts ≡ rejected over_budget ts
force_over_budget lenient d l c x ts h0 h1 h2 h z = force_step lenient d l c x ts h0 h1 h2 h ∙ ap (forced lenient d l x) (counted_over_budget lenient is_force d l c ts z h)

pub force_more : (lenient : Bool) → (d l c : ℕ) (x : ExprTree) (ts : List Sighted) (f : Face) (r : List Sighted) → at_first (is k.Dot) ts ≡ false → at_first is_call ts ≡ false → at_first is_index ts ≡ false → at_first is_force ts ≡ true → (c ≡ 0 → ⊥) → Takes is_force ts f r
    → forms lenient d l c x ts ≡ forms lenient d l (c - 1) (e.Force x f.span) r
force_more lenient d l c x ts f r h0 h1 h2 h z takes = force_step lenient d l c x ts h0 h1 h2 h ∙ ap (forced lenient d l x) (counted lenient is_force d l c ts z ∙ takes (c - 1))

-- `!`, where a form begins and none of the others does
pub force_or_none : (lenient : Bool) (d l c : ℕ) (x : ExprTree) (ts : List Sighted) → at_first is_form ts ≡ true → at_first (is k.Dot) ts ≡ false → at_first is_call ts ≡ false → at_first is_index ts ≡ false → (c ≡ 0 → ⊥)
    → forms lenient d l c x ts ≡ (one is_force (c - 1) ts >>= (λ f c' r. forms lenient d l c' (e.Force x f.span) r))
force_or_none lenient d l c x ts h h0 h1 h2 z = forms_more lenient d l c x ts h
    ∙ ap (back lenient d l x) (step lenient PostfixForm d l c ts ∙ chosen (at_first (is k.Dot) ts) false _ _ h0 ∙ chosen (at_first is_call ts) false _ _ h1 ∙ chosen (at_first is_index ts) false _ _ h2)
    ∙ ap (forced lenient d l x) (counted lenient is_force d l c ts z)
    ∙ bind_assoc (one is_force (c - 1) ts) (λ f c2 r2. got (λ base. e.Force base f.span) c2 r2) (λ form c' r. forms lenient d l c' (form x) r)

left_over : (a b c d : Bool) → (a || (b || (c || d))) ≡ true → a ≡ false → b ≡ false → c ≡ false → d ≡ true
left_over true b c d h x y z = absurd cc
left_over false true c d h x y z = absurd cc
left_over false false true d h x y z = absurd cc
left_over false false false d h x y z = h

is_force_left : (ts : List Sighted) → at_first is_form ts ≡ true → at_first (is k.Dot) ts ≡ false → at_first is_call ts ≡ false → at_first is_index ts ≡ false → at_first is_force ts ≡ true
is_force_left [] h x y z = absurd cc
is_force_left (t ∷ ts) h x y z = left_over (is k.Dot t.sight) (is_call t.sight) (is_index t.sight) (is_force t.sight) h x y z

-- a form for which there is no budget left
pub forms_over_budget : (lenient : Bool) (d l c : ℕ) (x : ExprTree) (ts : List Sighted) → at_first is_form ts ≡ true → c ≡ 0 → forms lenient d l c x ts ≡ rejected over_budget ts
forms_over_budget lenient d l c x ts h z = dot (at_first (is k.Dot) ts) refl
  where
    index : (at_first (is k.Dot) ts ≡ false) → (at_first is_call ts ≡ false) → (b : Bool) → at_first is_index ts ≡ b → forms lenient d l c x ts ≡ rejected over_budget ts
    index h0 h1 true e = deep d refl
      where
        deep : (n : ℕ) → d ≡ n → forms lenient d l c x ts ≡ rejected over_budget ts
        deep zero same = index_deep lenient d l c x ts h0 h1 e same
        deep (suc n) same = index_over_budget lenient d l c x ts h0 h1 e (λ none. absurd (omega (arith, none, same))) z
    index h0 h1 false e = force_over_budget lenient d l c x ts h0 h1 e (is_force_left ts h h0 h1 e) z

    call_or : (at_first (is k.Dot) ts ≡ false) → (b : Bool) → at_first is_call ts ≡ b → forms lenient d l c x ts ≡ rejected over_budget ts
    call_or h0 true e = deep d refl
      where
        deep : (n : ℕ) → d ≡ n → forms lenient d l c x ts ≡ rejected over_budget ts
        deep zero same = call_deep lenient d l c x ts h0 e same
        deep (suc n) same = call_over_budget lenient d l c x ts h0 e (λ none. absurd (omega (arith, none, same))) z
    call_or h0 false e = index h0 e (at_first is_index ts) refl

    dot : (b : Bool) → at_first (is k.Dot) ts ≡ b → forms lenient d l c x ts ≡ rejected over_budget ts
    dot true e = member_over_budget lenient d l c x ts e z
    dot false e = call_or e (at_first is_call ts) refl

-- ---- arguments

abbrev pub labelled_arg : Face → ExprTree → ArgumentTree
labelled_arg f x = record { label = Some (name_of f); value = x }

abbrev pub bare_arg : ExprTree → ArgumentTree
bare_arg x = record { label = None; value = x }

pub arg_labelled : (lenient : Bool) → (d l c : ℕ) (ts : List Sighted) (f : Face) (r : List Sighted) → at_first is_label ts ≡ true → Takes is_label ts f r
    → read lenient Argument d l c ts ≡ (one (is k.Colon) c r >>= (λ _ c1 r1. read lenient Expr d l c1 r1 >>= (λ x c2 r2. got (labelled_arg f x) c2 r2)))
arg_labelled lenient d l c ts f r h takes = step lenient Argument d l c ts ∙ chosen (at_first is_label ts) true _ _ h ∙ ap labelled (takes c) ∙ shape (one (is k.Colon) c r) (λ c r. read lenient Expr d l c r)
  where
    labelled : Out Sighted Face → Out Sighted ArgumentTree
    labelled o = (o >>= (λ f c r. ((one (is k.Colon) c r >>= (λ q c' r'. read lenient Expr d l c' r' >>= (λ y c'' r''. got (q, y) c'' r''))) >>= (λ (z : Face × ExprTree) c' r'. got z.1 c' r')) >>= (λ y c' r'. got (f, y) c' r'))) >>= (λ (z : Face × ExprTree) c' r'. got (labelled_arg z.0 z.1) c' r')

    shape : (o : Out Sighted Face) (q : ℕ → List Sighted → Out Sighted ExprTree)
        → ((((o >>= (λ m c' r'. q c' r' >>= (λ y c'' r''. got (m, y) c'' r''))) >>= (λ (z : Face × ExprTree) c' r'. got z.1 c' r')) >>= (λ y c' r'. got (f, y) c' r')) >>= (λ (z : Face × ExprTree) c' r'. got (labelled_arg z.0 z.1) c' r'))
        ≡ (o >>= (λ _ c1 r1. q c1 r1 >>= (λ x c2 r2. got (labelled_arg f x) c2 r2)))
    shape (got m c r) q = go (q c r)
      where
        go : (o : Out Sighted ExprTree) → ((((o >>= (λ y c'' r''. got (m, y) c'' r'')) >>= (λ (z : Face × ExprTree) c' r'. got z.1 c' r')) >>= (λ y c' r'. got (f, y) c' r')) >>= (λ (z : Face × ExprTree) c' r'. got (labelled_arg z.0 z.1) c' r')) ≡ (o >>= (λ x c2 r2. got (labelled_arg f x) c2 r2))
        go (got y c r) = refl
        go (rejected reason r) = refl
        go out_of_fuel = refl
    shape (rejected reason r) q = refl
    shape out_of_fuel q = refl

pub arg_bare : (lenient : Bool) → (d l c : ℕ) (ts : List Sighted) → at_first is_label ts ≡ false → at_first is_unlabelled ts ≡ true → read lenient Argument d l c ts ≡ (read lenient Expr d l c ts >>= (λ x c' r. got (bare_arg x) c' r))
arg_bare lenient d l c ts h h' = step lenient Argument d l c ts ∙ chosen (at_first is_label ts) false _ _ h ∙ ap (λ o. o >>= (λ x c' r. got (bare_arg x) c' r)) (chosen (at_first is_unlabelled ts) true (read lenient Expr d l c ts) (rejected unexpected ts) h')

pub arg_none : (lenient : Bool) (d l c : ℕ) (ts : List Sighted) → at_first is_label ts ≡ false → at_first is_unlabelled ts ≡ false → read lenient Argument d l c ts ≡ rejected unexpected ts
arg_none lenient d l c ts h h' = step lenient Argument d l c ts ∙ chosen (at_first is_label ts) false _ _ h ∙ ap (λ o. o >>= (λ x c' r. got (bare_arg x) c' r)) (chosen (at_first is_unlabelled ts) false (read lenient Expr d l c ts) (rejected unexpected ts) h')

-- ---- lists of arguments

abbrev starts_arg : Sight → Bool
starts_arg t = is_label t || starts_expr t

pub arg_list_none : (lenient : Bool) → (d l c : ℕ) (ts : List Sighted) → at_first (first_table Argument) ts ≡ false → arg_list lenient d l c ts ≡ got [] c ts
unfolding arg_list
arg_list_none lenient d l c ts h = ap (λ o. o >>= (λ xs c' r. got (or_none xs) c' r)) (chosen (at_first (first_table Argument) ts) false _ (got None c ts) h)

abbrev pair_up : {A B : Type 0} → A → B → ℕ → List Sighted → Out Sighted (A × B)
pair_up x y c r = got (x, y) c r

listed : {A : Type 0} (o : Out Sighted A) (q : ℕ → List Sighted → Out Sighted (List A))
    → ((((o >>= (λ x c r. q c r >>= (λ y c' r'. pair_up x y c' r'))) >>= (λ (z : A × List A) c r. got (z.0 ∷ z.1) c r)) >>= (λ x c r. got (Some x) c r)) >>= (λ xs c r. got (or_none xs) c r)) ≡ (o >>= (λ x c r. q c r >>= (λ ys c' r'. got ((x ∷ []) ++ ys) c' r')))
listed {A} (got x c r) q = go (q c r)
  where
    go : (o : Out Sighted (List A)) → ((((o >>= (λ y c' r'. pair_up x y c' r')) >>= (λ (z : A × List A) c r. got (z.0 ∷ z.1) c r)) >>= (λ x c r. got (Some x) c r)) >>= (λ xs c r. got (or_none xs) c r)) ≡ (o >>= (λ ys c' r'. got ((x ∷ []) ++ ys) c' r'))
    go (got y c r) = refl
    go (rejected reason r) = refl
    go out_of_fuel = refl
listed (rejected reason r) q = refl
listed out_of_fuel q = refl

pub arg_list_some : (lenient : Bool) → (d l c : ℕ) (ts : List Sighted) → at_first (first_table Argument) ts ≡ true → arg_list lenient d l c ts ≡ (read lenient Argument d l c ts >>= (λ x c' r. more_args lenient d l c' (x ∷ []) r))
unfolding arg_list more_args
arg_list_some lenient d l c ts h = ap (λ o. o >>= (λ xs c' r. got (or_none xs) c' r)) (chosen (at_first (first_table Argument) ts) true _ (got None c ts) h)
    ∙ listed (read lenient Argument d l c ts) (λ c r. read_part lenient (g.many (after (tok k.Comma) (g.nonterminal Argument))) d l c r)

pub more_args_end : (lenient : Bool) → (d l c : ℕ) (xs : List ArgumentTree) (ts : List Sighted) → at_first (is k.Comma) ts ≡ false → more_args lenient d l c xs ts ≡ got xs c ts
unfolding more_args
more_args_end lenient d l c xs ts h = fold_end lenient (after (tok k.Comma) (g.nonterminal Argument)) (tt, tt, λ t e h. cc) refl (λ xs ys. xs ++ ys) (λ xs x. xs ++ x ∷ []) (λ xs x ys. sym (append_assoc xs (x ∷ []) ys)) d l c xs ts h ∙ ap (λ xs. got xs c ts) (append-nil xs)

pub more_args_more : (lenient : Bool) → (d l c : ℕ) (xs : List ArgumentTree) (ts : List Sighted) (f : Face) (r : List Sighted) → at_first (is k.Comma) ts ≡ true → Takes (is k.Comma) ts f r
    → more_args lenient d l c xs ts ≡ (read lenient Argument d l c r >>= (λ x c' r'. more_args lenient d l c' (xs ++ x ∷ []) r'))
unfolding more_args
more_args_more lenient d l c xs ts f r h takes =
    fold_more lenient (after (tok k.Comma) (g.nonterminal Argument)) (tt, tt, λ t e h. cc) refl (λ xs ys. xs ++ ys) (λ xs x. xs ++ x ∷ []) (λ xs x ys. sym (append_assoc xs (x ∷ []) ys)) d l c xs ts h
    ∙ ap (λ o. ((o >>= (λ f c1 r1. read lenient Argument d l c1 r1 >>= (λ x c2 r2. got (f, x) c2 r2))) >>= (λ (z : Face × ArgumentTree) c2 r2. got z.1 c2 r2)) >>= rest) (takes c)
    ∙ ap (λ o. o >>= rest) (bind_assoc (read lenient Argument d l c r) (λ x c2 r2. got (f, x) c2 r2) (λ (z : Face × ArgumentTree) c2 r2. got z.1 c2 r2))
    ∙ bind_assoc (read lenient Argument d l c r) (λ x c2 r2. got x c2 r2) rest
  where
    rest : ArgumentTree → ℕ → List Sighted → Out Sighted (List ArgumentTree)
    rest x c r = read_part lenient (g.many (after (tok k.Comma) (g.nonterminal Argument))) d l c r >>= (λ ys c' r'. got ((xs ++ x ∷ []) ++ ys) c' r')
