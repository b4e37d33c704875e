-- How the parts of a production are read, one after the other, with what goes on from there.
use Rattle.std.proofs.Common.{◌≡◌, ℕ, zero, suc, ◌-◌, Bool, true, false, ◌||◌, Option, Some, None, List, [], ◌∷◌, ◌++◌, refl, sym, ap, ◌∙◌, append_assoc, append-nil}
use Rattle.sw_base.specs.declared.ids.Span.{Span}
use Rattle.sw_lex.specs.declared.token.TokenKind.{TokenKind}
use Rattle.sw_lex.specs.declared.token.TokenKind.TheVariants as k
use Rattle.sw_grammar.specs.Grammar as g
use Rattle.sw_grammar.specs.Reading.{Out, got, rejected, out_of_fuel, over_budget, unexpected, ◌>>=◌, at_first, one}
use Rattle.sw_tree.specs.declared.expr.Name.{Name}
use Rattle.sw_tree.specs.declared.expr.Expr.{Expr as ExprTree}
use Rattle.sw_tree.specs.declared.types.«Type».{«Type» as TypeTree}
use Rattle.sw_syntax.specs.declared.class.Sight.{Sight}
use Rattle.sw_syntax.specs.Tokens.{Sighted, Face}
use Rattle.sw_syntax.specs.Tests.{is, is_name}
use Rattle.sw_syntax.specs.Values.{or_none, name_of}
use Rattle.sw_syntax.specs.Nonterminals.{Expr, TypeExpr}
use Rattle.sw_syntax.specs.Parts.{P, ◌·◌, ◌∣◌, tok, place, name, after, some, any, in_parens, in_braces, whole_expr, whole_type}
use Rattle.sw_syntax.specs.Answering.{read, read_part, Takes}
use Rattle.sw_syntax.specs.Lists.{more}
use Rattle.sw_syntax.proofs.Equations.{starts, IsOk, bind_assoc, bind_same, bind_then, chosen, one_none, opened, opened_over_budget, fold_end, fold_more}

-- ---- one after the other

pub both_on : (lenient : Bool) → {A B C : Type 0} (a : P A) (b : P B) (d l c : ℕ) (ts : List Sighted) (go : A × B → ℕ → List Sighted → Out Sighted C)
    → (read_part lenient (a · b) d l c ts >>= go) ≡ (read_part lenient a d l c ts >>= (λ x c' r. read_part lenient b d l c' r >>= (λ y c'' r'. go (x, y) c'' r')))
both_on lenient a b d l c ts go = bind_assoc (read_part lenient a d l c ts) _ _ ∙ bind_same (read_part lenient a d l c ts) _ _ (λ x c' r. bind_assoc (read_part lenient b d l c' r) _ _)

pub gives_on : (lenient : Bool) → {A B C : Type 0} (f : A → B) (a : P A) (d l c : ℕ) (ts : List Sighted) (go : B → ℕ → List Sighted → Out Sighted C)
    → (read_part lenient (g.gives f a) d l c ts >>= go) ≡ (read_part lenient a d l c ts >>= (λ x c' r. go (f x) c' r))
gives_on lenient f a d l c ts go = bind_assoc (read_part lenient a d l c ts) _ _

pub limited_on : (lenient : Bool) → {A C : Type 0} (a : P A) (d l c : ℕ) (ts : List Sighted) (go : A → ℕ → List Sighted → Out Sighted C)
    → (read_part lenient (g.limited a) d l c ts >>= go) ≡ (read_part lenient a d l l ts >>= (λ x _ r. go x c r))
limited_on lenient a d l c ts go = bind_assoc (read_part lenient a d l l ts) _ _

pub mark_on : (lenient : Bool) → {C : Type 0} (f : Sight → Bool) (d l c : ℕ) (ts : List Sighted) (x : Face) (r : List Sighted) (go : Face → ℕ → List Sighted → Out Sighted C) → Takes f ts x r
    → (read_part lenient (g.terminal f) d l c ts >>= go) ≡ go x c r
mark_on lenient f d l c ts x r go takes = ap (λ o. o >>= go) (takes c)

-- a mark, and what follows it
pub led_on : (lenient : Bool) → {B C : Type 0} (f : Sight → Bool) (b : P B) (d l c : ℕ) (ts : List Sighted) (x : Face) (r : List Sighted) (go : Face × B → ℕ → List Sighted → Out Sighted C) → Takes f ts x r
    → (read_part lenient (g.terminal f · b) d l c ts >>= go) ≡ (read_part lenient b d l c r >>= (λ y c' r'. go (x, y) c' r'))
led_on lenient f b d l c ts x r go takes = both_on lenient (g.terminal f) b d l c ts go ∙ mark_on lenient f d l c ts x r _ takes

pub placed_on : (lenient : Bool) → {B C : Type 0} (kind : TokenKind) (b : P B) (d l c : ℕ) (ts : List Sighted) (x : Face) (r : List Sighted) (go : Span × B → ℕ → List Sighted → Out Sighted C) → Takes (is kind) ts x r
    → (read_part lenient (place kind · b) d l c ts >>= go) ≡ (read_part lenient b d l c r >>= (λ y c' r'. go (x.span, y) c' r'))
placed_on lenient kind b d l c ts x r go takes = both_on lenient (place kind) b d l c ts go ∙ gives_on lenient (λ f. f.span) (tok kind) d l c ts _ ∙ mark_on lenient (is kind) d l c ts x r _ takes

pub after_on : (lenient : Bool) → {A B C : Type 0} (a : P A) (b : P B) (d l c : ℕ) (ts : List Sighted) (go : B → ℕ → List Sighted → Out Sighted C)
    → (read_part lenient (after a b) d l c ts >>= go) ≡ (read_part lenient a d l c ts >>= (λ _ c' r. read_part lenient b d l c' r >>= go))
after_on lenient a b d l c ts go = gives_on lenient (λ x. x.1) (a · b) d l c ts go ∙ both_on lenient a b d l c ts _

pub past_on : (lenient : Bool) → {B C : Type 0} (f : Sight → Bool) (b : P B) (d l c : ℕ) (ts : List Sighted) (x : Face) (r : List Sighted) (go : B → ℕ → List Sighted → Out Sighted C) → Takes f ts x r
    → (read_part lenient (after (g.terminal f) b) d l c ts >>= go) ≡ (read_part lenient b d l c r >>= go)
past_on lenient f b d l c ts x r go takes = after_on lenient (g.terminal f) b d l c ts go ∙ mark_on lenient f d l c ts x r _ takes

pub name_on : (lenient : Bool) → {C : Type 0} (d l c : ℕ) (ts : List Sighted) (go : Name → ℕ → List Sighted → Out Sighted C)
    → (read_part lenient name d l c ts >>= go) ≡ (one is_name c ts >>= (λ n c' r. go (name_of n) c' r))
name_on lenient d l c ts go = gives_on lenient name_of (g.terminal is_name) d l c ts go

-- ---- parts that may be absent

pub there_on : (lenient : Bool) → {A C : Type 0} (a : P A) (d l c : ℕ) (ts : List Sighted) (go : Option A → ℕ → List Sighted → Out Sighted C) → at_first (starts lenient a) ts ≡ true
    → (read_part lenient (g.maybe a) d l c ts >>= go) ≡ (read_part lenient a d l c ts >>= (λ x c' r. go (Some x) c' r))
there_on lenient a d l c ts go h = ap (λ o. o >>= go) (chosen (at_first (starts lenient a) ts) true _ _ h) ∙ bind_assoc (read_part lenient a d l c ts) _ _

pub absent_on : (lenient : Bool) → {A C : Type 0} (a : P A) (d l c : ℕ) (ts : List Sighted) (go : Option A → ℕ → List Sighted → Out Sighted C) → at_first (starts lenient a) ts ≡ false
    → (read_part lenient (g.maybe a) d l c ts >>= go) ≡ go None c ts
absent_on lenient a d l c ts go h = ap (λ o. o >>= go) (chosen (at_first (starts lenient a) ts) false (read_part lenient a d l c ts >>= (λ x c' r. got (Some x) c' r)) (got None c ts) h)

-- the first alternative, and the second
pub first_on : (lenient : Bool) → {A C : Type 0} (a b : P A) (d l c : ℕ) (ts : List Sighted) (go : A → ℕ → List Sighted → Out Sighted C) → at_first (starts lenient a) ts ≡ true
    → (read_part lenient (a ∣ b) d l c ts >>= go) ≡ (read_part lenient a d l c ts >>= go)
first_on lenient a b d l c ts go h = ap (λ o. o >>= go) (chosen (at_first (starts lenient a) ts) true _ _ h)

pub second_on : (lenient : Bool) → {A C : Type 0} (a b : P A) (d l c : ℕ) (ts : List Sighted) (go : A → ℕ → List Sighted → Out Sighted C) → at_first (starts lenient a) ts ≡ false
    → (read_part lenient (a ∣ b) d l c ts >>= go) ≡ (read_part lenient b d l c ts >>= go)
second_on lenient a b d l c ts go h = ap (λ o. o >>= go) (chosen (at_first (starts lenient a) ts) false _ _ h)

pub when_on : (lenient : Bool) → {A C : Type 0} (f : Sight → Bool) (a : P A) (d l c : ℕ) (ts : List Sighted) (go : A → ℕ → List Sighted → Out Sighted C) → at_first f ts ≡ true
    → (read_part lenient (g.when f a) d l c ts >>= go) ≡ (read_part lenient a d l c ts >>= go)
when_on lenient f a d l c ts go h = ap (λ o. o >>= go) (chosen (at_first f ts) true _ _ h)

-- ---- brackets

abbrev opens : TokenKind → TokenKind → {A : Type 0} → P A → P (Face × (A × Face))
opens left right a = tok left · a · tok right

bracket_deep : (lenient : Bool) → {A : Type 0} (left right : TokenKind) (a : P A) (d l c : ℕ) (ts : List Sighted) → at_first (is left) ts ≡ true → d ≡ 0
    → read_part lenient (g.gives (λ x. x.1.0) (g.nest (opens left right a))) d l c ts ≡ rejected over_budget ts
bracket_deep lenient left right a d l c ts h z = ap (λ o. o >>= (λ x c' r. got (x.1.0) c' r)) (opened_over_budget lenient (opens left right a) d l c ts z h)

bracket_none : (lenient : Bool) → {A : Type 0} (left right : TokenKind) (a : P A) (d l c : ℕ) (ts : List Sighted) → at_first (is left) ts ≡ false
    → read_part lenient (g.gives (λ x. x.1.0) (g.nest (opens left right a))) d l c ts ≡ rejected unexpected ts
bracket_none lenient left right a zero l c ts h = ap (λ o. o >>= (λ x c' r. got (x.1.0) c' r)) (chosen (at_first (is left) ts) false (rejected over_budget ts) (rejected unexpected ts) h)
bracket_none lenient {A} left right a (suc d) l c ts h = ap (λ (o : Out Sighted Face). (o >>= (λ x c' r. read_part lenient (a · tok right) d l c' r >>= (λ y c'' r'. got (x, y) c'' r'))) >>= (λ (x : Face × (A × Face)) c' r. got (x.1.0) c' r)) (one_none (is left) c ts h)

bracket_open : (lenient : Bool) → {A : Type 0} (left right : TokenKind) (a : P A) (d l c : ℕ) (ts : List Sighted) (f : Face) (r : List Sighted) → (d ≡ 0 → ⊥) → Takes (is left) ts f r
    → read_part lenient (g.gives (λ x. x.1.0) (g.nest (opens left right a))) d l c ts ≡ (read_part lenient a (d - 1) l c r >>= (λ x c' r'. one (is right) c' r' >>= (λ _ c'' r''. got x c'' r'')))
bracket_open lenient left right a d l c ts f r z takes = ap (λ o. o >>= (λ x c' r. got (x.1.0) c' r)) (opened lenient (opens left right a) d l c ts z)
    ∙ led_on lenient (is left) (a · tok right) (d - 1) l c ts f r _ takes
    ∙ both_on lenient a (tok right) (d - 1) l c r _

pub braces_none : (lenient : Bool) → {A : Type 0} (a : P A) (d l c : ℕ) (ts : List Sighted) → at_first (is k.LeftBrace) ts ≡ false → read_part lenient (in_braces a) d l c ts ≡ rejected unexpected ts
braces_none lenient a d l c ts h = bracket_none lenient k.LeftBrace k.RightBrace a d l c ts h

pub braces_deep : (lenient : Bool) → {A : Type 0} (a : P A) (d l c : ℕ) (ts : List Sighted) → at_first (is k.LeftBrace) ts ≡ true → d ≡ 0 → read_part lenient (in_braces a) d l c ts ≡ rejected over_budget ts
braces_deep lenient a d l c ts h z = bracket_deep lenient k.LeftBrace k.RightBrace a d l c ts h z

pub braces_open : (lenient : Bool) → {A : Type 0} (a : P A) (d l c : ℕ) (ts : List Sighted) (f : Face) (r : List Sighted) → (d ≡ 0 → ⊥) → Takes (is k.LeftBrace) ts f r
    → read_part lenient (in_braces a) d l c ts ≡ (read_part lenient a (d - 1) l c r >>= (λ x c' r'. one (is k.RightBrace) c' r' >>= (λ _ c'' r''. got x c'' r'')))
braces_open lenient a d l c ts f r z takes = bracket_open lenient k.LeftBrace k.RightBrace a d l c ts f r z takes

pub parens_none : (lenient : Bool) → {A : Type 0} (a : P A) (d l c : ℕ) (ts : List Sighted) → at_first (is k.LeftParen) ts ≡ false → read_part lenient (in_parens a) d l c ts ≡ rejected unexpected ts
parens_none lenient a d l c ts h = bracket_none lenient k.LeftParen k.RightParen a d l c ts h

pub parens_deep : (lenient : Bool) → {A : Type 0} (a : P A) (d l c : ℕ) (ts : List Sighted) → at_first (is k.LeftParen) ts ≡ true → d ≡ 0 → read_part lenient (in_parens a) d l c ts ≡ rejected over_budget ts
parens_deep lenient a d l c ts h z = bracket_deep lenient k.LeftParen k.RightParen a d l c ts h z

pub parens_open : (lenient : Bool) → {A : Type 0} (a : P A) (d l c : ℕ) (ts : List Sighted) (f : Face) (r : List Sighted) → (d ≡ 0 → ⊥) → Takes (is k.LeftParen) ts f r
    → read_part lenient (in_parens a) d l c ts ≡ (read_part lenient a (d - 1) l c r >>= (λ x c' r'. one (is k.RightParen) c' r' >>= (λ _ c'' r''. got x c'' r'')))
parens_open lenient a d l c ts f r z takes = bracket_open lenient k.LeftParen k.RightParen a d l c ts f r z takes

-- ---- lists with commas

pub some_first : (lenient : Bool) → {A : Type 0} (a : P A) (d l c : ℕ) (ts : List Sighted) → read_part lenient (some a) d l c ts ≡ (read_part lenient a d l c ts >>= (λ x c' r. more lenient a d l c' (x ∷ []) r))
unfolding more
some_first lenient a d l c ts = bind_then (read_part lenient a d l c ts) (λ c r. read_part lenient (g.many (after (tok k.Comma) a)) d l c r) (λ x. x.0 ∷ x.1)

pub any_none : (lenient : Bool) → {A : Type 0} (a : P A) (d l c : ℕ) (ts : List Sighted) → at_first (starts lenient (some a)) ts ≡ false → read_part lenient (any a) d l c ts ≡ got [] c ts
any_none lenient a d l c ts h = absent_on lenient (some a) d l c ts (λ xs c' r. got (or_none xs) c' r) h

or_list : {A : Type 0} (o : Out Sighted (List A)) → (o >>= (λ xs c r. got (or_none (Some xs)) c r)) ≡ o
or_list (got xs c r) = refl
or_list (rejected reason r) = refl
or_list out_of_fuel = refl

pub any_first : (lenient : Bool) → {A : Type 0} (a : P A) (d l c : ℕ) (ts : List Sighted) → at_first (starts lenient (some a)) ts ≡ true → read_part lenient (any a) d l c ts ≡ (read_part lenient a d l c ts >>= (λ x c' r. more lenient a d l c' (x ∷ []) r))
any_first lenient a d l c ts h = there_on lenient (some a) d l c ts (λ xs c' r. got (or_none xs) c' r) h ∙ or_list (read_part lenient (some a) d l c ts) ∙ some_first lenient a d l c ts

pub more_end : (lenient : Bool) → {A : Type 0} (a : P A) → IsOk lenient a → (d l c : ℕ) (xs : List A) (ts : List Sighted) → at_first (is k.Comma) ts ≡ false → more lenient a d l c xs ts ≡ got xs c ts
unfolding more
more_end lenient a ok d l c xs ts h = fold_end lenient (after (tok k.Comma) a) (tt, ok, λ t e h. cc) refl (λ xs ys. xs ++ ys) (λ xs x. xs ++ x ∷ []) (λ xs x ys. sym (append_assoc xs (x ∷ []) ys)) d l c xs ts h ∙ ap (λ xs. got xs c ts) (append-nil xs)

pub more_more : (lenient : Bool) → {A : Type 0} (a : P A) → IsOk lenient a → (d l c : ℕ) (xs : List A) (ts : List Sighted) (f : Face) (r : List Sighted) → at_first (is k.Comma) ts ≡ true → Takes (is k.Comma) ts f r
    → more lenient a d l c xs ts ≡ (read_part lenient a d l c r >>= (λ x c' r'. more lenient a d l c' (xs ++ x ∷ []) r'))
unfolding more
more_more lenient a ok d l c xs ts f r h takes =
    fold_more lenient (after (tok k.Comma) a) (tt, ok, λ t e h. cc) refl (λ xs ys. xs ++ ys) (λ xs x. xs ++ x ∷ []) (λ xs x ys. sym (append_assoc xs (x ∷ []) ys)) d l c xs ts h
    ∙ past_on lenient (is k.Comma) a d l c ts f r _ takes

-- ---- expressions and types that stand in no other, after their marks

pub after_mark_expr : (lenient : Bool) → {C : Type 0} (kind : TokenKind) (d l c : ℕ) (ts : List Sighted) (go : ExprTree → ℕ → List Sighted → Out Sighted C)
    → (read_part lenient (after (tok kind) whole_expr) d l c ts >>= go) ≡ (one (is kind) c ts >>= (λ _ c' r. read lenient Expr d l l r >>= (λ x _ r'. go x c' r')))
after_mark_expr lenient kind d l c ts go = after_on lenient (tok kind) whole_expr d l c ts go ∙ bind_same (one (is kind) c ts) _ _ (λ _ c' r. limited_on lenient (g.nonterminal Expr) d l c' r go)

pub after_mark_type : (lenient : Bool) → {C : Type 0} (kind : TokenKind) (d l c : ℕ) (ts : List Sighted) (go : TypeTree → ℕ → List Sighted → Out Sighted C)
    → (read_part lenient (after (tok kind) whole_type) d l c ts >>= go) ≡ (one (is kind) c ts >>= (λ _ c' r. read lenient TypeExpr d l l r >>= (λ x _ r'. go x c' r')))
after_mark_type lenient kind d l c ts go = after_on lenient (tok kind) whole_type d l c ts go ∙ bind_same (one (is kind) c ts) _ _ (λ _ c' r. limited_on lenient (g.nonterminal TypeExpr) d l c' r go)

-- ---- what goes on from brackets, and from parts after a mark that may be absent

pub braces_on : (lenient : Bool) → {A C : Type 0} (a : P A) (d l c : ℕ) (ts : List Sighted) (f : Face) (r : List Sighted) (go : A → ℕ → List Sighted → Out Sighted C) → (d ≡ 0 → ⊥) → Takes (is k.LeftBrace) ts f r
    → (read_part lenient (in_braces a) d l c ts >>= go) ≡ (read_part lenient a (d - 1) l c r >>= (λ x c' r'. one (is k.RightBrace) c' r' >>= (λ _ c'' r''. go x c'' r'')))
braces_on lenient a d l c ts f r go z takes = ap (λ o. o >>= go) (braces_open lenient a d l c ts f r z takes) ∙ bind_assoc (read_part lenient a (d - 1) l c r) _ _ ∙ bind_same (read_part lenient a (d - 1) l c r) _ _ (λ x c' r'. bind_assoc (one (is k.RightBrace) c' r') _ _)

pub parens_on : (lenient : Bool) → {A C : Type 0} (a : P A) (d l c : ℕ) (ts : List Sighted) (f : Face) (r : List Sighted) (go : A → ℕ → List Sighted → Out Sighted C) → (d ≡ 0 → ⊥) → Takes (is k.LeftParen) ts f r
    → (read_part lenient (in_parens a) d l c ts >>= go) ≡ (read_part lenient a (d - 1) l c r >>= (λ x c' r'. one (is k.RightParen) c' r' >>= (λ _ c'' r''. go x c'' r'')))
parens_on lenient a d l c ts f r go z takes = ap (λ o. o >>= go) (parens_open lenient a d l c ts f r z takes) ∙ bind_assoc (read_part lenient a (d - 1) l c r) _ _ ∙ bind_same (read_part lenient a (d - 1) l c r) _ _ (λ x c' r'. bind_assoc (one (is k.RightParen) c' r') _ _)

pub maybe_none : (lenient : Bool) → {A : Type 0} (a : P A) (d l c : ℕ) (ts : List Sighted) → at_first (starts lenient a) ts ≡ false → read_part lenient (g.maybe a) d l c ts ≡ got None c ts
maybe_none lenient a d l c ts h = chosen (at_first (starts lenient a) ts) false _ (got None c ts) h

pub maybe_some : (lenient : Bool) → {A : Type 0} (a : P A) (d l c : ℕ) (ts : List Sighted) → at_first (starts lenient a) ts ≡ true → read_part lenient (g.maybe a) d l c ts ≡ (read_part lenient a d l c ts >>= (λ x c' r. got (Some x) c' r))
maybe_some lenient a d l c ts h = chosen (at_first (starts lenient a) ts) true _ (got None c ts) h

pub maybe_past : (lenient : Bool) → {A : Type 0} (f : Sight → Bool) (a : P A) (d l c : ℕ) (ts : List Sighted) (x : Face) (r : List Sighted) → at_first f ts ≡ true → Takes f ts x r
    → read_part lenient (g.maybe (after (g.terminal f) a)) d l c ts ≡ (read_part lenient a d l c r >>= (λ y c' r'. got (Some y) c' r'))
maybe_past lenient f a d l c ts x r h takes = maybe_some lenient (after (g.terminal f) a) d l c ts h ∙ past_on lenient f a d l c ts x r _ takes

neither : (a b : Bool) → a ≡ false → b ≡ false → (a || b) ≡ false
neither true b h h' = absurd cc
neither false b h h' = h'

pub first_neither : (f h : Sight → Bool) (ts : List Sighted) → at_first f ts ≡ false → at_first h ts ≡ false → at_first (λ t. f t || h t) ts ≡ false
first_neither f h [] e e' = refl
first_neither f h (t ∷ ts) e e' = neither (f t.sight) (h t.sight) e e'

-- the second test, where the first fails
other_of : (a b : Bool) → (a || b) ≡ true → a ≡ false → b ≡ true
other_of true b h h' = absurd cc
other_of false b h h' = h

pub first_other : (f h : Sight → Bool) (ts : List Sighted) → at_first (λ t. f t || h t) ts ≡ true → at_first f ts ≡ false → at_first h ts ≡ true
first_other f h [] e e' = e
first_other f h (t ∷ ts) e e' = other_of (f t.sight) (h t.sight) e e'

-- the place of a token, of which there may be none
pub place_on : (lenient : Bool) → {C : Type 0} (kind : TokenKind) (d l c : ℕ) (ts : List Sighted) (go : Span → ℕ → List Sighted → Out Sighted C)
    → (read_part lenient (place kind) d l c ts >>= go) ≡ (one (is kind) c ts >>= (λ f c' r. go f.span c' r))
place_on lenient kind d l c ts go = gives_on lenient (λ f. f.span) (tok kind) d l c ts go
