-- Patterns as the reader gives them.
use Rattle.std.proofs.Common.{◌≡◌, ℕ, Bool, true, false, ◌||◌, Option, List, [], ◌∷◌, refl, sym, ap, ◌∙◌}
use Rattle.sw_grammar.specs.Reading.{Out, got, at_first}
use Rattle.sw_syntax.specs.declared.class.Sight.{Sight}
use Rattle.sw_syntax.specs.Tokens.{Sighted}
use Rattle.sw_tree.specs.declared.expr.Name.{Name}
use Rattle.sw_tree.specs.declared.stmt.Bind.{Bind}
use Rattle.sw_tree.specs.declared.stmt.CatchPattern.{CatchPattern}
use Rattle.sw_tree.specs.declared.stmt.CatchPattern.TheVariants as cp

right_of : (a b : Bool) → a ≡ false → b ≡ (a || b)
right_of true b e = absurd cc
right_of false b e = refl

-- where the first of two tests fails, the second decides
pub only_right : (f h : Sight → Bool) (ts : List Sighted) → at_first f ts ≡ false → at_first h ts ≡ at_first (λ t. f t || h t) ts
only_right f h [] e = refl
only_right f h (t ∷ ts) e = right_of (f t.sight) (h t.sight) e

pub as_names : (a a' b b' : Name) (c : ℕ) (r : List Sighted) → a' ≡ a → b' ≡ b → ◌≡◌ {A = Out Sighted CatchPattern} (got (cp.As a b) c r) (got (cp.As a' b') c r)
as_names a a' b b' c r e h = ap (λ n. got (cp.As n b) c r) (sym e) ∙ ap (λ n. got (cp.As a' n) c r) (sym h)

pub case_names : (a a' b b' : Name) (xs : Option (List Bind)) (c : ℕ) (r : List Sighted) → a' ≡ a → b' ≡ b → ◌≡◌ {A = Out Sighted CatchPattern} (got (cp.Case a b xs) c r) (got (cp.Case a' b' xs) c r)
case_names a a' b b' xs c r e h = ap (λ n. got (cp.Case n b xs) c r) (sym e) ∙ ap (λ n. got (cp.Case a' n xs) c r) (sym h)
