-- A declaration with another type has the same keys.
use Rattle.std.proofs.Common.{◌≡◌, ℕ, zero, suc, List, [], ◌∷◌, cond, Some, length, slice_get, refl, sym, ap, ◌∙◌}
use Rattle.std.specs.Prelude.{slice_set}
use Rattle.sw_value.specs.declared.ty.Ty.{Ty}
use Rattle.sw_sight.specs.InSight.{Text}
use Rattle.sw_sight.specs.Levels.{Entries}
use Rattle.sw_members.specs.Given.{with_type, given_at}
use Rattle.sw_members.specs.Keys.{IsKeyed, has_key, place, one_later}
use Rattle.sw_members.specs.declared.declaration.Declaration.{Declaration}

pub set_given : (items : List Declaration) (n : ℕ) (placeholder d : Declaration) (t : Ty) → slice_get items n ≡ Some d → slice_set (slice_set items n placeholder) n (with_type t d) ≡ given_at n t items
unfolding given_at
set_given [] n placeholder d t h = refl
set_given (x ∷ xs) zero placeholder d t h = let same : x ≡ d = cc in ap (λ y. with_type t y ∷ xs) (sym same)
set_given (x ∷ xs) (suc n) placeholder d t h = ap (λ ys. x ∷ ys) (set_given xs n placeholder d t h)

given_place : (x : Text) (n : ℕ) (t : Ty) (items : List Declaration) → place (has_key x) (given_at n t items) ≡ place (has_key x) items
unfolding place given_at
given_place x n t [] = refl
given_place x zero t (d ∷ ds) = refl
given_place x (suc n) t (d ∷ ds) = ap (λ p. cond (has_key x d) (suc zero) (one_later p)) (given_place x n t ds)

pub given_keyed : (items again : List Declaration) (n : ℕ) (t : Ty) (firsts : Entries) → again ≡ given_at n t items → IsKeyed items firsts → IsKeyed again firsts
given_keyed items again n t firsts e h x = h x ∙ sym (given_place x n t items) ∙ sym (ap (place (has_key x)) e)

pub within_set : {A : Type 0} (items : List A) (n : ℕ) (a : A) → length (slice_set items n a) ≡ length items
within_set [] n a = refl
within_set (x ∷ xs) zero a = refl
within_set (x ∷ xs) (suc n) a = ap suc (within_set xs n a)
