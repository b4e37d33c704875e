-- An element that was found in a list, at a place or by another test, and passes a test: then one of the list does.
use Rattle.std.proofs.Common.{◌≡◌, ◌∙◌, ◌||◌, ℕ, Bool, true, false, cond, Some, List, [], ◌∷◌, slice_get, refl, sym, ap, arith}
use Rattle.std.proofs.lemmas.List.Folds.{list_any_at}
use Rattle.std.proofs.lemmas.Option.{slice_get_within, get_or_from_slice_get, none-some}
use Rattle.std.specs.List.{find, list_any}

pub any_at : {A : Type 0} (p : A → Bool) (xs : List A) (i : ℕ) (x : A) → Some x ≡ slice_get xs i → p x ≡ true → list_any p xs ≡ true
any_at p xs i x e h = list_any_at p xs i x (slice_get_within xs i x (sym e)) (ap p (get_or_from_slice_get xs i x x (sym e)) ∙ h)

either : (a b : Bool) → b ≡ true → (a || b) ≡ true
either true b h = refl
either false b h = h

pub any_found : {A : Type 0} (sought p : A → Bool) (xs : List A) (x : A) → Some x ≡ find sought xs → p x ≡ true → list_any p xs ≡ true
any_found sought p [] x e h = absurd (none-some x (sym e))
any_found sought p (y ∷ ys) x e h = go (λ rest. any_found sought p ys x rest h) (sought y) e
  where
    go : (Some x ≡ find sought ys → list_any p ys ≡ true) → (b : Bool) → Some x ≡ cond b (Some y) (find sought ys) → (p y || list_any p ys) ≡ true
    go ih true k = let same : y ≡ x = grind (arith, k) in ap (λ b. b || list_any p ys) (ap p same ∙ h)
    go ih false k = either (p y) (list_any p ys) (ih k)
