-- Lists that loops make, one item of another list after another.
use Rattle.std.proofs.Common.{◌≡◌, ℕ, ◌+◌, ◌<◌, ◌≤◌, List, [], ◌∷◌, ◌++◌, map, take, length, get_or, refl, sym, ap, ◌∙◌}
use Rattle.std.proofs.lemmas.List.{take_more, take_all}

map_push : {A B : Type 0} (f : A → B) (xs : List A) (y : A) → map f (xs ++ y ∷ []) ≡ map f xs ++ f y ∷ []
map_push f [] y = refl
map_push f (x ∷ xs) y = ap (λ l. f x ∷ l) (map_push f xs y)

pub mapped_step : {A B : Type 0} (f : A → B) (out out1 : List B) (xs : List A) (i : ℕ) (y : A) → i < length xs → y ≡ get_or xs i y → out ≡ map f (take i xs) → out1 ≡ out ++ f y ∷ [] → out1 ≡ map f (take (i + 1) xs)
mapped_step f out out1 xs i y h e p q =
    q ∙ ap (λ l. l ++ f y ∷ []) p ∙ sym (map_push f (take i xs) y) ∙ ap (λ z. map f (take i xs ++ z ∷ [])) e ∙ ap (map f) (sym (take_more xs i y h))

pub mapped_end : {A B : Type 0} (f : A → B) (out : List B) (xs : List A) (i : ℕ) → out ≡ map f (take i xs) → length xs ≤ i → out ≡ map f xs
mapped_end f out xs i p h = p ∙ ap (map f) (take_all i xs h)
