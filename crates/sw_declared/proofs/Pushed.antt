-- Lists that loops make, one item of another list after another.
use Rattle.std.proofs.Common.{◌≡◌, ℕ, ◌+◌, ◌<◌, ◌≤◌, List, [], ◌∷◌, ◌++◌, map, take, length, get_or, refl, sym, ap, ◌∙◌, append_assoc}
use Rattle.std.specs.List.{flat_map}
use Rattle.std.proofs.lemmas.List.{take_more, take_all}
use Rattle.std.proofs.lemmas.Grind.{flat_map-append}

map_push : {A B : Type 0} (f : A → B) (xs : List A) (y : A) → map f (xs ++ y ∷ []) ≡ map f xs ++ f y ∷ []
map_push f [] y = refl
map_push f (x ∷ xs) y = ap (λ l. f x ∷ l) (map_push f xs y)

pub mapped_step : {A B : Type 0} (f : A → B) (out out1 : List B) (xs : List A) (i : ℕ) (y : A) → i < length xs → y ≡ get_or xs i y → out ≡ map f (take i xs) → out1 ≡ out ++ f y ∷ [] → out1 ≡ map f (take (i + 1) xs)
mapped_step f out out1 xs i y h e p q =
    q ∙ ap (λ l. l ++ f y ∷ []) p ∙ sym (map_push f (take i xs) y) ∙ ap (λ z. map f (take i xs ++ z ∷ [])) e ∙ ap (map f) (sym (take_more xs i y h))

pub mapped_end : {A B : Type 0} (f : A → B) (out : List B) (xs : List A) (i : ℕ) → out ≡ map f (take i xs) → length xs ≤ i → out ≡ map f xs
mapped_end f out xs i p h = p ∙ ap (map f) (take_all i xs h)

pub append_nil : {A : Type 0} (xs : List A) → xs ++ [] ≡ xs
append_nil [] = refl
append_nil (x ∷ xs) = ap (λ l. x ∷ l) (append_nil xs)

-- what each item puts at the end
pub put_step : {A B : Type 0} (f : A → List B) (start out out1 : List B) (xs : List A) (i : ℕ) (y : A) → i < length xs → y ≡ get_or xs i y → out ≡ start ++ flat_map f (take i xs) → out1 ≡ out ++ f y → out1 ≡ start ++ flat_map f (take (i + 1) xs)
put_step f start out out1 xs i y h e p q =
    q ∙ ap (λ l. l ++ f y) p ∙ append_assoc start (flat_map f (take i xs)) (f y)
    ∙ ap (λ l. start ++ (flat_map f (take i xs) ++ l)) (sym (append_nil (f y)))
    ∙ ap (λ l. start ++ l) (sym (flat_map-append f (take i xs) (y ∷ [])) ∙ ap (λ z. flat_map f (take i xs ++ z ∷ [])) e ∙ ap (flat_map f) (sym (take_more xs i y h)))

pub put_end : {A B : Type 0} (f : A → List B) (start out : List B) (xs : List A) (i : ℕ) → out ≡ start ++ flat_map f (take i xs) → length xs ≤ i → out ≡ start ++ flat_map f xs
put_end f start out xs i p h = p ∙ ap (λ l. start ++ flat_map f l) (take_all i xs h)

-- three items put one after another
pub put_three : {A : Type 0} (a b c : A) (out out1 out2 out3 : List A) → out1 ≡ out ++ a ∷ [] → out2 ≡ out1 ++ b ∷ [] → out3 ≡ out2 ++ c ∷ [] → out3 ≡ out ++ a ∷ b ∷ c ∷ []
put_three {A = A} a b c out out1 out2 out3 p q r = r ∙ ap (λ o. o ++ c ∷ []) (q ∙ ap (λ o. o ++ b ∷ []) p) ∙ go out
  where
    go : (xs : List A) → ((xs ++ a ∷ []) ++ b ∷ []) ++ c ∷ [] ≡ xs ++ a ∷ b ∷ c ∷ []
    go [] = refl
    go (x ∷ xs) = ap (λ l. x ∷ l) (go xs)
