-- The element at an index of a list that is joined of others.
use Rattle.std.proofs.Common.{◌≡◌, ℕ, zero, suc, ◌+◌, ◌<◌, ◌≤◌, List, [], ◌∷◌, ◌++◌, ◌∙◌, take, drop, length, get_or, slice_get, Some, None, refl, sym, ap, arith, drop-cons}
use Rattle.std.specs.List.{flat_map}
use Rattle.std.specs.Option.{option_map}
use Rattle.std.proofs.lemmas.List.{take_all, take-append-drop}
use Rattle.std.proofs.lemmas.Grind.{flat_map-append}
use Rattle.std.proofs.lemmas.Option.{slice_get_past, slice_get_read}

get_after : {A : Type 0} (xs ys : List A) (k : ℕ) → slice_get (xs ++ ys) (length xs + k) ≡ slice_get ys k
get_after [] ys k = let e : 0 + k ≡ k = omega arith in ap (slice_get ys) e
get_after (x ∷ xs) ys k = let e : length (x ∷ xs) + k ≡ suc (length xs + k) = omega arith in ap (slice_get (x ∷ (xs ++ ys))) e ∙ get_after xs ys k

get_before : {A : Type 0} (xs ys : List A) (k : ℕ) → k < length xs → slice_get (xs ++ ys) k ≡ slice_get xs k
get_before [] ys k h = absurd (omega (arith, h))
get_before (x ∷ xs) ys zero h = refl
get_before (x ∷ xs) ys (suc k) h = get_before xs ys k (omega (arith, h))

split : {A : Type 0} (xs : List A) (i : ℕ) (y : A) → i < length xs → y ≡ get_or xs i y → take i xs ++ y ∷ drop (suc i) xs ≡ xs
split xs i y h e = ap (λ z. take i xs ++ z ∷ drop (suc i) xs) e ∙ ap (λ l. take i xs ++ l) (sym (drop-cons xs i y h)) ∙ take-append-drop i xs

-- what has so many after those of the items before this one is one of this item
pub found_in : {A B : Type 0} (f : A → List B) (xs : List A) (i : ℕ) (y : A) (left n : ℕ) → i < length xs → y ≡ get_or xs i y → left + length (flat_map f (take i xs)) ≡ n → left < length (f y)
    → slice_get (flat_map f xs) n ≡ slice_get (f y) left
found_in f xs i y left n h e p l =
    let before = flat_map f (take i xs) in
    let after = flat_map f (drop (suc i) xs) in
    let q : n ≡ length (flat_map f (take i xs)) + left = omega (arith, p) in
    ap (λ zs. slice_get (flat_map f zs) n) (sym (split xs i y h e))
    ∙ ap (λ zs. slice_get zs n) (flat_map-append f (take i xs) (y ∷ drop (suc i) xs))
    ∙ ap (slice_get (before ++ (f y ++ after))) q
    ∙ get_after before (f y ++ after) left
    ∙ get_before (f y) after left l

-- there are not so many
pub found_none : {A B : Type 0} (f : A → List B) (xs : List A) (i left n : ℕ) → left + length (flat_map f (take i xs)) ≡ n → length xs ≤ i → slice_get (flat_map f xs) n ≡ None
found_none f xs i left n p h =
    let q : length (flat_map f (take i xs)) ≤ n = omega (arith, p) in
    ap (λ zs. slice_get (flat_map f zs) n) (sym (take_all i xs h)) ∙ slice_get_past (flat_map f (take i xs)) n q

-- the place of the one that is found
pub place_in : {A B C : Type 0} (place : B → C) (f : A → List B) (xs : List A) (i : ℕ) (y : A) (left n : ℕ) (ys : List B) (x : B) → i < length xs → y ≡ get_or xs i y → left + length (flat_map f (take i xs)) ≡ n
    → ys ≡ f y → left < length ys → x ≡ get_or ys left x → Some (place x) ≡ option_map place (slice_get (flat_map f xs) n)
place_in place f xs i y left n ys x h e p is l g =
    let lt : left < length (f y) = rw (sym is) l in
    ap (option_map place)
    (sym (slice_get_read ys (length ys) left x refl l g) ∙ ap (λ zs. slice_get zs left) is ∙ sym (found_in f xs i y left n h e p lt))

pub place_none : {A B C : Type 0} (place : B → C) (f : A → List B) (xs : List A) (i left n : ℕ) → left + length (flat_map f (take i xs)) ≡ n → length xs ≤ i → None ≡ option_map place (slice_get (flat_map f xs) n)
place_none place f xs i left n p h = ap (option_map place) (sym (found_none f xs i left n p h))
