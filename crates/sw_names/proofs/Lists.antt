-- What a list of refusals has, where it is made of others.
use Rattle.std.proofs.Common.{◌≡◌, ◌⊎◌, ℕ, zero, suc, ◌+◌, ◌<◌, ◌≤◌, List, [], ◌∷◌, ◌++◌, ◌∙◌, map, take, length, get_or, arith, refl, sym, ap, subst, inl, inr}
use Rattle.std.proofs.lemmas.List.{take_more, take_all}
use Rattle.std.specs.List.{flat_map, Contains}
use Rattle.std.proofs.lemmas.List.Elements.{Contains-append_right, Contains-append_cases}
use Rattle.sw_rules.specs.declared.Refusal.{Refusal}
use Rattle.sw_findings.specs.Found.{Has}

pub has_left : (xs ys : List Refusal) (r : Refusal) → Has xs r → Has (xs ++ ys) r
has_left [] ys r h = absurd h
has_left (x ∷ xs) ys r (inl e) = inl e
has_left (x ∷ xs) ys r (inr h) = inr (has_left xs ys r h)

pub has_right : (xs ys : List Refusal) (r : Refusal) → Has ys r → Has (xs ++ ys) r
has_right [] ys r h = h
has_right (x ∷ xs) ys r h = inr (has_right xs ys r h)

pub has_either : (xs ys : List Refusal) (r : Refusal) → Has (xs ++ ys) r → Has xs r ⊎ Has ys r
has_either [] ys r h = inr h
has_either (x ∷ xs) ys r (inl e) = inl (inl e)
has_either (x ∷ xs) ys r (inr h) = go (has_either xs ys r h)
  where
    go : Has xs r ⊎ Has ys r → Has (x ∷ xs) r ⊎ Has ys r
    go (inl k) = inl (inr k)
    go (inr k) = inr k

-- an item among these, of which it is a refusal
pub OfOne : {A : Type 0} → (A → List Refusal) → List A → Refusal → Type 0
OfOne {A} f xs r = (x : A) × Contains xs x × Has (f x) r

pub has_of_one : {A : Type 0} (f : A → List Refusal) (xs : List A) (r : Refusal) → Has (flat_map f xs) r → (x : A) × Contains xs x × Has (f x) r
has_of_one f [] r h = absurd h
has_of_one {A} f (x ∷ xs) r h = go (has_of_one f xs r) (has_either (f x) (flat_map f xs) r h)
  where
    go : (Has (flat_map f xs) r → (y : A) × Contains xs y × Has (f y) r) → Has (f x) r ⊎ Has (flat_map f xs) r → (y : A) × Contains (x ∷ xs) y × Has (f y) r
    go rest (inl k) = (x, (0, omega arith, refl), k)
    go rest (inr k) = let n = rest k in (n.0, Contains-append_right (x ∷ []) xs n.0 n.1, n.2)

pub one_has : {A : Type 0} (f : A → List Refusal) (xs : List A) (x : A) (r : Refusal) → Contains xs x → Has (f x) r → Has (flat_map f xs) r
one_has f [] x r c h = absurd (omega (arith, c.1))
one_has {A} f (y ∷ xs) x r c h = go (λ k. one_has f xs x r k h) (Contains-append_cases (y ∷ []) xs x c)
  where
    only : Contains (y ∷ []) x → y ≡ x
    only (zero, lt, e) = e
    only (suc k, lt, e) = absurd (omega arith)

    go : (Contains xs x → Has (flat_map f xs) r) → Contains (y ∷ []) x ⊎ Contains xs x → Has (f y ++ flat_map f xs) r
    go rest (inl k) = has_left (f y) (flat_map f xs) r (subst (λ z. Has (f z) r) (sym (only k)) h)
    go rest (inr k) = has_right (f y) (flat_map f xs) r (rest k)

map_push : {A B : Type 0} (f : A → B) (xs : List A) (y : A) → map f (xs ++ y ∷ []) ≡ map f xs ++ f y ∷ []
map_push f [] y = refl
map_push f (x ∷ xs) y = ap (λ l. f x ∷ l) (map_push f xs y)

-- one more item is mapped
pub mapped_step : {A B : Type 0} (f : A → B) (out out1 : List B) (xs : List A) (i : ℕ) (y : A) → i < length xs → y ≡ get_or xs i y → out ≡ map f (take i xs) → out1 ≡ out ++ f y ∷ [] → out1 ≡ map f (take (i + 1) xs)
mapped_step f out out1 xs i y h e p q =
    q ∙ ap (λ l. l ++ f y ∷ []) p ∙ sym (map_push f (take i xs) y) ∙ ap (λ z. map f (take i xs ++ z ∷ [])) e ∙ ap (map f) (sym (take_more xs i y h))

-- all items are
pub mapped_end : {A B : Type 0} (f : A → B) (out : List B) (xs : List A) (i : ℕ) → out ≡ map f (take i xs) → length xs ≤ i → out ≡ map f xs
mapped_end f out xs i p h = p ∙ ap (map f) (take_all i xs h)
