-- The place of the first that passes.
use Rattle.std.proofs.Common.{◌≡◌, ℕ, zero, suc, List, [], ◌∷◌, ◌++◌, Bool, true, false, ◌||◌, ◌&&◌, not, ◌+◌, ◌-◌, cond, Some, None, length, slice_get, refl, sym, ap, ◌∙◌, nat_eq, nat_lt, arith}
use Rattle.std.proofs.lemmas.Bool.Decides.{nat_tests}
use Rattle.std.specs.List.{find, list_any, position, position_or_len}
use Rattle.sw_members.specs.Keys.{one_later, place, at_place}

suc_is_some : (n : ℕ) → nat_eq (suc n) 0 ≡ false
suc_is_some n = grind (arith, nat_tests)

suc_is_more : (n : ℕ) → nat_lt 0 (suc n) ≡ true
suc_is_more n = grind (arith, nat_tests)

pub place_as : {A : Type 0} (p q : A → Bool) → ((a : A) → p a ≡ q a) → (items : List A) → place p items ≡ place q items
unfolding place
place_as p q h [] = refl
place_as p q h (x ∷ xs) = ap (λ t. cond t (suc zero) (one_later (place p xs))) (h x) ∙ ap (λ n. cond (q x) (suc zero) (one_later n)) (place_as p q h xs)

pub found_at : {A : Type 0} (p : A → Bool) (items : List A) → at_place (place p items) items ≡ find p items
unfolding place at_place one_later
found_at p [] = refl
found_at {A = A} p (x ∷ xs) = go (p x) (found_at p xs)
  where
    later : (n : ℕ) → at_place (one_later n) (x ∷ xs) ≡ at_place n xs
    later zero = refl
    later (suc n) = refl

    go : (t : Bool) → at_place (place p xs) xs ≡ find p xs → at_place (cond t (suc zero) (one_later (place p xs))) (x ∷ xs) ≡ cond t (Some x) (find p xs)
    go true h = refl
    go false h = later (place p xs) ∙ h

pub some_place : {A : Type 0} (p : A → Bool) (items : List A) → nat_lt 0 (place p items) ≡ list_any p items
unfolding place one_later
some_place p [] = refl
some_place p (x ∷ xs) = go (p x) (place p xs) (some_place p xs)
  where
    go : (t : Bool) (n : ℕ) → nat_lt 0 n ≡ list_any p xs → nat_lt 0 (cond t (suc zero) (one_later n)) ≡ (t || list_any p xs)
    go true n h = refl
    go false zero h = h
    go false (suc n) h = suc_is_more (suc n) ∙ sym (suc_is_more n) ∙ h

-- one item more, at the end
pub place_more : {A : Type 0} (p : A → Bool) (items : List A) (a : A) → place p (items ++ a ∷ []) ≡ cond (p a && nat_eq (place p items) 0) (suc (length items)) (place p items)
unfolding place one_later
place_more p [] a = go (p a)
  where
    go : (s : Bool) → cond s (suc zero) zero ≡ cond (s && true) (suc zero) zero
    go true = refl
    go false = refl
place_more p (x ∷ items) a = ap (λ n. cond (p x) (suc zero) (one_later n)) (place_more p items a) ∙ go (p x) (p a) (place p items)
  where
    go : (s r : Bool) (n : ℕ) → cond s (suc zero) (one_later (cond (r && nat_eq n 0) (suc (length items)) n)) ≡ cond (r && nat_eq (cond s (suc zero) (one_later n)) 0) (suc (suc (length items))) (cond s (suc zero) (one_later n))
    go true true n = refl
    go true false n = refl
    go false true zero = refl
    go false true (suc n) = ap (λ b. one_later (cond b (suc (length items)) (suc n))) (suc_is_some n) ∙ sym (ap (λ b. cond b (suc (suc (length items))) (suc (suc n))) (suc_is_some (suc n)))
    go false false n = refl

pub length_more : {A : Type 0} (items : List A) (a : A) → length (items ++ a ∷ []) ≡ suc (length items)
length_more [] a = refl
length_more (x ∷ items) a = ap suc (length_more items a)

pub one_before : {A : Type 0} (n : ℕ) (items : List A) → (n ≡ 0 → ⊥) → slice_get items (n - 1) ≡ at_place n items
unfolding at_place
one_before zero items h = absurd (h refl)
one_before (suc n) items h = let e : suc n - 1 ≡ n = omega arith in ap (slice_get items) e

-- ---- the place and the index

place_at : {A : Type 0} (p : A → Bool) (items : List A) → place p items ≡ cond (nat_lt (position_or_len p items) (length items)) (suc (position_or_len p items)) 0
unfolding place one_later
place_at p [] = refl
place_at p (x ∷ xs) = ap (λ n. cond (p x) (suc zero) (one_later n)) (place_at p xs) ∙ go (p x) (position_or_len p xs) (nat_lt (position_or_len p xs) (length xs)) refl
  where
    later : (n l : ℕ) → nat_lt (1 + n) (suc l) ≡ nat_lt n l
    later n l = grind (arith, nat_tests)

    two : (n : ℕ) → suc (suc n) ≡ suc (1 + n)
    two n = omega arith

    go : (t : Bool) (n : ℕ) (b : Bool) → nat_lt n (length xs) ≡ b → cond t (suc zero) (one_later (cond b (suc n) 0)) ≡ cond (nat_lt (cond (not t) (1 + n) 0) (suc (length xs))) (suc (cond (not t) (1 + n) 0)) 0
    go true n b h = sym (ap (λ c. cond c (suc zero) 0) (suc_is_more (length xs)))
    go false n true h = two n ∙ sym (ap (λ c. cond c (suc (1 + n)) 0) (later n (length xs) ∙ h))
    go false n false h = sym (ap (λ c. cond c (suc (1 + n)) 0) (later n (length xs) ∙ h))

pub place_found : {A : Type 0} (p : A → Bool) (items : List A) (i : ℕ) → position p items ≡ Some i → i + 1 ≡ place p items
place_found p items i h = go (position_or_len p items) (nat_lt (position_or_len p items) (length items)) h ∙ sym (place_at p items)
  where
    one : (i n : ℕ) → Some n ≡ Some i → i + 1 ≡ suc n
    one i n h = grind arith

    go : (n : ℕ) (b : Bool) → cond b (Some n) None ≡ Some i → i + 1 ≡ cond b (suc n) 0
    go n true h = one i n h
    go n false h = absurd (cc)

pub no_place : {A : Type 0} (p : A → Bool) (items : List A) → position p items ≡ None → 0 ≡ place p items
no_place p items h = go (position_or_len p items) (nat_lt (position_or_len p items) (length items)) h ∙ sym (place_at p items)
  where
    go : (n : ℕ) (b : Bool) → cond b (Some n) None ≡ None → 0 ≡ cond b (suc n) 0
    go n true h = absurd (cc)
    go n false h = refl
