-- What numbers by name tell of the items of a table, as both grow.
use Rattle.std.proofs.Common.{◌≡◌, ◌<◌, ◌≤◌, ℕ, zero, suc, List, [], ◌∷◌, ◌++◌, Bool, true, false, ◌||◌, ◌&&◌, cond, refl, sym, ap, subst, ◌∙◌, nat_lt, nat_eq, arith}
use Rattle.std.proofs.lemmas.Bool.Decides.{nat_tests}
use Rattle.std.proofs.lemmas.List.Folds.{list_any-append}
use Rattle.std.specs.List.{list_any}
use Rattle.std.specs.Cmp.Lexicographic.{bytes_decides}
use Rattle.sw_sight.specs.InSight.{Text, same}
use Rattle.sw_sight.specs.Levels.{Entries, level}
use Rattle.sw_declared.specs.Ranks.{IsRanked}

pub same_true : (a b : Text) → same a b ≡ true → a ≡ b
unfolding same
same_true a b h = (bytes_decides a b).0 h

pub same_refl : (a b : Text) → a ≡ b → same a b ≡ true
unfolding same
same_refl a b h = (bytes_decides a b).1 h

pub same_sym : (a b : Text) → same a b ≡ same b a
same_sym a b = go (same a b) (same b a) refl refl
  where
    go : (x y : Bool) → same a b ≡ x → same b a ≡ y → x ≡ y
    go true true p q = refl
    go false false p q = refl
    go true false p q = sym (same_refl b a (sym (same_true a b p))) ∙ q
    go false true p q = sym p ∙ same_refl a b (sym (same_true b a q))

or_false : (t : Bool) → t ≡ (t || false)
or_false true = refl
or_false false = refl

-- a number that is less than the rank is raised to it
pub raised : (x name : Text) (n rank : ℕ) (old new : Entries) → level name old < rank → level x new ≡ cond (same x name) rank (level x old)
    → nat_lt n (level x new) ≡ (nat_lt n (level x old) || (same x name && nat_lt n rank))
raised x name n rank old new less h = ap (nat_lt n) h ∙ go (same x name) refl
  where
    higher : (l : ℕ) → l < rank → nat_lt n rank ≡ (nat_lt n l || nat_lt n rank)
    higher l k = grind (arith, nat_tests)

    go : (t : Bool) → same x name ≡ t → nat_lt n (cond t rank (level x old)) ≡ (nat_lt n (level x old) || (t && nat_lt n rank))
    go true p = higher (level x old) (subst (λ y. level y old < rank) (sym (same_true x name p)) less)
    go false p = or_false (nat_lt n (level x old))

-- one that is not stays
pub kept : (x name : Text) (n rank : ℕ) (old new : Entries) → rank ≤ level name old → level x new ≡ level x old
    → nat_lt n (level x new) ≡ (nat_lt n (level x old) || (same x name && nat_lt n rank))
kept x name n rank old new less h = ap (nat_lt n) h ∙ go (same x name) refl
  where
    higher : (l : ℕ) → rank ≤ l → nat_lt n l ≡ (nat_lt n l || nat_lt n rank)
    higher l k = grind (arith, nat_tests)

    go : (t : Bool) → same x name ≡ t → nat_lt n (level x old) ≡ (nat_lt n (level x old) || (t && nat_lt n rank))
    go true p = higher (level x old) (subst (λ y. rank ≤ level y old) (sym (same_true x name p)) less)
    go false p = or_false (nat_lt n (level x old))

pub suc_is_some : (n : ℕ) → nat_eq (suc n) 0 ≡ false
suc_is_some n = grind (arith, nat_tests)

pub suc_is_more : (n : ℕ) → nat_lt 0 (suc n) ≡ true
suc_is_more n = grind (arith, nat_tests)

-- where no number is kept, one is
pub first_set : (x name : Text) (number : ℕ) (old new : Entries) → level name old ≡ 0 → level x new ≡ cond (same x name) number (level x old) → level x new ≡ cond (same x name && nat_eq (level x old) 0) number (level x old)
first_set x name number old new z h = h ∙ go (same x name) refl
  where
    go : (t : Bool) → same x name ≡ t → cond t number (level x old) ≡ cond (t && nat_eq (level x old) 0) number (level x old)
    go true p = let e : level x old ≡ 0 = ap (λ y. level y old) (same_true x name p) ∙ z in sym (ap (λ l. cond (nat_eq l 0) number l) e)
    go false p = refl

-- where one is kept, it stays
pub first_kept : (x name : Text) (number : ℕ) (old : Entries) → (level name old ≡ 0 → ⊥) → level x old ≡ cond (same x name && nat_eq (level x old) 0) number (level x old)
first_kept x name number old z = go (same x name) refl
  where
    above : (l : ℕ) → (l ≡ 0 → ⊥) → l ≡ cond (nat_eq l 0) number l
    above zero h = absurd (h refl)
    above (suc l) h = sym (ap (λ b. cond b number (suc l)) (suc_is_some l))

    go : (t : Bool) → same x name ≡ t → level x old ≡ cond (t && nat_eq (level x old) 0) number (level x old)
    go true p = above (level x old) (λ e. z (ap (λ y. level y old) (sym (same_true x name p)) ∙ e))
    go false p = refl

-- ---- tables as they change

pub none_ranked : {A : Type 0} (key : A → Text) (rank : A → ℕ) (items : List A) (entries : Entries) → items ≡ [] → entries ≡ [] → IsRanked key rank items entries
unfolding level
none_ranked key rank items entries e f x n = ap (λ es. nat_lt n (level x es)) f ∙ zero_below n ∙ sym (ap (list_any (λ t. same (key t) x && nat_lt n (rank t))) e)
  where
    zero_below : (n : ℕ) → nat_lt n 0 ≡ false
    zero_below n = grind (arith, nat_tests)

pub still_ranked : {A : Type 0} (key : A → Text) (rank : A → ℕ) (items again : List A) (old new : Entries) → again ≡ items → ((x : Text) → level x new ≡ level x old) → IsRanked key rank items old → IsRanked key rank again new
still_ranked key rank items again old new e h i x n = ap (nat_lt n) (h x) ∙ i x n ∙ sym (ap (list_any (λ t. same (key t) x && nat_lt n (rank t))) e)

pub ranked_more : {A : Type 0} (key : A → Text) (rank : A → ℕ) (items again : List A) (old mid new : Entries) (item : A) (name : Text) (r : ℕ) → again ≡ items ++ item ∷ []
    → ((x : Text) → level x mid ≡ level x old) → name ≡ key item → r ≡ rank item → ((x : Text) (n : ℕ) → nat_lt n (level x new) ≡ (nat_lt n (level x mid) || (same x name && nat_lt n r)))
    → IsRanked key rank items old → IsRanked key rank again new
ranked_more {A = A} key rank items again old mid new item name r e m k q h i x n =
    h x n ∙ ap (λ l. nat_lt n l || (same x name && nat_lt n r)) (m x) ∙ ap (λ t. t || (same x name && nat_lt n r)) (i x n)
    ∙ ap (λ t. list_any test items || (t && nat_lt n r)) (same_sym x name ∙ ap (λ y. same y x) k)
    ∙ ap (λ l. list_any test items || (same (key item) x && nat_lt n l)) q
    ∙ ap (λ t. list_any test items || t) (or_false (test item))
    ∙ sym (list_any-append test items (item ∷ [])) ∙ sym (ap (list_any test) e)
  where
    test : A → Bool
    test t = same (key t) x && nat_lt n (rank t)

-- ---- what is asked

pub any_as : {A : Type 0} (p q : A → Bool) → ((t : A) → p t ≡ q t) → (items : List A) → list_any p items ≡ list_any q items
any_as p q h [] = refl
any_as p q h (x ∷ xs) = ap (λ t. t || list_any p xs) (h x) ∙ ap (λ t. q x || t) (any_as p q h xs)
