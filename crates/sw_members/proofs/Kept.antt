-- Numbers by key, as they are kept.
use Rattle.std.proofs.Common.{◌≡◌, ◌<◌, ℕ, zero, suc, ◌+◌, List, [], ◌∷◌, ◌++◌, Bool, true, false, ◌||◌, ◌&&◌, cond, length, take, drop, get_or, refl, sym, ap, subst, ◌∙◌, nat_eq, arith}
use Rattle.std.proofs.lemmas.Bool.Decides.{nat_tests}
use Rattle.std.proofs.lemmas.List.{take_more, take-append-drop}
use Rattle.std.proofs.lemmas.List.Folds.{list_any-append}
use Rattle.std.specs.List.{list_any}
use Rattle.sw_sight.specs.InSight.{Text, same}
use Rattle.sw_sight.specs.Levels.{Entries, level, IsKnown}
use Rattle.sw_members.specs.Keys.{AreKnown, IsKeyed, has_key, keys_of, place}
use Rattle.sw_members.specs.declared.declaration.Declaration.{Declaration}
use Rattle.sw_members.proofs.Words.{same_true, same_refl}
use Rattle.sw_members.proofs.Places.{place_more, length_more}

-- ---- one key

-- where no number is kept, one is
pub first_set : (x key : Text) (number : ℕ) (old new : Entries) → level key old ≡ 0 → level x new ≡ cond (same x key) number (level x old) → level x new ≡ cond (same x key && nat_eq (level x old) 0) number (level x old)
first_set x key number old new z h = h ∙ go (same x key) refl
  where
    go : (t : Bool) → same x key ≡ t → cond t number (level x old) ≡ cond (t && nat_eq (level x old) 0) number (level x old)
    go true p = let e : level x old ≡ 0 = ap (λ y. level y old) (same_true x key p) ∙ z in sym (ap (λ l. cond (nat_eq l 0) number l) e)
    go false p = refl

-- where one is kept, it stays
pub first_kept : (x key : Text) (number : ℕ) (old : Entries) → (level key old ≡ 0 → ⊥) → level x old ≡ cond (same x key && nat_eq (level x old) 0) number (level x old)
first_kept x key number old z = go (same x key) refl
  where
    above : (l : ℕ) → (l ≡ 0 → ⊥) → l ≡ cond (nat_eq l 0) number l
    above zero h = absurd (h refl)
    above (suc l) h = let none : nat_eq (suc l) 0 ≡ false = grind (arith, nat_tests) in sym (ap (λ b. cond b number (suc l)) none)

    go : (t : Bool) → same x key ≡ t → level x old ≡ cond (t && nat_eq (level x old) 0) number (level x old)
    go true p = above (level x old) (λ e. z (ap (λ y. level y old) (sym (same_true x key p)) ∙ e))
    go false p = refl

-- ---- several

-- one key more is among those that a loop has gone through
any_more : (x : Text) (keys : List Text) (i : ℕ) (k : Text) → i < length keys → k ≡ get_or keys i k → list_any (same x) (take (i + 1) keys) ≡ (list_any (same x) (take i keys) || same x k)
any_more x keys i k h e =
    ap (list_any (same x)) (take_more keys i k h) ∙ list_any-append (same x) (take i keys) (get_or keys i k ∷ [])
    ∙ ap (λ y. list_any (same x) (take i keys) || (same x y || false)) (sym e) ∙ ap (λ t. list_any (same x) (take i keys) || t) (or_false (same x k))
  where
    or_false : (t : Bool) → (t || false) ≡ t
    or_false true = refl
    or_false false = refl

pub known_more : (keys : List Text) (i : ℕ) (k key : Text) (old new : Entries) → i < length keys → k ≡ get_or keys i k → key ≡ k → IsKnown key new → ((x : Text) → IsKnown x old → IsKnown x new)
    → AreKnown (take i keys) old → AreKnown (take (i + 1) keys) new
known_more keys i k key old new h e n known keeps are x p = go (list_any (same x) (take i keys)) (same x k) refl refl (sym (any_more x keys i k h e) ∙ p)
  where
    go : (s t : Bool) → list_any (same x) (take i keys) ≡ s → same x k ≡ t → (list_any (same x) (take i keys) || same x k) ≡ true → IsKnown x new
    go true t q r u = keeps x (are x q)
    go false true q r u = subst (λ y. IsKnown y new) (n ∙ sym (same_true x k r)) known
    go false false q r u = absurd (let z : false ≡ true = sym (ap (λ a. a || false) q) ∙ sym (ap (λ b. list_any (same x) (take i keys) || b) r) ∙ u in cc)

-- the key that a loop is at is among them
pub known_one : (keys : List Text) (i : ℕ) (k key : Text) (old : Entries) → i < length keys → k ≡ get_or keys i k → key ≡ k → AreKnown keys old → IsKnown key old
known_one keys i k key old h e n are = subst (λ y. IsKnown y old) (sym n) (are k (ap (list_any (same k)) (sym (take-append-drop (i + 1) keys)) ∙ list_any-append (same k) (take (i + 1) keys) (drop (i + 1) keys) ∙ ap (λ t. t || list_any (same k) (drop (i + 1) keys)) (any_more k keys i k h e ∙ ap (λ t. list_any (same k) (take i keys) || t) (same_refl k k refl) ∙ or_true (list_any (same k) (take i keys)))))
  where
    or_true : (t : Bool) → (t || true) ≡ true
    or_true true = refl
    or_true false = refl

pub kept_more : (x : Text) (keys : List Text) (i : ℕ) (k key : Text) (number : ℕ) (start old new : Entries) → i < length keys → k ≡ get_or keys i k → key ≡ k
    → level x new ≡ cond (same x key && nat_eq (level x old) 0) number (level x old)
    → level x old ≡ cond (list_any (same x) (take i keys) && nat_eq (level x start) 0) number (level x start)
    → level x new ≡ cond (list_any (same x) (take (i + 1) keys) && nat_eq (level x start) 0) number (level x start)
kept_more x keys i k key number start old new h e n step before =
    step ∙ ap (λ y. cond (same x y && nat_eq (level x old) 0) number (level x old)) n
    ∙ ap (λ l. cond (same x k && nat_eq l 0) number l) before ∙ go (list_any (same x) (take i keys)) (same x k) (nat_eq (level x start) 0) refl
    ∙ ap (λ t. cond (t && nat_eq (level x start) 0) number (level x start)) (sym (any_more x keys i k h e))
  where
    same_number : (b : Bool) → cond b number number ≡ number
    same_number true = refl
    same_number false = refl

    go : (s t z : Bool) → nat_eq (level x start) 0 ≡ z → cond (t && nat_eq (cond (s && z) number (level x start)) 0) number (cond (s && z) number (level x start)) ≡ cond ((s || t) && z) number (level x start)
    go true true true p = same_number (nat_eq number 0)
    go true false true p = refl
    go true true false p = ap (λ b. cond b number (level x start)) p
    go true false false p = refl
    go false true z p = ap (λ b. cond b number (level x start)) p
    go false false z p = refl

-- ---- the table as it grows

pub none_keyed : (items : List Declaration) (firsts : Entries) → items ≡ [] → firsts ≡ [] → IsKeyed items firsts
unfolding level place
none_keyed items firsts e f x = ap (level x) f ∙ sym (ap (place (has_key x)) e)

pub still_keyed : (items again : List Declaration) (old new : Entries) → again ≡ items → ((x : Text) → level x new ≡ level x old) → IsKeyed items old → IsKeyed again new
still_keyed items again old new e h i x = h x ∙ i x ∙ sym (ap (place (has_key x)) e)

pub keyed_more : (items again : List Declaration) (d : Declaration) (keys : List Text) (number : ℕ) (old mid new : Entries) → again ≡ items ++ d ∷ [] → keys ≡ keys_of d → number ≡ length again
    → ((x : Text) → level x mid ≡ level x old) → ((x : Text) → level x new ≡ cond (list_any (same x) keys && nat_eq (level x mid) 0) number (level x mid)) → IsKeyed items old → IsKeyed again new
keyed_more items again d keys number old mid new e k n m h i x =
    let p = place (has_key x) items in
    h x ∙ ap (λ l. cond (list_any (same x) keys && nat_eq l 0) number l) (m x ∙ i x)
    ∙ ap (λ ks. cond (list_any (same x) ks && nat_eq p 0) number p) k
    ∙ ap (λ z. cond (has_key x d && nat_eq p 0) z p) (n ∙ ap length e ∙ length_more items d)
    ∙ sym (place_more (has_key x) items d) ∙ sym (ap (place (has_key x)) e)
