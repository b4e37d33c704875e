-- Names of the variables of thin trees.
use Rattle.std.proofs.Common.{◌≡◌, ℕ, zero, suc, ◌+◌, ◌<◌, ◌≤◌, ◌^◌, List, [], ◌++◌, length, take, drop, get_or, true, false, Some, Bor, IsTrue, ◌↔◌, ◌⊎◌, inl, inr, refl, sym, ap, ◌∙◌, arith, append-nil}
use Rattle.std.specs.Prelude.{nat_eq, codes, ◌==◌}
use Rattle.std.specs.Char.{is_ascii_digit}
use Rattle.std.specs.Cmp.Lexicographic.{pointwise}
use Rattle.std.specs.Fmt.{decimal}
use Rattle.std.proofs.lemmas.Bool.{false≢true}
use Rattle.std.proofs.lemmas.Bool.Decides.{Decides-eqb}
use Rattle.std.proofs.lemmas.Fmt.{digits_decimal, digits_value-decimal, decimal-digits_value, length-decimal-le, decimal_nonempty, first_decimal, decimal_digit}
use Rattle.std.proofs.lemmas.List.{nil_from_length}
use Rattle.std.proofs.lemmas.Slice.Eq.{strip_prefix_is}
use Rattle.sw_base.specs.Limits.{longest_source}
use Rattle.sw_thin.specs.Thin.{IsName}
use Rattle.sw_thin.specs.TreeReading.{Stops, IsDigits, number_from}
use Rattle.sw_thin.proofs.SumLemmas.{own, one_cut}

-- what a stripped prefix says
pub stripped : (s p : List ℕ) (x : Bor (List ℕ)) → (pointwise nat_eq (take (length p) s) p ≡ true) × (x.now ≡ drop (length p) s) × (length x.now + length p ≡ length s) → s ≡ p ++ x.now
stripped s p x h = strip_prefix_is Decides-eqb s p (Some x) h

pub empty_is : (n : ℕ) → true ≡ (n == 0) → n ≡ 0
empty_is n h = (Decides-eqb n 0).0 (sym h)

pub not_empty_is : (n : ℕ) → false ≡ (n == 0) → 0 < n
not_empty_is zero h = absurd (false≢true h)
not_empty_is (suc n) h = omega arith

small_decimal : (j k : ℕ) → j < k → k ≤ longest_source → j < 2 ^ 64
small_decimal j k lt small = omega (arith, lt, small)

-- digits that begin a name are the number of the variable
pub name_digits : (what ds rest : List ℕ) (k : ℕ) → k ≤ longest_source → IsDigits ds → Stops is_ascii_digit rest → what ≡ codes "v" ++ (ds ++ rest) → (is : IsName k what) → (ds ≡ decimal is.0) × (rest ≡ [])
name_digits what ds rest k small digits stops whole is =
    let same : ds ++ rest ≡ decimal is.0 ++ [] = ap (drop 1) (sym whole ∙ is.2) ∙ sym (append-nil (decimal is.0)) in
    one_cut is_ascii_digit ds (decimal is.0) rest [] digits (digits_decimal own is.0 (small_decimal is.0 k is.1 small)) stops tt same

pub name_short : (what ds rest : List ℕ) (k : ℕ) → k ≤ longest_source → IsDigits ds → Stops is_ascii_digit rest → what ≡ codes "v" ++ (ds ++ rest) → IsName k what → (length rest ≡ 0) × (0 < length ds) × (length ds ≤ 9) × (number_from 0 ds < k) × (get_or ds 0 0 ≡ 48 → length ds ≤ 1)
name_short what ds rest k small digits stops whole is =
    let n = name_digits what ds rest k small digits stops whole is in
    let bound = small_decimal is.0 k is.1 small in
    let size : length ds ≡ length (decimal is.0) = ap length n.0 in
    let value : number_from 0 ds ≡ is.0 = ap (number_from 0) n.0 ∙ digits_value-decimal own is.0 bound in
    (ap length n.1, omega (arith, size, decimal_nonempty is.0 bound), omega (arith, size, length-decimal-le 9 is.0 (omega arith) (omega (arith, is.1, small)) bound), omega (arith, value, is.1), λ zero_first. one (decides is.0) n.0 zero_first bound)
  where
    decides : (j : ℕ) → (j ≡ 0) ⊎ (0 < j)
    decides zero = inl refl
    decides (suc j) = inr (omega arith)

    one : {j : ℕ} → (j ≡ 0) ⊎ (0 < j) → ds ≡ decimal j → get_or ds 0 0 ≡ 48 → j < 2 ^ 64 → length ds ≤ 1
    one (inl z) same first bound = let size : length ds ≡ 1 = ap length (same ∙ (ap decimal z ∙ decimal_digit 0 (omega arith))) in omega (arith, size)
    one (inr p) same first bound = let clash : 48 ≡ get_or (decimal _) 0 0 = sym first ∙ ap (λ t. get_or t 0 0) same in absurd (omega (arith, clash, first_decimal _ p bound))

-- digits without needless zeros, after a v, are a name
pub name_found : (what ds rest : List ℕ) (k : ℕ) → k ≤ longest_source → IsDigits ds → length rest ≡ 0 → what ≡ codes "v" ++ (ds ++ rest) → 0 < length ds → (get_or ds 0 0 ≡ 48 → length ds ≡ 1) → number_from 0 ds < k → IsName k what
name_found what ds rest k small digits empty whole some plain lt =
    let same : decimal (number_from 0 ds) ≡ ds = decimal-digits_value own ds digits some plain (small_decimal (number_from 0 ds) k lt small) in
    let all : ds ++ rest ≡ ds = ap (λ r. ds ++ r) (nil_from_length rest empty) ∙ append-nil ds in
    (number_from 0 ds, lt, whole ∙ ap (λ t. codes "v" ++ t) (all ∙ sym same))

-- a test that fails, and one that succeeds
pub test_fails : {P : Type 0} → (P → ⊥) → IsTrue false ↔ P
test_fails {P} none = (λ h. absurd (none_true h), λ p. absurd (none p))
  where
    none_true : IsTrue false → ⊥
    none_true h = grind arith
