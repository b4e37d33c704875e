-- Numbers only grow by more digits.
use Rattle.std.proofs.Common.{◌≡◌, ◌<◌, ◌≤◌, ℕ, ◌+◌, ◌-◌, ◌*◌, Bool, true, false, cond, [], ◌∷◌, drop, length, ap, ◌∙◌, arith, ◌==◌}
use Rattle.std.proofs.lemmas.List.{drop_more}
use Rattle.std.specs.Prelude.{slice_index}
use Rattle.sw_lex.specs.Bytes.{Text}
use Rattle.sw_lex.specs.Rules.{number}

pub number_grows : (n : ℕ) (z : Text) → n ≤ number n z
number_grows n [] = omega arith
number_grows n (b ∷ z) = branch (b == 95) (number_grows n z) (number_grows (n * 10 + (b - 48)) z)
  where
    branch : (t : Bool) → n ≤ number n z → n * 10 + (b - 48) ≤ number (n * 10 + (b - 48)) z → n ≤ number (cond t n (n * 10 + (b - 48))) z
    branch true p q = p
    branch false p q = omega (arith, p, q)

pub number_large : (most n i : ℕ) (z : Text) → i < length z → (slice_index z i == 95) ≡ false → most < n * 10 + (slice_index z i - 48) → most < number n (drop i z)
number_large most n i z h plain large =
    let e : drop i z ≡ slice_index z i ∷ drop (i + 1) z = drop_more z i 0 h in
    let f : number n (slice_index z i ∷ drop (i + 1) z) ≡ number (n * 10 + (slice_index z i - 48)) (drop (i + 1) z) = ap (λ t. number (cond t n (n * 10 + (slice_index z i - 48))) (drop (i + 1) z)) plain in
    let g = number_grows (n * 10 + (slice_index z i - 48)) (drop (i + 1) z) in
    let r : number n (drop i z) ≡ number (n * 10 + (slice_index z i - 48)) (drop (i + 1) z) = ap (λ y. number n y) e ∙ f in
    omega (arith, g, r, large)
