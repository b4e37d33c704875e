-- Numbers only grow by more digits.
use Rattle.std.proofs.Common.{◌≡◌, ◌<◌, ◌≤◌, ℕ, ◌+◌, ◌-◌, ◌*◌, Bool, true, false, cond, [], ◌∷◌, drop, length, ap, arith, ◌==◌}
use Rattle.std.proofs.lemmas.List.{drop_more}
use Rattle.std.specs.Prelude.{slice_index}
use Rattle.sw_lex.specs.Bytes.{Text}
use Rattle.sw_lex.specs.Rules.{number}

pub number_grows : (n : ℕ) (z : Text) → n ≤ number n z
number_grows n [] = omega arith
number_grows n (b ∷ z) = branch (b == 95) (number_grows n z) (number_grows (n * 10 + (b - 48)) z)
  where
    branch : (t : Bool) → n ≤ number n z → n * 10 + (b - 48) ≤ number (n * 10 + (b - 48)) z → n ≤ number (cond t n (n * 10 + (b - 48))) z
    branch true p q = p
    branch false p q = omega (arith, p, q)

-- the digit at a place, and those after it
pub number_next : (n i : ℕ) (z : Text) → i < length z → number n (drop i z) ≡ number (number n (slice_index z i ∷ [])) (drop (i + 1) z)
number_next n i z h = ap (λ y. number n y) (drop_more z i 0 h)
