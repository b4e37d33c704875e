-- Of a hexadecimal number the code keeps the least of it and the first number above the scalar values.
use Rattle.std.proofs.Common.{◌≡◌, ◌≤◌, ℕ, ◌+◌, ◌*◌, Bool, true, false, [], ◌∷◌, refl, ap, ◌∙◌, arith, min, nat_lt}
use Rattle.std.proofs.lemmas.Grind.{common_steps}
use Rattle.sw_lex.specs.Bytes.{Text}
use Rattle.sw_lex.specs.Strings.{hex_number, hex_digit, is_scalar}
use Rattle.sw_lex.specs.Matching.{scalar_text}

hex_grows : (n : ℕ) (z : Text) → n ≤ hex_number n z
hex_grows n [] = omega arith
hex_grows n (b ∷ z) = omega (arith, hex_grows (n * 16 + hex_digit b) z)

-- above the scalar values more digits do not matter
pub hex_least : (n : ℕ) (z : Text) → min (hex_number (min n 1114112) z) 1114112 ≡ min (hex_number n z) 1114112
hex_least n z = go (nat_lt n 1114112) refl
  where
    go : (t : Bool) → nat_lt n 1114112 ≡ t → min (hex_number (min n 1114112) z) 1114112 ≡ min (hex_number n z) 1114112
    go true e = let same : min n 1114112 ≡ n = grind (arith, common_steps) in ap (λ m. min (hex_number m z) 1114112) same
    go false e =
        let least : min n 1114112 ≡ 1114112 = grind (arith, common_steps) in
        let more : 1114112 ≤ n = grind (arith, common_steps) in
        let a = hex_grows (min n 1114112) z in
        let b = hex_grows n z in
        omega (arith, a, b, least, more)

pub scalar_least : (n : ℕ) → is_scalar (min n 1114112) ≡ is_scalar n
scalar_least n = grind (arith, common_steps)

pub scalar_text_least : (n : ℕ) → scalar_text (min n 1114112) ≡ scalar_text n
scalar_text_least n = go (nat_lt n 1114112) refl
  where
    go : (t : Bool) → nat_lt n 1114112 ≡ t → scalar_text (min n 1114112) ≡ scalar_text n
    go true e = let same : min n 1114112 ≡ n = grind (arith, common_steps) in ap scalar_text same
    go false e =
        let none : is_scalar n ≡ false = grind (arith, common_steps) in
        let least : is_scalar (min n 1114112) ≡ false = scalar_least n ∙ none in
        cc
