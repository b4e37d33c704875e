-- The text that is written for an integer: it is one of an integer, and of this one.
use Rattle.std.proofs.Common.{◌≡◌, ◌≤◌, ◌<◌, ℕ, ◌+◌, ◌-◌, ◌*◌, ◌^◌, true, ◌==◌, if◌then◌else◌, [], ◌∷◌, length, pos, refl, sym, ap, subst, arith}
use Rattle.std.specs.Str.{all_ascii_digits}
use Rattle.std.specs.Char.{is_ascii_digit}
use Rattle.std.specs.List.{list_all}
use Rattle.std.specs.Fmt.{decimal, signed_decimal}
use Rattle.std.proofs.lemmas.Fmt.{digits_decimal, digits_value-decimal, decimal_is_IsNumeral}
use Rattle.std.proofs.lemmas.Str.Parse.{IsNumeralModel, tells_all_ascii_digits, numerals_by_fold}
use Rattle.std.proofs.lemmas.Bool.{ne_eqb}
use Rattle.sw_base.specs.Limits.{greatest_integer}
use Rattle.sw_lex.specs.declared.bytes.Class.TheVariants as class
use Rattle.sw_lex.specs.declared.token.TokenKind.TheVariants as k
use Rattle.sw_lex.specs.Bytes.{Text, is_in, underscore}
use Rattle.sw_lex.specs.Rules.{number}
use Rattle.sw_grammar.proofs.Starts.{and_halves, and_both, or_left}
use Rattle.sw_layout.specs.Layouts.{IsDigits}
use Rattle.sw_print.proofs.Spelling.Good.{IsOfKind}

own : IsNumeralModel (λ ds. all_ascii_digits ds ≡ true) (number 0)
own = numerals_by_fold (λ ds. all_ascii_digits ds ≡ true) tells_all_ascii_digits number (record {
  empty = λ n. refl;
  more = λ n c cs k. ap (λ b. number (if b then n else n * 10 + (c - 48)) cs) (ne_eqb c 95 (λ e. omega (arith, k.1, e)));
})

digits_integer : (bytes : Text) → all_ascii_digits bytes ≡ true → list_all (is_in class.Integer) bytes ≡ true
digits_integer [] h = refl
digits_integer (byte ∷ bytes) h = let (p, q) = and_halves (is_ascii_digit byte) (all_ascii_digits bytes) h in and_both _ _ (or_left (is_ascii_digit byte) (byte == underscore) p) (digits_integer bytes q)

are_digits : (bytes : Text) → 0 < length bytes → all_ascii_digits bytes ≡ true → IsDigits bytes
are_digits [] l h = absurd (omega (arith, l))
are_digits (byte ∷ bytes) l h = let (p, q) = and_halves (is_ascii_digit byte) (all_ascii_digits bytes) h in (p, digits_integer bytes q)

small : (n : ℕ) → n ≤ greatest_integer → n < 2 ^ 64
small n h = omega (arith, h)

pub integer_back : (n : ℕ) → n ≤ greatest_integer → number 0 (signed_decimal (pos n)) ≡ n
integer_back n h = digits_value-decimal own n (small n h)

pub integer_good : (n : ℕ) → n ≤ greatest_integer → IsOfKind k.Integer (signed_decimal (pos n))
integer_good n h = (are_digits (decimal n) (decimal_is_IsNumeral n (small n h)).0.0 (digits_decimal own n (small n h)), λ e. subst (λ m. m ≤ greatest_integer) (sym (integer_back n h)) h)
