-- What the meaning of trees and the meaning of code share: values, what an operator gives of them, and the text that is
-- printed of one. Both cite this file, so no proof between the two would see a mistake in it.
use Rattle.std.specs.Fmt.{signed_decimal}
use Rattle.std.specs.Prelude.{ℕ, ◌+◌, ℤ, ◌+ℤ◌, pos, negsuc, int_lt, not, ◌&&◌, List, Option, Some, None, Bool, if◌then◌else◌}
use Rattle.sw_base.specs.Limits.{greatest_integer}
use Rattle.sw_job.specs.declared.value.Value.{Value}
use Rattle.sw_job.specs.declared.value.Value.TheVariants.{Int, Str, Void}
use Rattle.sw_job.specs.declared.value.TrapKind.{TrapKind}
use Rattle.sw_job.specs.declared.value.TrapKind.TheVariants.{Overflow}

-- the text of a value that can be printed
abbrev pub printed : Value → Option (List ℕ)
printed (Int n) = Some (signed_decimal n)
printed (Str text) = Some text
printed Void = None

-- what an operator gives: a value, or a trap, or nothing where it has no meaning for these values
pub data Outcome : Type 0 where
  Gives : Value → Outcome
  Traps : TrapKind → Outcome
  Wrong : Outcome

-- whether a number is an `Int` of 64 bits
abbrev pub is_int : ℤ → Bool
is_int n = not (int_lt n (negsuc greatest_integer)) && int_lt n (pos (greatest_integer + 1))

abbrev pub sum_of : Value → Value → Outcome
sum_of (Int a) (Int b) = if is_int (a +ℤ b) then Gives (Int (a +ℤ b)) else Traps Overflow
sum_of _ _ = Wrong
