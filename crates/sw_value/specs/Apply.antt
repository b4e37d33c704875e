-- What an operator gives for two values: a value or a trap, or nothing where it has no meaning for them.
use Rattle.std.specs.Prelude.{◌≡◌, ◌≢◌, ◌+◌, ℕ, ℤ, ◌+ℤ◌, ◌-ℤ◌, ◌*ℤ◌, pos, negsuc, int_lt, int_le, int_div, int_rem, not, ◌||◌, Bool as Truth, true, false, nat_le, nat_eq, List, ◌++◌, length, Result, Ok, Err, Option, Some, None, if◌then◌else◌}
use Rattle.std.specs.Ordering.{is_lt}
use Rattle.std.specs.Ordering.{nat_cmp}
use Rattle.std.specs.Cmp.Lexicographic.{slice_cmp}
use Rattle.sw_value.specs.declared.value.Value.{Value, out-Value}
use Rattle.sw_value.specs.declared.value.Value.TheVariants.{Int, Bool, Str, List as Array}
use Rattle.sw_value.specs.declared.value.Value.TheOpen.{Value-F}
use Rattle.sw_value.specs.declared.operators.Op.{Op}
use Rattle.sw_value.specs.declared.operators.Op.TheVariants as op
use Rattle.sw_value.specs.declared.operators.TrapKind.{TrapKind}
use Rattle.sw_value.specs.declared.operators.TrapKind.TheVariants.{Overflow, DivideByZero, TooLong}
use Rattle.sw_value.specs.declared.operators.OpError.{OpError}
use Rattle.sw_value.specs.declared.operators.OpError.TheVariants.{Trap, NoMemory}
use Rattle.sw_value.specs.Equal.{same_value}
use Rattle.sw_value.specs.Fits.{is_int, most}

-- a value, or a trap, or nothing
pub data Outcome : Type 0 where
  Gives : Value → Outcome
  Traps : TrapKind → Outcome
  Wrong : Outcome

abbrev pub int_or_trap : ℤ → Outcome
int_or_trap n = if is_int n then Gives (Int n) else Traps Overflow

abbrev pub is_zero : ℤ → Truth
is_zero (pos n) = nat_eq n 0
is_zero (negsuc n) = false

-- `/` and `%` round toward zero. Where the quotient is no `Int`, both trap.
abbrev pub ints : Op → ℤ → ℤ → Outcome
ints op.Mul m n = int_or_trap (m *ℤ n)
ints op.Div m n = if is_zero n then Traps DivideByZero else int_or_trap (int_div m n)
ints op.Rem m n = if is_zero n then Traps DivideByZero else if is_int (int_div m n) then Gives (Int (int_rem m n)) else Traps Overflow
ints op.Add m n = int_or_trap (m +ℤ n)
ints op.Sub m n = int_or_trap (m -ℤ n)
ints op.Lt m n = Gives (Bool (int_lt m n))
ints op.Le m n = Gives (Bool (int_le m n))
ints op.Gt m n = Gives (Bool (int_lt n m))
ints op.Ge m n = Gives (Bool (int_le n m))
ints _ m n = Wrong

abbrev pub bytes_lt : List ℕ → List ℕ → Truth
bytes_lt s t = is_lt (slice_cmp nat_cmp s t)

-- strings are compared by their bytes
abbrev pub texts : Op → List ℕ → List ℕ → Outcome
texts op.Add s t = if nat_le (length s + length t) most then Gives (Str (s ++ t)) else Traps TooLong
texts op.Lt s t = Gives (Bool (bytes_lt s t))
texts op.Le s t = Gives (Bool (not (bytes_lt t s)))
texts op.Gt s t = Gives (Bool (bytes_lt t s))
texts op.Ge s t = Gives (Bool (not (bytes_lt s t)))
texts _ s t = Wrong

abbrev pub arrays : Op → List Value → List Value → Outcome
arrays op.Add xs ys = if nat_le (length xs + length ys) most then Gives (Array (xs ++ ys)) else Traps TooLong
arrays _ xs ys = Wrong

-- an operator other than `==` and `!=` has a meaning for two integers, two strings or two arrays
abbrev pub ordered : Op → Value-F Value → Value-F Value → Outcome
ordered o (Value-F.Int m) (Value-F.Int n) = ints o m n
ordered o (Value-F.Str s) (Value-F.Str t) = texts o s t
ordered o (Value-F.List xs) (Value-F.List ys) = arrays o xs ys
ordered o _ _ = Wrong

abbrev pub applied : Op → Value → Value → Outcome
applied op.Eq a b = Gives (Bool (same_value a b))
applied op.Ne a b = Gives (Bool (not (same_value a b)))
applied o a b = ordered o (out-Value a) (out-Value b)

-- the operator has a meaning for the values
abbrev pub HasMeaning : Op → Value → Value → Type 0
HasMeaning o a b = applied o a b ≢ Wrong

-- ---- the same, as a test of the operator and the forms of the values

abbrev pub is_equality : Op → Truth
is_equality op.Eq = true
is_equality op.Ne = true
is_equality _ = false

abbrev pub is_of_texts : Op → Truth
is_of_texts op.Mul = false
is_of_texts op.Div = false
is_of_texts op.Rem = false
is_of_texts op.Sub = false
is_of_texts _ = true

abbrev pub is_sum : Op → Truth
is_sum op.Add = true
is_sum _ = false

abbrev pub joins : Op → Value-F Value → Value-F Value → Truth
joins o (Value-F.Int m) (Value-F.Int n) = true
joins o (Value-F.Str s) (Value-F.Str t) = is_of_texts o
joins o (Value-F.List xs) (Value-F.List ys) = is_sum o
joins o _ _ = false

abbrev pub means : Op → Value → Value → Truth
means o a b = is_equality o || joins o (out-Value a) (out-Value b)

-- an answer is the outcome; want of memory says nothing
abbrev pub Answers : Result Value OpError → Outcome → Type 0
Answers (Ok v) outcome = outcome ≡ Gives v
Answers (Err (Trap kind)) outcome = outcome ≡ Traps kind
Answers (Err NoMemory) outcome = Unit {0}

-- the value where there is one, else the trap
abbrev pub IsIntOrTrap : Option ℤ → Result Value OpError → Type 0
IsIntOrTrap None r = r ≡ Err (Trap Overflow)
IsIntOrTrap (Some n) r = r ≡ Ok (Int n)
