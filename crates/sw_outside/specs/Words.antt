-- The words of a command line, and what a call that asks for one of them does.
use Rattle.std.specs.Prelude.{◌≡◌, ℕ, ◌<◌, List, length, take, slice_get, Some, None, Result, Ok, Err}
use Rattle.std.specs.declared.env.FillError.{FillError}
use Rattle.std.specs.declared.env.FillError.TheVariants.{NotPresent, TooLong}

-- the word of this number stands at the start of the buffer; or there is none; or it is longer than the buffer
abbrev pub Fills : List (List ℕ) → ℕ → List ℕ → Result ℕ FillError → Type 0
Fills words number buffer (Ok count) = slice_get words number ≡ Some (take count buffer)
Fills words number buffer (Err NotPresent) = slice_get words number ≡ None
Fills words number buffer (Err TooLong) = (word : List ℕ) × (slice_get words number ≡ Some word) × (length buffer < length word)
