-- What contracts see of a sink in memory, and what a write to it does.
use Rattle.std.specs.Prelude.{◌≡◌, ◌≢◌, ℕ, ◌-◌, min, List, ◌++◌, Bool, true, ◌||◌, nat_eq, length, take, Result, Ok, Err}
use Rattle.sw_outside.specs.Counts.{is_in, next_of}

-- the room in bytes, the bytes taken, the numbers of the calls that are to fail, and the numbers of calls and of faults so far
pub record MemSinkView : Type 0 where
  pub room : ℕ
  pub taken : List ℕ
  pub failing : List ℕ
  pub calls : ℕ
  pub faults : ℕ

-- the next write fails
abbrev pub is_failing : MemSinkView → Bool
is_failing sink = is_in (next_of sink.calls) sink.failing || nat_eq (sink.room - length sink.taken) 0

-- a write with its answer
abbrev pub Writes : {E : Type 0} → MemSinkView → List ℕ → MemSinkView → Result ℕ E → Type 0
Writes old bytes new (Ok count) = (is_failing old ≢ true) × (count ≡ min (length bytes) (old.room - length old.taken)) × (new ≡ record old { taken = old.taken ++ take count bytes; calls = next_of old.calls })
Writes old bytes new (Err error) = (is_failing old ≡ true) × (new ≡ record old { calls = next_of old.calls; faults = next_of old.faults })
