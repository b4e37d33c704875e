-- What contracts see of a sink over a writer, and what a write to it does.
use Rattle.std.specs.Prelude.{◌≡◌, ℕ, ◌<◌, ◌≤◌, List, ◌++◌, length, take, Result, Ok, Err}
use Rattle.sw_outside.specs.Counts.{next_of}

-- the writer, the bytes taken so far, and the number of faults
pub record OutSinkView (Writer : Type 0) : Type 0 where
  pub writer : Writer
  pub taken : List ℕ
  pub faults : ℕ

-- a write with its answer, whatever it makes of the writer
abbrev pub OutputWrites : {Writer E : Type 0} → OutSinkView Writer → List ℕ → OutSinkView Writer → Result ℕ E → Type 0
OutputWrites old bytes new (Ok count) = (0 < count) × (count ≤ length bytes) × (new ≡ record old { writer = new.writer; taken = old.taken ++ take count bytes })
OutputWrites old bytes new (Err error) = new ≡ record old { writer = new.writer; faults = next_of old.faults }
