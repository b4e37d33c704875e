-- What a call of a loader or a sink leaves, and when it may fail.
use Rattle.std.specs.Prelude.{◌≡◌, ℕ, ◌+◌, ◌-◌, ◌^◌, ◌≤◌, min, List, [], ◌∷◌, ◌++◌, take, Result, Ok, Err}
use Rattle.sw_outside.specs.declared.outside.LoadError.{LoadError}
use Rattle.sw_outside.specs.declared.outside.LoadError.TheVariants.{Failed, NoMemory}

-- a count of 64 bits is greater than before, or stands at its greatest value
abbrev pub Rose : ℕ → ℕ → Type 0
Rose before now = min (before + 1) (2 ^ 64 - 1) ≤ now

-- the name is added to those asked, unless memory was refused
abbrev pub Asks : {T : Type 0} → List (List ℕ) → List ℕ → List (List ℕ) → Result T LoadError → Type 0
Asks old name new (Ok text) = new ≡ old ++ name ∷ []
Asks old name new (Err Failed) = new ≡ old ++ name ∷ []
Asks old name new (Err NoMemory) = new ≡ old

-- the text of a load is added after its name to those given, and a load that fails adds none
abbrev pub Gives : List (List ℕ × List ℕ) → List ℕ → List (List ℕ × List ℕ) → Result (List ℕ) LoadError → Type 0
Gives old name new (Ok text) = new ≡ old ++ (name, text) ∷ []
Gives old name new (Err error) = new ≡ old

-- a load fails only where the count of faults rose, and leaves the count as it was where it gives a text or wants memory
abbrev pub LoadCause : {T : Type 0} → ℕ → ℕ → Result T LoadError → Type 0
LoadCause before now (Ok text) = now ≡ before
LoadCause before now (Err Failed) = (before ≤ now) × Rose before now
LoadCause before now (Err NoMemory) = now ≡ before

-- a write fails only where the count of faults rose, and leaves the count as it was where it does not fail
abbrev pub WriteCause : {T E : Type 0} → ℕ → ℕ → Result T E → Type 0
WriteCause before now (Ok count) = now ≡ before
WriteCause before now (Err error) = (before ≤ now) × Rose before now

-- what a sink has taken after a write of these bytes: as many from the start as the write says
abbrev pub after_write : {E : Type 0} → List ℕ → List ℕ → Result ℕ E → List ℕ
after_write taken bytes (Ok count) = taken ++ take count bytes
after_write taken bytes (Err error) = taken
