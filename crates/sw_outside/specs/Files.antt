-- What contracts see of a loader over files, and what a load of it does.
use Rattle.std.specs.Prelude.{◌≡◌, ℕ, List, [], ◌∷◌, ◌++◌, Result, Ok, Err}
use Rattle.std.specs.declared.io.ErrorKind.{ErrorKind}
use Rattle.std.specs.declared.io.ErrorKind.TheVariants.{OutOfMemory}
use Rattle.sw_outside.specs.declared.outside.LoadError.{LoadError}
use Rattle.sw_outside.specs.declared.outside.LoadError.TheVariants.{Failed, NoMemory}
use Rattle.sw_outside.specs.Counts.{next_of}

-- the greatest length of a file, in bytes
abbrev pub largest : ℕ
largest = 1073741824

-- what opens the files, the names asked, the texts given, each after its name, and the number of faults
pub record FileLoaderView (Opener : Type 0) : Type 0 where
  pub opener : Opener
  pub asked : List (List ℕ)
  pub given : List (List ℕ × List ℕ)
  pub faults : ℕ

-- a load with its answer
abbrev pub FileLoads : {Opener : Type 0} → FileLoaderView Opener → List ℕ → FileLoaderView Opener → Result (List ℕ) LoadError → Type 0
FileLoads old name new (Ok text) = new ≡ record old { asked = old.asked ++ name ∷ []; given = old.given ++ (name, text) ∷ [] }
FileLoads old name new (Err Failed) = new ≡ record old { asked = old.asked ++ name ∷ []; faults = next_of old.faults }
FileLoads old name new (Err NoMemory) = new ≡ old

-- an error of a file is want of memory where it says so, and a failed load otherwise
abbrev pub cause_of : ErrorKind → LoadError
cause_of OutOfMemory = NoMemory
cause_of _ = Failed
