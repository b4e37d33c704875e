-- What contracts see of a loader over memory, and what a load of it does.
use Rattle.std.specs.Prelude.{◌≡◌, ℕ, List, [], ◌∷◌, ◌++◌, nat_eq, if◌then◌else◌, Option, Some, None, Result, Ok, Err, find}
use Rattle.std.specs.Cmp.Lexicographic.{pointwise}
use Rattle.std.specs.Option.{option_map}
use Rattle.sw_outside.specs.declared.outside.LoadError.{LoadError}
use Rattle.sw_outside.specs.declared.outside.LoadError.TheVariants.{Failed, NoMemory}
use Rattle.sw_outside.specs.Counts.{is_in, next_of}

-- the named texts, the names asked, the texts given, each after its name, the numbers of the calls that are to fail, and
-- the numbers of calls and of faults so far
pub record MemLoaderView : Type 0 where
  pub held : List (List ℕ × List ℕ)
  pub asked : List (List ℕ)
  pub given : List (List ℕ × List ℕ)
  pub failing : List ℕ
  pub calls : ℕ
  pub faults : ℕ

-- the first text of that name
abbrev pub held_at : List (List ℕ × List ℕ) → List ℕ → Option (List ℕ)
held_at held name = option_map (λ entry. entry.1) (find (λ entry. pointwise nat_eq entry.0 name) held)

-- what the next load of a name gives; none where it fails
abbrev pub given_at : MemLoaderView → List ℕ → Option (List ℕ)
given_at loader name = if is_in (next_of loader.calls) loader.failing then None else held_at loader.held name

-- a load with its answer
abbrev pub Loads : MemLoaderView → List ℕ → MemLoaderView → Result (List ℕ) LoadError → Type 0
Loads old name new (Ok text) = (given_at old name ≡ Some text) × (new ≡ record old { asked = old.asked ++ name ∷ []; given = old.given ++ (name, text) ∷ []; calls = next_of old.calls })
Loads old name new (Err Failed) = (given_at old name ≡ None) × (new ≡ record old { asked = old.asked ++ name ∷ []; calls = next_of old.calls; faults = next_of old.faults })
Loads old name new (Err NoMemory) = new ≡ old
