-- The least set that is closed under a rule: a number of which all successors are in it is in it, where the rule allows the number.
use Rattle.std.specs.Prelude.{◌≡◌, ℕ, ◌<◌, ◌&&◌, Bool, true, List, [], ◌∷◌}
use Rattle.sw_graph.specs.Graphs.{Graph, successors, HasEdge, marked}

-- the set has each number that is allowed and of which it has all successors
abbrev pub IsClosed : Graph → List Bool → (ℕ → Bool) → Type 0
IsClosed graph allowed s = (a : ℕ) → marked allowed a ≡ true → ((b : ℕ) → HasEdge graph a b → s b ≡ true) → s a ≡ true

-- what the table marks is in each closed set
pub record IsInEachClosed (graph : Graph) (allowed table : List Bool) : Type 0 where
  pub each : (s : ℕ → Bool) → IsClosed graph allowed s → (a : ℕ) → marked table a ≡ true → s a ≡ true

-- the table marks the least closed set
pub record IsLeast (graph : Graph) (allowed table : List Bool) : Type 0 where
  pub closed : IsClosed graph allowed (marked table)
  pub least : IsInEachClosed graph allowed table

-- ---- how it is found: no public clause cites what follows

abbrev pub all_in : (ℕ → Bool) → List ℕ → Bool
all_in s [] = true
all_in s (x ∷ xs) = s x && all_in s xs

-- below a bound the table marks each number that is allowed and of which it marks all successors
pub record IsClosedBelow (graph : Graph) (allowed table : List Bool) (bound : ℕ) : Type 0 where
  pub each : (a : ℕ) → a < bound → marked allowed a ≡ true → all_in (marked table) (successors graph a) ≡ true → marked table a ≡ true
