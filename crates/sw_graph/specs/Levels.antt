-- Levels: how many numbers stand on the longest walk from one, where some are passed through and do not count.
use Rattle.std.specs.Prelude.{◌≡◌, ℕ, zero, suc, ◌<◌, ◌≤◌, ◌||◌, ◌⊎◌, Bool, true, false, List, [], ◌∷◌, length, if◌then◌else◌}
use Rattle.sw_graph.specs.Graphs.{Graph, successors, HasEdge, marked, entry}

-- a step leads to a successor; where that one is passed through, to one of its successors instead
abbrev pub HasStep : Graph → List Bool → ℕ → ℕ → Type 0
HasStep graph passed a b = (HasEdge graph a b × (marked passed b ≡ false)) ⊎ ((c : ℕ) × HasEdge graph a c × (marked passed c ≡ true) × HasEdge graph c b)

-- a walk of so many steps begins at a number, and does not leave the graph
abbrev pub HasWalk : Graph → List Bool → ℕ → ℕ → Type 0
HasWalk graph passed zero a = a < length graph
HasWalk graph passed (suc n) a = (b : ℕ) × HasStep graph passed a b × HasWalk graph passed n b

-- The longest walk from the number has n steps, so that n + 1 numbers stand on it. Level 0 says that a walk has as many steps as
-- there are levels.
abbrev pub IsLevel : Graph → List Bool → ℕ → ℕ → ℕ → Type 0
IsLevel graph passed most a zero = HasWalk graph passed most a
IsLevel graph passed most a (suc n) = (suc n ≤ most) × HasWalk graph passed n a × (HasWalk graph passed (suc n) a → ⊥)

-- the table has the level of each number
pub record AreLevels (graph : Graph) (passed : List Bool) (most : ℕ) (levels : List ℕ) : Type 0 where
  pub each : (a : ℕ) → a < length graph → IsLevel graph passed most a (entry levels a)

-- ---- how they are found: no public clause cites what follows

abbrev pub any_in : (ℕ → Bool) → List ℕ → Bool
any_in s [] = false
any_in s (x ∷ xs) = s x || any_in s xs

-- a step over an edge to this number leads to one of the set
abbrev pub onward : Graph → List Bool → (ℕ → Bool) → ℕ → Bool
onward graph passed s b = if marked passed b then any_in s (successors graph b) else s b

-- the table marks exactly the numbers at which walks of so many steps begin
pub record TellsWalks (graph : Graph) (passed : List Bool) (steps : ℕ) (table : List Bool) : Type 0 where
  pub only : (a : ℕ) → marked table a ≡ true → HasWalk graph passed steps a
  pub all : (a : ℕ) → HasWalk graph passed steps a → marked table a ≡ true

-- a number that has no level yet gets this one where no walk goes on from it
abbrev pub noted : ℕ → Bool → ℕ → ℕ
noted zero true level = 0
noted zero false level = level
noted (suc n) goes_on level = suc n
