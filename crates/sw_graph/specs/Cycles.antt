-- Walks, and the numbers that stand on a cycle.
use Rattle.std.specs.Prelude.{◌≡◌, ℕ, zero, suc, ◌≤◌, Bool, true, List, length}
use Rattle.sw_graph.specs.Graphs.{Graph, HasEdge, marked, entry}

-- a walk of so many edges leads from a to b
abbrev pub Walk : Graph → ℕ → ℕ → ℕ → Type 0
Walk graph zero a b = a ≡ b
Walk graph (suc n) a b = (c : ℕ) × HasEdge graph a c × Walk graph n c b

-- b is reachable from a along one edge or more
pub record Reaches (graph : Graph) (a b : ℕ) : Type 0 where
  pub edges : ℕ
  pub walk : Walk graph (suc edges) a b

abbrev pub IsOnCycle : Graph → ℕ → Type 0
IsOnCycle graph a = Reaches graph a a

-- the table marks exactly the chosen numbers that stand on a cycle
pub record AreOnCycles (graph : Graph) (chosen table : List Bool) : Type 0 where
  pub length : length table ≡ length graph
  pub only : (a : ℕ) → marked table a ≡ true → (marked chosen a ≡ true) × IsOnCycle graph a
  pub all : (a : ℕ) → marked chosen a ≡ true → IsOnCycle graph a → marked table a ≡ true

-- no successor of a number has a higher rank
pub record NeverRise (graph : Graph) (ranks : List ℕ) : Type 0 where
  pub each : (a b : ℕ) → HasEdge graph a b → entry ranks b ≤ entry ranks a
