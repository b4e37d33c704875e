-- How the search for cycles goes on. No public clause cites this module.
use Rattle.std.specs.Prelude.{◌≡◌, ℕ, ◌+◌, ◌<◌, ◌≤◌, not, ◌⊎◌, Bool, true, false, List, [], ◌∷◌, ◌++◌, length, drop}
use Rattle.std.specs.List.{count_by}
use Rattle.sw_graph.specs.Graphs.{Graph, HasEdge, marked, entry}
use Rattle.sw_graph.specs.Cycles.{Reaches, IsOnCycle}

-- std's `Contains`, by recursion
abbrev pub Has : List ℕ → ℕ → Type 0
Has [] u = ⊥
Has (x ∷ xs) u = (u ≡ x) ⊎ Has xs u

-- nothing is seen, of so many numbers, and nothing is queued
pub record IsClear (count : ℕ) (seen : List Bool) (queue : List ℕ) : Type 0 where
  pub size : length seen ≡ count
  pub none : (u : ℕ) → marked seen u ≡ false
  pub empty : queue ≡ []

-- each number that is seen stands in the queue
pub record IsQueued (seen : List Bool) (queue : List ℕ) : Type 0 where
  pub each : (u : ℕ) → marked seen u ≡ true → Has queue u

-- these numbers were looked at: those of this rank that were not seen before are seen now, and stand in the queue
pub record Visited (ranks : List ℕ) (rank : ℕ) (numbers : List ℕ) (seen : List Bool) (queue : List ℕ) (seen' : List Bool) (queue' : List ℕ) : Type 0 where
  pub size : length seen' ≡ length seen
  pub sum : count_by not seen' + length queue' ≡ count_by not seen + length queue
  pub more : List ℕ
  pub grown : queue' ≡ queue ++ more
  pub kept : (u : ℕ) → marked seen u ≡ true → marked seen' u ≡ true
  pub found : (u : ℕ) → marked seen' u ≡ true → (marked seen u ≡ true) ⊎ (Has numbers u × Has more u)
  pub marks : (u : ℕ) → Has more u → marked seen' u ≡ true
  pub all : (u : ℕ) → Has numbers u → entry ranks u ≡ rank → u < length seen' → marked seen' u ≡ true

-- the successors of a number that have this rank are seen
pub record IsSpent (graph : Graph) (ranks : List ℕ) (rank : ℕ) (seen : List Bool) (u : ℕ) : Type 0 where
  pub each : (v : ℕ) → HasEdge graph u v → entry ranks v ≡ rank → v < length seen → marked seen v ≡ true

-- the search from a number, where the queue was looked at up to a place
pub record Searched (graph : Graph) (ranks : List ℕ) (from : ℕ) (seen : List Bool) (queue : List ℕ) (place : ℕ) : Type 0 where
  pub size : length seen ≡ length graph
  pub sum : count_by not seen + length queue ≡ length graph
  pub within : place ≤ length queue
  pub reached : (u : ℕ) → marked seen u ≡ true → Reaches graph from u
  pub marks : (u : ℕ) → Has queue u → marked seen u ≡ true
  pub queued : (u : ℕ) → marked seen u ≡ true → Has queue u
  pub begun : IsSpent graph ranks (entry ranks from) seen from
  pub spent : (u : ℕ) → marked seen u ≡ true → IsSpent graph ranks (entry ranks from) seen u ⊎ Has (drop place queue) u

-- ---- what is found

-- the edges of the second graph are edges of the first, turned round
pub record IsTurned (graph turned : Graph) : Type 0 where
  pub size : length turned ≡ length graph
  pub only : (a b : ℕ) → HasEdge turned b a → HasEdge graph a b

-- a graph of so many numbers without edges
pub record IsEmpty (count : ℕ) (graph : Graph) : Type 0 where
  pub size : length graph ≡ count
  pub none : (a b : ℕ) → HasEdge graph a b → ⊥

-- at most this edge was added
pub record AddsEdge (a b : ℕ) (old new : Graph) : Type 0 where
  pub size : length new ≡ length old
  pub only : (x y : ℕ) → HasEdge new x y → HasEdge old x y ⊎ ((x ≡ a) × (y ≡ b))

-- numbers were marked, but none of which this does not hold
pub record Marks (R : ℕ → Type 0) (table table' : List Bool) : Type 0 where
  pub size : length table' ≡ length table
  pub only : (u : ℕ) → marked table' u ≡ true → (marked table u ≡ true) ⊎ R u
  pub kept : (u : ℕ) → marked table u ≡ true → marked table' u ≡ true

-- a number that was chosen, was seen from t, and leads to t or is t
abbrev pub IsBoth : Graph → List Bool → List Bool → ℕ → ℕ → Type 0
IsBoth turned chosen seen t u = (marked chosen u ≡ true) × (marked seen u ≡ true) × ((u ≡ t) ⊎ Reaches turned t u)

-- the table is right of the numbers below a bound, and marks no number wrongly
pub record AreBelow (graph : Graph) (chosen table : List Bool) (bound : ℕ) : Type 0 where
  pub size : length table ≡ length graph
  pub only : (a : ℕ) → marked table a ≡ true → (marked chosen a ≡ true) × IsOnCycle graph a
  pub all : (a : ℕ) → a < bound → marked chosen a ≡ true → IsOnCycle graph a → marked table a ≡ true
