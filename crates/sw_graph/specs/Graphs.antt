-- Graphs, and tables that have something for each number.
use Rattle.std.specs.Prelude.{ℕ, Bool, false, List, [], slice_get, unwrap_or}
use Rattle.std.specs.List.{Contains}

-- the successors of each number, from 0 on
abbrev pub Graph : Type 0
Graph = List (List ℕ)

-- a number past the end has none
abbrev pub successors : Graph → ℕ → List ℕ
successors graph a = unwrap_or (slice_get graph a) []

-- b is a successor of a
abbrev pub HasEdge : Graph → ℕ → ℕ → Type 0
HasEdge graph a b = Contains (successors graph a) b

-- whether a table marks a number: none past its end
abbrev pub marked : List Bool → ℕ → Bool
marked table a = unwrap_or (slice_get table a) false

-- the entry of a table for a number: 0 past its end
abbrev pub entry : List ℕ → ℕ → ℕ
entry table a = unwrap_or (slice_get table a) 0
