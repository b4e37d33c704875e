use Rattle.std.proofs.Common.{ℕ, ◌<◌, ◌≤◌}
use Rattle.sw_graph.specs.Graphs.{entry}
use Rattle.sw_graph.specs.Graphs.{HasEdge}
use Rattle.sw_graph.proofs.components.never_rise.Given as goal

abbrev pub invariant-loop-a : goal.invariant-loop-a
invariant-loop-a l = (a b : ℕ) → a < l.a → HasEdge l.graph a b → entry l.ranks b ≤ entry l.ranks a
