use Rattle.std.proofs.Common.{◌≤◌, ℕ, take}
use Rattle.sw_graph.specs.Graphs.{entry}
use Rattle.std.specs.List.{Contains}
use Rattle.sw_graph.proofs.components.all_at_most.Given as goal

abbrev pub invariant-loop-b : goal.invariant-loop-b
invariant-loop-b l = (b : ℕ) → Contains (take l.b-index l.numbers) b → entry l.ranks b ≤ l.most
