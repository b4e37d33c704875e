use Rattle.std.proofs.Common.{◌≡◌, ◌<◌, ℕ, length}
use Rattle.sw_graph.specs.Graphs.{marked, successors}
use Rattle.sw_graph.specs.Levels.{any_in}
use Rattle.sw_graph.proofs.longest.longer.Given as goal

abbrev pub invariant-loop-t : goal.invariant-loop-t
invariant-loop-t l = record {
  counts : length l.next.items ≡ l.t;
  each : (k : ℕ) → k < l.t → marked l.next.items k ≡ any_in (marked l.through.items) (successors l.graph k);
}
