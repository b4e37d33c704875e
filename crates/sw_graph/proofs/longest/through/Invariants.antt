use Rattle.std.proofs.Common.{◌≡◌, ◌<◌, ℕ, length}
use Rattle.sw_graph.specs.Graphs.{marked}
use Rattle.sw_graph.specs.Levels.{onward}
use Rattle.sw_graph.proofs.longest.through.Given as goal

abbrev pub invariant-loop-u : goal.invariant-loop-u
invariant-loop-u l = record {
  counts : length l.through.items ≡ l.u;
  each : (k : ℕ) → k < l.u → marked l.through.items k ≡ onward l.graph l.passed (marked l.table) k;
}
