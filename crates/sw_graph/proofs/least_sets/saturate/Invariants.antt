use Rattle.std.proofs.Common.{◌≡◌, length}
use Rattle.std.specs.List.{count_by}
use Rattle.std.specs.Prelude.{not}
use Rattle.sw_graph.specs.Least.{IsInEachClosed}
use Rattle.sw_graph.proofs.least_sets.saturate.Given as goal

abbrev pub invariant-loop-t : goal.invariant-loop-t
invariant-loop-t l = record {
  counts : length l.table ≡ length l.graph;
  sound : IsInEachClosed l.graph l.allowed l.table;
}

abbrev pub invariant-loop : goal.invariant-loop
invariant-loop l = record {
  counts : length l.table ≡ length l.graph;
  sound : IsInEachClosed l.graph l.allowed l.table;
}

abbrev pub decreases-loop : goal.decreases-loop
decreases-loop l = count_by not l.table
