use Rattle.std.proofs.Common.{◌≡◌, ◌<◌, ◌≤◌, length, true, false}
use Rattle.std.specs.List.{count_by}
use Rattle.std.specs.Prelude.{not}
use Rattle.sw_graph.specs.Least.{IsInEachClosed, IsClosedBelow}
use Rattle.sw_graph.proofs.least_sets.sweep.Given as goal

abbrev pub invariant-loop-t : goal.invariant-loop-t
invariant-loop-t l = record {
  counts : length l.table ≡ length l.fn.table;
  sound : IsInEachClosed l.graph l.allowed l.fn.table → IsInEachClosed l.graph l.allowed l.table;
  fewer : count_by not l.table ≤ count_by not l.fn.table;
  more : l.added ≡ true → count_by not l.table < count_by not l.fn.table;
  done : l.added ≡ false → IsClosedBelow l.graph l.allowed l.table l.t;
}
