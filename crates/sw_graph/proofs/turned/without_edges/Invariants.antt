use Rattle.std.proofs.Common.{◌≤◌, ◌-◌, length}
use Rattle.sw_graph.specs.Search.{IsEmpty}
use Rattle.sw_graph.proofs.turned.without_edges.Given as goal

abbrev pub invariant-loop-alloc : goal.invariant-loop-alloc
invariant-loop-alloc l = record {
  within : length l.graph.items ≤ l.count;
  empty : IsEmpty (length l.graph.items) l.graph.items;
}

abbrev pub decreases-loop-alloc : goal.decreases-loop-alloc
decreases-loop-alloc l = l.count - length l.graph.items
