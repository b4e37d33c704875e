use Rattle.sw_graph.specs.Search.{IsTurned}
use Rattle.sw_graph.proofs.turned.turned.Given as goal

abbrev pub invariant-loop-a : goal.invariant-loop-a
invariant-loop-a l = IsTurned l.graph l.turned.items

abbrev pub invariant-loop-b : goal.invariant-loop-b
invariant-loop-b l = IsTurned l.graph l.turned.items
