use Rattle.std.proofs.Common.{length}
use Rattle.sw_graph.specs.Search.{IsClear, AreBelow}
use Rattle.sw_graph.proofs.cycles.on_cycles.Given as goal

abbrev pub invariant-loop-t : goal.invariant-loop-t
invariant-loop-t l = record {
  table : AreBelow l.graph l.chosen l.found.table.items l.t;
  ahead : IsClear (length l.graph) l.found.ahead.table.items l.found.ahead.queue.items;
  back : IsClear (length l.graph) l.found.back.table.items l.found.back.queue.items;
}
