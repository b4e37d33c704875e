use Rattle.std.proofs.Common.{length, ◌-◌}
use Rattle.sw_graph.specs.Search.{Searched}
use Rattle.sw_graph.proofs.cycles.search.Given as goal

abbrev pub invariant-loop-place : goal.invariant-loop-place
invariant-loop-place l = Searched l.graph l.ranks l.from l.seen.table.items l.seen.queue.items l.place

abbrev pub decreases-loop-place : goal.decreases-loop-place
decreases-loop-place l = length l.graph - l.place
