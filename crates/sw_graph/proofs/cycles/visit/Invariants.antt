use Rattle.std.proofs.Common.{take}
use Rattle.sw_graph.specs.Search.{Visited}
use Rattle.sw_graph.proofs.cycles.visit.Given as goal

abbrev pub invariant-loop-u : goal.invariant-loop-u
invariant-loop-u l = Visited l.ranks l.rank (take l.u-index l.numbers) l.fn.seen.table.items l.fn.seen.queue.items l.seen.table.items l.seen.queue.items
