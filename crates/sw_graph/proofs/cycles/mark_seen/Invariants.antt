use Rattle.std.proofs.Common.{◌≡◌, true}
use Rattle.sw_graph.specs.Graphs.{marked}
use Rattle.sw_graph.specs.Search.{Has, Marks}
use Rattle.sw_graph.proofs.cycles.mark_seen.Given as goal

abbrev pub invariant-loop-u : goal.invariant-loop-u
invariant-loop-u l = Marks (λ u. Has l.numbers u × (marked l.chosen u ≡ true) × (marked l.seen u ≡ true)) l.fn.table.items l.table.items
