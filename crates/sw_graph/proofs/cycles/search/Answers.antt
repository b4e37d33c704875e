use Rattle.std.proofs.Common.{◌∙◌, arith}
use Rattle.sw_graph.proofs.CycleLemmas.{begun_at, stepped_at}
use Rattle.sw_graph.proofs.MarkLemmas.{same_at}
use Rattle.sw_graph.proofs.cycles.search.Goals as goal

pub loop-place-init : goal.loop-place-init
loop-place-init c =
    begun_at c.args.graph.now c.args.ranks.now c.args.from _ _ _ _ _ _ c.entry-rank.ensures c.successors.ensures c.requires.clear c.in_ok-visit.ensures

pub loop-place-preserved : goal.loop-place-preserved
loop-place-preserved c =
    stepped_at c.args.graph.now c.args.ranks.now c.args.from _ _ _ _ c.loop-place.place _ _ _ c.entry-rank.ensures c.successors-in-loop-place.ensures (omega arith) (c.index.ensures ∙ same_at c.loop-place.seen.queue.items c.loop-place.place _ 0 (omega arith)) c.loop-place.invariant c.in_ok-visit-2.ensures
