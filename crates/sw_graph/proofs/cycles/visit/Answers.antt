use Rattle.std.proofs.Common.{◌≡◌, ◌+◌, ◌++◌, [], ◌∷◌, get_or, take, sym, subst, arith}
use Rattle.std.proofs.lemmas.List.{take_more}
use Rattle.sw_graph.specs.Search.{Visited}
use Rattle.sw_graph.proofs.CycleLemmas.{visited_join}
use Rattle.sw_graph.proofs.cycles.visit.Goals as goal

pub loop-u-preserved : goal.loop-u-preserved
loop-u-preserved c =
    let more : take (c.loop-u.u-index + 1) c.args.numbers.now ≡ take c.loop-u.u-index c.args.numbers.now ++ get_or c.args.numbers.now c.loop-u.u-index 0 ∷ [] = take_more c.args.numbers.now c.loop-u.u-index 0 (omega arith) in
    subst (λ xs. Visited c.args.ranks.now c.args.rank xs c.args.seen.now.table.items c.args.seen.now.queue.items c.visit_one.new.seen.table.items c.visit_one.new.seen.queue.items) (sym more) (visited_join _ _ _ _ _ _ _ _ _ _ c.loop-u.invariant c.in_ok-visit_one.ensures)
