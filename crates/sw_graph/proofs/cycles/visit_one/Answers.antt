use Rattle.std.proofs.Common.{◌≡◌, ◌<◌, length, false, sym, ◌∙◌, subst, arith, ap}
use Rattle.sw_graph.specs.Graphs.{marked}
use Rattle.sw_graph.specs.Search.{Visited}
use Rattle.sw_graph.proofs.CycleLemmas.{visited_one}
use Rattle.sw_graph.proofs.cycles.visit_one.Goals as goal

pub returns : goal.returns
returns c =
    let within : c.args.u < length c.args.seen.now.table.items = omega arith in
    let unseen : marked c.args.seen.now.table.items c.args.u ≡ false = ap (λ xs. marked xs c.args.u) (sym c.as_slice.ensures.value) ∙ (sym c.is_marked.ensures ∙ c.if-is_marked.false) in
    subst (Visited c.args.ranks.now c.args.rank _ c.args.seen.now.table.items c.args.seen.now.queue.items _) (sym c.in_ok-push.ensures.items) (visited_one c.args.ranks.now c.args.rank c.args.u c.args.seen.now.table.items c.args.seen.now.queue.items within unseen)
