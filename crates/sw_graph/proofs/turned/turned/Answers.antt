use Rattle.std.specs.Prelude.{unwrap_or, []}
use Rattle.std.proofs.Common.{◌≡◌, sym, ap, ◌∙◌, arith}
use Rattle.std.proofs.lemmas.Option.{slice_get-get_or}
use Rattle.sw_graph.specs.Graphs.{successors}
use Rattle.sw_graph.proofs.TurnLemmas.{empty_turned, turned_more}
use Rattle.sw_graph.proofs.turned.turned.Goals as goal

pub loop-a-init : goal.loop-a-init
loop-a-init c = empty_turned c.args.graph.now c.in_ok-turned.turned.items c.in_ok-turned.ensures

pub loop-b-preserved : goal.loop-b-preserved
loop-b-preserved c =
    let there : successors c.args.graph.now c.loop-a.a ≡ c.as_slice-b-items.result.now = ap (λ o. unwrap_or o []) (slice_get-get_or c.args.graph.now c.loop-a.a c.index-graph-a.result (omega arith)) ∙ (sym c.index-graph-a.is ∙ sym c.as_slice-b-items.ensures) in
    turned_more c.args.graph.now c.loop-b.turned.items c.add_edge.new.graph.items c.as_slice-b-items.result.now c.loop-a.a c.in-Ok.number c.loop-b.b-index c.in-Ok.ensures.1 there (omega arith) c.loop-b.invariant c.in_ok-add_edge.ensures
