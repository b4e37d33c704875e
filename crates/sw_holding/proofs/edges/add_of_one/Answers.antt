use Rattle.std.proofs.Common.{sym, ◌∙◌, ap, Some}
use Rattle.std.proofs.lemmas.Option.{slice_get-get_or}
use Rattle.sw_holding.proofs.EdgeLemmas.{one_type, no_type}
use Rattle.sw_holding.proofs.edges.add_of_one.Goals as goal

pub returns-in_ok-add_each : goal.returns-in_ok-add_each
returns-in_ok-add_each c = one_type c.args.kinds.now c.args.u c.args.graph.now.items c.add_each.new.graph.items c.in-Ok.number c.index-kinds-u.result c.as_slice.result.now c.in-Ok.ensures.1
    (slice_get-get_or c.args.kinds.now c.args.u c.index-kinds-u.result c.requires.within ∙ ap Some (sym c.index-kinds-u.is))
    (sym c.has_parts.ensures ∙ c.if-has_parts.true) c.as_slice.ensures c.in_ok-add_each.ensures

pub returns-else-has_parts : goal.returns-else-has_parts
returns-else-has_parts c = no_type c.args.kinds.now c.args.u c.args.graph.now.items c.index-kinds-u.result
    (slice_get-get_or c.args.kinds.now c.args.u c.index-kinds-u.result c.requires.within ∙ ap Some (sym c.index-kinds-u.is))
    (sym c.has_parts.ensures ∙ c.if-has_parts.false)
