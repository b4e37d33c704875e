use Rattle.std.proofs.Common.{sym, ◌∙◌}
use Rattle.std.proofs.lemmas.Result.{on_ok_weaker}
use Rattle.sw_holding.proofs.EdgeLemmas.{one_protocol, no_protocol_listed, protocol_at}
use Rattle.sw_holding.proofs.edges.add_one.Goals as goal

pub returns-then-not-is_protocol : goal.returns-then-not-is_protocol
returns-then-not-is_protocol c = no_protocol_listed c.args.kinds.now c.args.u c.args.graph.now.items c.args.protocol (sym c.is_protocol.ensures ∙ c.if-not-is_protocol.true)

pub add_edge-requires : goal.add_edge-requires
add_edge-requires c = protocol_at c.args.kinds.now c.args.graph.now.items c.args.protocol.0 c.requires.size (sym c.is_protocol.ensures ∙ c.if-not-is_protocol.false)

pub returns : goal.returns
returns c = on_ok_weaker c.add_edge.result (λ a. one_protocol c.args.kinds.now c.args.u c.args.graph.now.items c.add_edge.new.graph.items c.args.protocol (sym c.is_protocol.ensures ∙ c.if-not-is_protocol.false) a) c.add_edge.ensures
