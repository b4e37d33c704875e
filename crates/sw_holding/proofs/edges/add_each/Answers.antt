use Rattle.std.proofs.Common.{take, arith}
use Rattle.std.proofs.lemmas.List.{take_more}
use Rattle.sw_holding.proofs.EdgeLemmas.{each_more, each_all}
use Rattle.sw_holding.proofs.edges.add_each.Goals as goal

pub loop-p-preserved : goal.loop-p-preserved
loop-p-preserved c = each_more c.args.kinds.now c.args.u c.args.graph.now.items c.loop-p.graph.items c.add_one.new.graph.items (take c.loop-p.p-index c.args.protocols.now) _ _ (take_more c.args.protocols.now c.loop-p.p-index _ (omega arith)) c.loop-p.invariant c.in_ok-add_one.ensures

pub returns : goal.returns
returns c = each_all c.args.kinds.now c.args.u c.args.graph.now.items c.loop-p.graph.items c.args.protocols.now c.loop-p.p-index (omega arith) c.loop-p.invariant
