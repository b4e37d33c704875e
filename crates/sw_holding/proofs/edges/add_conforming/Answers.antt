use Rattle.std.proofs.Common.{arith}
use Rattle.sw_holding.proofs.EdgeLemmas.{one_conforming, all_conforming}
use Rattle.sw_holding.proofs.edges.add_conforming.Goals as goal

pub loop-u-preserved : goal.loop-u-preserved
loop-u-preserved c = one_conforming c.args.kinds.now c.args.graph.now.items c.loop-u.graph.items c.add_of_one.new.graph.items c.loop-u.u c.loop-u.invariant c.in_ok-add_of_one.ensures

pub returns : goal.returns
returns c = all_conforming c.args.kinds.now c.args.graph.now.items c.loop-u.graph.items c.loop-u.u (omega arith) c.loop-u.invariant
