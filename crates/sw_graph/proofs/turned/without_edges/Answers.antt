use Rattle.std.proofs.Common.{arith}
use Rattle.sw_graph.proofs.TurnLemmas.{empty_more}
use Rattle.sw_graph.proofs.turned.without_edges.Goals as goal

pub loop-alloc-preserved : goal.loop-alloc-preserved
loop-alloc-preserved c = record {
  within = omega (arith, c.in_ok-push.ensures.len);
  empty = empty_more c.loop-alloc.graph.items c.push.new.self.items c.new.result c.new.ensures c.in_ok-push.ensures.items c.loop-alloc.invariant.empty;
}
