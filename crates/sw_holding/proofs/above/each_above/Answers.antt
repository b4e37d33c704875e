use Rattle.std.proofs.Common.{false, arith}
use Rattle.sw_holding.proofs.Lists.{table_push, table_whole}
use Rattle.sw_holding.proofs.AboveLemmas.{test, test_past, are_above}
use Rattle.sw_holding.proofs.above.each_above.Goals as goal

pub loop-t-preserved : goal.loop-t-preserved
loop-t-preserved c = record {
  count = omega (arith, c.in_ok-push.ensures.len, c.loop-t.invariant.count);
  below = table_push false (test c.args.kinds.now c.args.levels.now c.args.bounded.now) c.loop-t.table.items c.push.new.self.items c.is_above.result c.loop-t.t c.in_ok-push.ensures.items c.loop-t.invariant.count c.is_above.ensures c.loop-t.invariant.below;
}

pub returns : goal.returns
returns c =
    are_above c.args.kinds.now c.args.levels.now c.args.bounded.now c.loop-t.table.items c.requires.levels c.requires.bounded (omega (arith, c.loop-t.invariant.count))
    (table_whole false (test c.args.kinds.now c.args.levels.now c.args.bounded.now) c.loop-t.table.items c.loop-t.t c.loop-t.invariant.count (λ k h. test_past c.args.kinds.now c.args.levels.now c.args.bounded.now k (omega arith)) c.loop-t.invariant.below)
