use Rattle.std.proofs.Common.{◌∙◌}
use Rattle.sw_members.proofs.Kept.{known_more}
use Rattle.sw_members.proofs.firsts.prepare.Goals as goal

pub loop-key-preserved : goal.loop-key-preserved
loop-key-preserved c = record {
  known = known_more c.args.keys.now c.loop-key.key-index c.key-item.result c.as_bytes.result.now c.loop-key.firsts c.add.new.self c.loop-key-test.true c.key-item.is c.as_bytes.ensures c.in_ok-add.ensures.known c.add.ensures.keeps
      c.loop-key.invariant.known;
  levels = λ x. c.add.ensures.levels x ∙ c.loop-key.invariant.levels x;
}
