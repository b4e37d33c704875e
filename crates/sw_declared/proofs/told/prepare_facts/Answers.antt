use Rattle.std.proofs.Common.{◌∙◌}
use Rattle.sw_declared.proofs.Kept.{known_more}
use Rattle.sw_declared.proofs.told.prepare_facts.Goals as goal

pub loop-fact-preserved : goal.loop-fact-preserved
loop-fact-preserved c = record {
  known = known_more c.args.facts.now c.loop-fact.fact-index c.fact-item.result c.as_bytes.result.now c.loop-fact.told c.add.new.self c.loop-fact-test.true c.fact-item.is c.as_bytes.ensures c.in_ok-add.ensures.known c.add.ensures.keeps
      c.loop-fact.invariant.known;
  levels = λ x. c.add.ensures.levels x ∙ c.loop-fact.invariant.levels x;
}
