use Rattle.std.proofs.Common.{◌∙◌, ◌||◌, ap, nat_lt, refl}
use Rattle.std.proofs.lemmas.List.{take_all}
use Rattle.std.specs.List.{list_any}
use Rattle.sw_sight.specs.Levels.{level}
use Rattle.sw_declared.specs.Facts.{tells}
use Rattle.sw_declared.proofs.Kept.{raised_more, known_one, raised_none}
use Rattle.sw_declared.proofs.told.raise_facts.Goals as goal

pub loop-fact-init : goal.loop-fact-init
loop-fact-init c = record {
  keeps = λ x k. k;
  told = λ k x n. raised_none x n c.args.told.now;
}

pub loop-fact-preserved : goal.loop-fact-preserved
loop-fact-preserved c =
    let i = c.loop-fact.invariant in
    record {
      keeps = λ x k. c.raise.ensures.keeps x (i.keeps x k);
      told = λ k x n. raised_more x n c.args.facts.now c.loop-fact.fact-index c.fact-item.result c.as_bytes.result.now c.fact-item.result.rank c.args.told.now c.loop-fact.told c.raise.new.levels c.loop-fact-test.true c.fact-item.is c.as_bytes.ensures refl
          (c.raise.ensures.levels (λ _. i.keeps c.as_bytes.result.now (known_one c.args.facts.now c.loop-fact.fact-index c.fact-item.result c.as_bytes.result.now c.args.told.now c.loop-fact-test.true c.fact-item.is c.as_bytes.ensures k)) x n)
          (i.told k x n);
    }

pub returns : goal.returns
returns c k x n =
    c.loop-fact.invariant.told k x n
    ∙ ap (λ fs. nat_lt n (level x c.args.told.now) || list_any (tells x n) fs) (take_all c.loop-fact.fact-index c.args.facts.now c.loop-fact-test.false)
