use Rattle.std.proofs.Common.{◌∙◌, ap, ◌&&◌, cond, nat_eq}
use Rattle.std.proofs.lemmas.List.{take_all}
use Rattle.std.specs.List.{list_any}
use Rattle.sw_sight.specs.InSight.{same}
use Rattle.sw_sight.specs.Levels.{level}
use Rattle.sw_members.proofs.Kept.{kept_more, known_one}
use Rattle.sw_members.proofs.firsts.keep_firsts.Goals as goal

pub loop-key-preserved : goal.loop-key-preserved
loop-key-preserved c =
    let i = c.loop-key.invariant in
    record {
      keeps = λ x k. c.keep_first.ensures.keeps x (i.keeps x k);
      levels = λ k x. kept_more x c.args.keys.now c.loop-key.key-index c.key-item.result c.as_bytes.result.now c.args.number c.args.firsts.now c.loop-key.firsts c.keep_first.new.firsts c.loop-key-test.true c.key-item.is c.as_bytes.ensures
          (c.keep_first.ensures.levels (i.keeps c.as_bytes.result.now (known_one c.args.keys.now c.loop-key.key-index c.key-item.result c.as_bytes.result.now c.args.firsts.now c.loop-key-test.true c.key-item.is c.as_bytes.ensures k)) x)
          (i.levels k x);
    }

pub returns : goal.returns
returns c k x =
    c.loop-key.invariant.levels k x
    ∙ ap (λ ks. cond (list_any (same x) ks && nat_eq (level x c.args.firsts.now) 0) c.args.number (level x c.args.firsts.now)) (take_all c.loop-key.key-index c.args.keys.now c.loop-key-test.false)
