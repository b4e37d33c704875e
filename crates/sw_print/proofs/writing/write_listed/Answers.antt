use Rattle.sw_print.proofs.Lists.{others_step, others_end}
use Rattle.sw_print.proofs.writing.write_listed.Goals as goal

pub loop-item-preserved : goal.loop-item-preserved
loop-item-preserved g c =
    others_step g.T.Written.words _ _ _ _ _ _ _ c.loop-item-test.true c.item-item.is c.loop-item.invariant c.in_ok-plain-in-len1-up.ensures c.in_ok-write-in-len1-up-2.ensures

pub returns-after-loop-item : goal.returns-after-loop-item
returns-after-loop-item g c =
    others_end g.T.Written.words _ _ _ _ _ _ c.in-len1-up.len_at_least c.first-item.is c.in_ok-write-in-len1-up.ensures c.loop-item.invariant c.loop-item-test.false
