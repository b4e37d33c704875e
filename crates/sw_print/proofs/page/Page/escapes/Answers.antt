use Rattle.sw_layout.specs.Words.{escape, escapes}
use Rattle.sw_print.proofs.TextLemmas.{grown, escapes_push}
use Rattle.sw_print.proofs.page.Page.escapes.Goals as goal

pub loop-byte-preserved : goal.loop-byte-preserved
loop-byte-preserved c = grown escapes escape escapes_push _ _ _ _ _ 0 c.loop-byte-test.true c.loop-byte.invariant c.in_ok-escape.ensures
