use Rattle.std.proofs.Common.{◌≡◌, ◌++◌, take}
use Rattle.sw_layout.specs.Words.{words_text}
use Rattle.sw_print.proofs.Lists.{joined, other}
use Rattle.sw_print.proofs.writing.write_listed.Given as goal

abbrev pub invariant-loop-item : goal.invariant-loop-item
invariant-loop-item g l = l.page ≡ l.initial.page ++ words_text (joined (other g.T.Written.words) (take l.item-index l.others))
