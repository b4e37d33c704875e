use Rattle.std.proofs.Common.{◌≡◌, ◌++◌, take}
use Rattle.sw_layout.specs.declared.gap.Gap.TheVariants as gap
use Rattle.sw_layout.specs.Words.{words_text}
use Rattle.sw_print.proofs.Lists.{joined}
use Rattle.sw_print.proofs.writing.write_lines.Given as goal

abbrev pub invariant-loop-item : goal.invariant-loop-item
invariant-loop-item g l = l.page ≡ l.initial.page ++ words_text (joined (λ x. g.T.Written.words x gap.Line) (take l.item-index l.items))
