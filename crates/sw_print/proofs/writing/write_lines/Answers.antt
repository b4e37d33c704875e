use Rattle.std.proofs.Common.{ap, ◌∙◌, ◌++◌}
use Rattle.sw_layout.specs.declared.gap.Gap.TheVariants as gap
use Rattle.sw_layout.specs.Words.{words_text}
use Rattle.sw_print.proofs.Lists.{joined_step, joined_end, lines_joined}
use Rattle.sw_print.proofs.writing.write_lines.Goals as goal

pub loop-item-preserved : goal.loop-item-preserved
loop-item-preserved g c = joined_step (λ x. g.T.Written.words x gap.Line) _ _ _ _ _ _ c.loop-item-test.true c.item-item.is c.loop-item.invariant c.in_ok-write.ensures

pub returns : goal.returns
returns g c =
    joined_end (λ x. g.T.Written.words x gap.Line) _ _ _ _ c.loop-item.invariant c.loop-item-test.false
    ∙ ap (λ l. c.args.page.now ++ words_text l) (lines_joined g.T.Written.words c.args.items.now)
