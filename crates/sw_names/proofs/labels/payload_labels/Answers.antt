use Rattle.std.proofs.Common.{ap, ◌∙◌, ◌++◌, ◌∷◌, []}
use Rattle.sw_declared.specs.Declarations.{label_text}
use Rattle.sw_names.proofs.Lists.{mapped_step, mapped_end}
use Rattle.sw_names.proofs.labels.payload_labels.Goals as goal

pub loop-part-preserved : goal.loop-part-preserved
loop-part-preserved c =
    mapped_step (λ x. label_text x.label) _ _ _ _ _ c.loop-part-test.true c.part-item.is c.loop-part.invariant
    (c.in_ok-push.ensures.ok ∙ ap (λ l. c.loop-part.labels ++ l ∷ []) c.in_ok-label_text.ensures)

pub returns : goal.returns
returns c = mapped_end (λ x. label_text x.label) _ _ _ c.loop-part.invariant c.loop-part-test.false
