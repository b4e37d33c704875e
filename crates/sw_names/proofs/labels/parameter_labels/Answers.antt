use Rattle.std.proofs.Common.{ap, ◌∙◌, ◌++◌, ◌∷◌, []}
use Rattle.sw_declared.specs.Declarations.{parameter_label}
use Rattle.sw_names.proofs.Lists.{mapped_step, mapped_end}
use Rattle.sw_names.proofs.labels.parameter_labels.Goals as goal

pub loop-parameter-preserved : goal.loop-parameter-preserved
loop-parameter-preserved c =
    mapped_step (λ x. parameter_label x x.label) _ _ _ _ _ c.loop-parameter-test.true c.parameter-item.is c.loop-parameter.invariant
    (c.in_ok-push.ensures.ok ∙ ap (λ l. c.loop-parameter.labels ++ l ∷ []) c.in_ok-parameter_label.ensures)

pub returns : goal.returns
returns c = mapped_end (λ x. parameter_label x x.label) _ _ _ c.loop-parameter.invariant c.loop-parameter-test.false
