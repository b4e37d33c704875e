use Rattle.std.proofs.Common.{sym, ◌∙◌}
use Rattle.sw_value.proofs.MeaningLemmas.{meaning}
use Rattle.sw_value.proofs.operators.has_meaning.Goals as goal

pub returns : goal.returns
returns c =
    let law = meaning c.args.op c.args.a.now c.args.b.now in
    (λ h. law.0 (sym c.means.ensures ∙ h), λ h. c.means.ensures ∙ law.1 h)
