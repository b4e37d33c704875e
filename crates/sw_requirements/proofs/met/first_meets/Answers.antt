use Rattle.std.proofs.Common.{sym, ◌∙◌}
use Rattle.sw_requirements.specs.Met.{meets}
use Rattle.sw_requirements.proofs.Found.{any_at}
use Rattle.sw_requirements.proofs.met.first_meets.Goals as goal

pub returns-in-Some : goal.returns-in-Some
returns-in-Some c holds =
    any_at (λ func. meets func c.args.required.now) c.args.funcs.now.list c.place_of.result c.in-Some.func.now c.in-Some.ensures.value (sym c.meets.ensures ∙ holds)
