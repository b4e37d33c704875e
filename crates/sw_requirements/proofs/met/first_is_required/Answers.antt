use Rattle.std.proofs.Common.{sym, ◌∙◌}
use Rattle.sw_requirements.specs.Met.{is_required}
use Rattle.sw_requirements.proofs.Found.{any_found}
use Rattle.sw_requirements.proofs.met.first_is_required.Goals as goal

pub returns-in-Some : goal.returns-in-Some
returns-in-Some c holds =
    any_found _ (is_required c.args.name.now c.args.t.now) c.args.members.now c.in-Some.member.now c.in-Some.ensures (sym c.is_required.ensures ∙ holds)
