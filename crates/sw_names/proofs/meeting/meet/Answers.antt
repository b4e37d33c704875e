use Rattle.std.proofs.Common.{◌||◌, ap, ◌∙◌}
use Rattle.sw_rules.specs.declared.Rule.TheVariants.{N1}
use Rattle.sw_findings.specs.Found.{when, keep_all}
use Rattle.sw_sight.specs.InSight.{same}
use Rattle.sw_names.specs.Meeting.{is_met}
use Rattle.sw_names.proofs.Meetings.{meets_one}
use Rattle.sw_names.proofs.meeting.meet.Goals as goal

pub returns : goal.returns
returns c =
    let e = c.deref.ensures.value ∙ c.in_ok-key.ensures in
    meets_one c.spellings_tell.ensures _ _ _
    (λ x. c.in_ok-known.ensures.met x ∙ ap (λ key. same x key || is_met x c.args.scope.now.met) e)
    (c.report.ensures ∙ ap (λ t. keep_all c.args.scope.now.found (when t N1 c.args.at)) (c.in_ok-known.ensures.known ∙ ap (λ key. is_met key c.args.scope.now.met) e))
