use Rattle.std.proofs.Common.{[], ◌∷◌, subst}
use Rattle.std.proofs.lemmas.List.Concat.{flat_map_single}
use Rattle.sw_names.specs.Keys.{case_key}
use Rattle.sw_names.specs.Meeting.{Meets}
use Rattle.sw_names.proofs.Meetings.{each_start, each_step, each_end}
use Rattle.sw_names.proofs.keys.meet_cases.Goals as goal

pub loop-case-init : goal.loop-case-init
loop-case-init c = each_start (λ x. case_key x ∷ []) c.args.cases.now _

pub loop-case-preserved : goal.loop-case-preserved
loop-case-preserved c = each_step (λ x. case_key x ∷ []) _ _ _ _ _ _ c.loop-case-test.true c.case-item.is c.loop-case.invariant c.in_ok-meet_case.ensures

pub returns : goal.returns
returns c =
    subst (λ keys. Meets keys c.args.scope.now c.loop-case.scope) (flat_map_single case_key c.args.cases.now)
    (each_end (λ x. case_key x ∷ []) _ _ _ _ c.loop-case.invariant c.loop-case-test.false)
