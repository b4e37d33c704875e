use Rattle.sw_names.specs.Keys.{requirement_keys}
use Rattle.sw_names.proofs.Meetings.{each_start, each_step, each_end}
use Rattle.sw_names.proofs.keys.meet_requirements.Goals as goal

pub loop-requirement-init : goal.loop-requirement-init
loop-requirement-init c = each_start requirement_keys c.args.requirements.now _

pub loop-requirement-preserved : goal.loop-requirement-preserved
loop-requirement-preserved c = each_step requirement_keys _ _ _ _ _ _ c.loop-requirement-test.true c.requirement-item.is c.loop-requirement.invariant c.in_ok-meet_requirement.ensures

pub returns : goal.returns
returns c = each_end requirement_keys _ _ _ _ c.loop-requirement.invariant c.loop-requirement-test.false
