use Rattle.sw_events.proofs.Runs.{each_start, each_step, each_end}
use Rattle.sw_events.specs.Parts.{case_events}
use Rattle.sw_events.proofs.declarations.walk_cases.Goals as goal

pub loop-case-init : goal.loop-case-init
loop-case-init c = each_start case_events _ _ c.args.cases.now

pub loop-case-preserved : goal.loop-case-preserved
loop-case-preserved c = each_step case_events _ _ _ _ _ _ _ c.loop-case-test.true c.case-item.is c.loop-case.invariant c.walk_case.ensures

pub returns : goal.returns
returns c = each_end case_events _ _ _ _ _ c.loop-case.invariant c.loop-case-test.false
