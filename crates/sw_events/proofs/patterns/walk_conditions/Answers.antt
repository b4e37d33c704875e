use Rattle.sw_events.proofs.Runs.{each_start, each_step, each_end}
use Rattle.sw_events.specs.Bodies.{condition_events}
use Rattle.sw_events.proofs.patterns.walk_conditions.Goals as goal

pub loop-condition-init : goal.loop-condition-init
loop-condition-init c = each_start condition_events _ _ c.args.conditions.now

pub loop-condition-preserved : goal.loop-condition-preserved
loop-condition-preserved c = each_step condition_events _ _ _ _ _ _ _ c.loop-condition-test.true c.condition-item.is c.loop-condition.invariant c.in_ok-walk_condition.ensures

pub returns : goal.returns
returns c = each_end condition_events _ _ _ _ _ c.loop-condition.invariant c.loop-condition-test.false
