use Rattle.sw_events.proofs.Runs.{each_start, each_step, each_end}
use Rattle.sw_events.specs.Parts.{parameter_events}
use Rattle.sw_events.proofs.declarations.walk_parameters.Goals as goal

pub loop-parameter-init : goal.loop-parameter-init
loop-parameter-init c = each_start parameter_events _ _ c.args.parameters.now

pub loop-parameter-preserved : goal.loop-parameter-preserved
loop-parameter-preserved c = each_step parameter_events _ _ _ _ _ _ _ c.loop-parameter-test.true c.parameter-item.is c.loop-parameter.invariant c.in_ok-walk_parameter.ensures

pub returns : goal.returns
returns c = each_end parameter_events _ _ _ _ _ c.loop-parameter.invariant c.loop-parameter-test.false
