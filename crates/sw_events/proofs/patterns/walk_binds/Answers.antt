use Rattle.sw_events.proofs.Runs.{each_start, each_step, each_end}
use Rattle.sw_events.specs.Bodies.{bind_events}
use Rattle.sw_events.proofs.patterns.walk_binds.Goals as goal

pub loop-item-init : goal.loop-item-init
loop-item-init c = each_start bind_events _ _ c.args.binds.now

pub loop-item-preserved : goal.loop-item-preserved
loop-item-preserved c = each_step bind_events _ _ _ _ _ _ _ c.loop-item-test.true c.item-item.is c.loop-item.invariant c.in_ok-walk_bind.ensures

pub returns : goal.returns
returns c = each_end bind_events _ _ _ _ _ c.loop-item.invariant c.loop-item-test.false
