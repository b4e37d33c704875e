use Rattle.sw_events.proofs.Runs.{each_start, each_step, each_end}
use Rattle.sw_events.specs.Bodies.{pattern_events}
use Rattle.sw_events.proofs.patterns.walk_patterns.Goals as goal

pub loop-pattern-init : goal.loop-pattern-init
loop-pattern-init c = each_start pattern_events _ _ c.args.patterns.now

pub loop-pattern-preserved : goal.loop-pattern-preserved
loop-pattern-preserved c = each_step pattern_events _ _ _ _ _ _ _ c.loop-pattern-test.true c.pattern-item.is c.loop-pattern.invariant c.in_ok-walk_pattern.ensures

pub returns : goal.returns
returns c = each_end pattern_events _ _ _ _ _ c.loop-pattern.invariant c.loop-pattern-test.false
