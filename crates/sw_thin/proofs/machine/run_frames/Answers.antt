use Rattle.sw_thin.proofs.TurnLemmas.{comes_here, comes_on, run_ends}
use Rattle.sw_thin.proofs.machine.run_frames.Goals as goal

pub loop-frames-init : goal.loop-frames-init
loop-frames-init c = comes_here c.args.code.now c.args.max c.args.top c.args.below c.requires.typed

pub loop-frames-preserved : goal.loop-frames-preserved
loop-frames-preserved c =
    comes_on c.args.code.now c.args.max c.args.top c.loop-frames.top c.args.below c.loop-frames.frames c.loop-frames.begun c.in_ok-next.field-0 c.in-Goes.next c.typed_step.new.below c.in-Goes.now c.loop-frames.invariant c.in_ok-next.ensures c.in-Goes.is

pub returns-in-Stops : goal.returns-in-Stops
returns-in-Stops c =
    run_ends c.args.code.now c.args.max c.args.top c.loop-frames.top c.args.below c.loop-frames.frames c.loop-frames.begun c.in_ok-next.field-0 c.in-Stops.exit c.typed_step.new.below c.in-Stops.begun c.requires.at_least_one c.loop-frames.invariant c.in_ok-next.ensures c.in-Stops.is
