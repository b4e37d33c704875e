use Rattle.sw_job.specs.Typed.{all_ahead}
use Rattle.std.proofs.Common.{◌∷◌}
use Rattle.sw_thin.proofs.TurnLemmas.{Comes}
use Rattle.sw_thin.proofs.machine.run_frames.Given as goal

abbrev pub invariant-loop-frames : goal.invariant-loop-frames
invariant-loop-frames l = Comes l.code l.max l.fn.top l.fn.below l.top l.frames l.begun

abbrev pub decreases-loop-frames : goal.decreases-loop-frames
decreases-loop-frames l = all_ahead l.code (l.top ∷ l.frames)
