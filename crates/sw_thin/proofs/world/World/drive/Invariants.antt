use Rattle.std.proofs.Common.{◌≡◌}
use Rattle.sw_thin.specs.World.{IsLost, job_ahead}
use Rattle.sw_thin.proofs.world.World.drive.Given as goal

-- the code and the root task stay, and the job is there
abbrev pub invariant-loop-event : goal.invariant-loop-event
invariant-loop-event l = record {
  code : l.self.code ≡ l.fn.self.code;
  main : l.self.main ≡ l.fn.self.main;
  there : ¬ IsLost l.self.job;
}

abbrev pub decreases-loop-event : goal.decreases-loop-event
decreases-loop-event l = job_ahead l.self.code l.self.job
