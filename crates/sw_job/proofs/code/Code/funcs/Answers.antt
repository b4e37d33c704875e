use Rattle.std.proofs.Common.{subst}
use Rattle.sw_job.proofs.Safe.{each_step_is_safe, never_stuck}
use Rattle.sw_job.specs.Typed.{EachStepIsSafe, NeverStuck}
use Rattle.sw_job.proofs.code.Code.funcs.Goals as goal

pub returns-clause-steps : goal.returns-clause-steps
returns-clause-steps c = subst EachStepIsSafe c.self.view_is (each_step_is_safe c.self.inside.funcs c.self.invariant)

pub returns-clause-never_stuck : goal.returns-clause-never_stuck
returns-clause-never_stuck c = subst NeverStuck c.self.view_is (never_stuck c.self.inside.funcs c.self.invariant)
