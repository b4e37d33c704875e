use Rattle.std.proofs.Common.{◌≡◌, length}
use Rattle.sw_locals.specs.InBody.{closed}
use Rattle.sw_locals.proofs.locals.Locals.close.Given as goal

abbrev pub invariant-loop : goal.invariant-loop
invariant-loop l = closed l.self ≡ closed l.initial.self

abbrev pub decreases-loop : goal.decreases-loop
decreases-loop l = length l.self
