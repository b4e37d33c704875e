use Rattle.sw_locals.proofs.Places.{none_linked}
use Rattle.sw_locals.proofs.locals.Locals.new.Goals as goal

pub invariant_of-result : goal.invariant_of-result
invariant_of-result c = none_linked c.new-2.result c.new.result c.new-2.ensures c.new.ensures
