use Rattle.sw_locals.proofs.Places.{opened_linked}
use Rattle.sw_locals.proofs.locals.Locals.open.Goals as goal

pub invariant_of-self-2 : goal.invariant_of-self-2
invariant_of-self-2 c = opened_linked c.self.inside.places c.self.inside.marks c.push.new.self c.self.invariant c.in_ok-push.ensures.ok
