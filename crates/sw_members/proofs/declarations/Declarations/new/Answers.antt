use Rattle.sw_members.proofs.Kept.{none_keyed}
use Rattle.sw_members.proofs.declarations.Declarations.new.Goals as goal

pub invariant_of-result : goal.invariant_of-result
invariant_of-result c = none_keyed c.new.result c.new-2.result c.new.ensures c.new-2.ensures
