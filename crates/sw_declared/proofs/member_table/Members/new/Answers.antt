use Rattle.sw_declared.specs.Facts.{few}
use Rattle.sw_declared.proofs.Kept.{none_told}
use Rattle.sw_declared.proofs.member_table.Members.new.Goals as goal

pub invariant_of-result : goal.invariant_of-result
invariant_of-result c = none_told _ few _ c.new.ensures c.new-2.ensures
