use Rattle.std.proofs.Common.{length}
use Rattle.sw_typing.proofs.convert.+converts.Given as goal

abbrev pub decreases-converts : goal.decreases-converts
decreases-converts l = length l.marks.now
