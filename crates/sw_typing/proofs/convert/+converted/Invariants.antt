use Rattle.std.proofs.Common.{length}
use Rattle.sw_typing.proofs.convert.+converted.Given as goal

abbrev pub decreases-converted : goal.decreases-converted
decreases-converted l = length l.marks.now
