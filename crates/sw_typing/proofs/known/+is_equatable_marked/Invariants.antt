use Rattle.std.proofs.Common.{length}
use Rattle.sw_typing.proofs.known.+is_equatable_marked.Given as goal

abbrev pub decreases-is_equatable_marked : goal.decreases-is_equatable_marked
decreases-is_equatable_marked l = length l.marks.now
