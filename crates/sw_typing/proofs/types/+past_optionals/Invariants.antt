use Rattle.std.proofs.Common.{length}
use Rattle.sw_typing.proofs.types.+past_optionals.Given as goal

abbrev pub decreases-past_optionals : goal.decreases-past_optionals
decreases-past_optionals l = length l.marks.now
