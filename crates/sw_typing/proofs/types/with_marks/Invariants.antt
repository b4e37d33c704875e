-- The marks are copied up to the one that comes next.
use Rattle.std.proofs.Common.{◌≡◌, take}
use Rattle.sw_typing.proofs.types.with_marks.Given as goal

abbrev pub invariant-loop-mark : goal.invariant-loop-mark
invariant-loop-mark l = l.copied ≡ take l.mark-index l.marks
