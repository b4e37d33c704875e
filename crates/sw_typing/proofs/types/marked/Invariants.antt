-- The new mark, and then the marks of the type up to the one that comes next.
use Rattle.std.proofs.Common.{◌≡◌, ◌∷◌, take}
use Rattle.sw_typing.proofs.types.marked.Given as goal

abbrev pub invariant-loop-mark : goal.invariant-loop-mark
invariant-loop-mark l = l.copied ≡ l.fn.mark ∷ take l.mark-index l.mark-items
