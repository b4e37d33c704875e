use Rattle.std.proofs.Common.{◌≡◌, drop}
use Rattle.std.specs.Cmp.Lexicographic.{pointwise}
use Rattle.sw_declared.specs.Members.{same_label}
use Rattle.sw_requirements.proofs.lists.same_labels.Given as goal

abbrev pub invariant-loop-i : goal.invariant-loop-i
invariant-loop-i l = pointwise same_label l.a l.b ≡ pointwise same_label (drop l.i l.a) (drop l.i l.b)
