use Rattle.std.proofs.Common.{◌≡◌, drop}
use Rattle.sw_declared.specs.Declarations.{argument_labels}
use Rattle.sw_declared.specs.Members.{same_labels}
use Rattle.sw_declared.proofs.few.same_labels.Given as goal

abbrev pub invariant-loop-i : goal.invariant-loop-i
invariant-loop-i l = same_labels l.labels (argument_labels l.arguments) ≡ same_labels (drop l.i l.labels) (argument_labels (drop l.i l.arguments))
