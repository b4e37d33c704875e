use Rattle.std.proofs.Common.{◌≡◌, take}
use Rattle.sw_declared.specs.Declarations.{payload_labels}
use Rattle.sw_declared.proofs.labels.payload_labels.Given as goal

abbrev pub invariant-loop-part : goal.invariant-loop-part
invariant-loop-part l = l.labels ≡ payload_labels (take l.part-index l.parts)
