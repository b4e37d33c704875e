use Rattle.std.proofs.Common.{◌≡◌, Some, map, take}
use Rattle.std.specs.List.{flat_map}
use Rattle.sw_declared.specs.Declarations.{uninitialized}
use Rattle.sw_declared.proofs.funcs.memberwise_labels.Given as goal

abbrev pub invariant-loop-member : goal.invariant-loop-member
invariant-loop-member l = l.labels ≡ map Some (flat_map uninitialized (take l.member-index l.members))
