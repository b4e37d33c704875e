use Rattle.std.proofs.Common.{◌≡◌, take}
use Rattle.std.specs.List.{flat_map}
use Rattle.sw_requirements.specs.Unmet.{member_signatures}
use Rattle.sw_requirements.proofs.signatures.of_members.Given as goal

abbrev pub invariant-loop-x : goal.invariant-loop-x
invariant-loop-x l = l.list ≡ flat_map (member_signatures l.names l.own) (take l.x-index l.members)
