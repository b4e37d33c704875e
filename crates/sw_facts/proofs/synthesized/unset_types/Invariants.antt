use Rattle.std.proofs.Common.{◌≡◌, take}
use Rattle.std.specs.List.{flat_map}
use Rattle.sw_facts.specs.Members.{unset_type}
use Rattle.sw_facts.proofs.synthesized.unset_types.Given as goal

abbrev pub invariant-loop-x : goal.invariant-loop-x
invariant-loop-x l = l.types ≡ flat_map unset_type (take l.x-index l.properties)
