use Rattle.std.proofs.Common.{◌≡◌, take}
use Rattle.std.specs.List.{flat_map}
use Rattle.sw_facts.specs.Members.{unset_label}
use Rattle.sw_facts.proofs.synthesized.unset_labels.Given as goal

abbrev pub invariant-loop-x : goal.invariant-loop-x
invariant-loop-x l = l.labels ≡ flat_map unset_label (take l.x-index l.properties)
