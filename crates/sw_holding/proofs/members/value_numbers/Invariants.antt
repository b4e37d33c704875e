use Rattle.std.proofs.Common.{◌≡◌, take}
use Rattle.std.specs.List.{flat_map}
use Rattle.sw_holding.specs.Edges.{value_number}
use Rattle.sw_holding.proofs.members.value_numbers.Given as goal

abbrev pub invariant-loop-base : goal.invariant-loop-base
invariant-loop-base l = l.numbers ≡ flat_map value_number (take l.base-index l.bases)
