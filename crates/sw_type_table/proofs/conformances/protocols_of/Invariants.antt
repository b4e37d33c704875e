use Rattle.std.proofs.Common.{◌≡◌, take}
use Rattle.std.specs.List.{flat_map}
use Rattle.sw_type_table.specs.Table.{protocols_in}
use Rattle.sw_type_table.proofs.conformances.protocols_of.Given as goal

abbrev pub invariant-loop-name : goal.invariant-loop-name
invariant-loop-name l = l.protocols ≡ flat_map (protocols_in l.names l.own) (take l.name-index l.conformances)
