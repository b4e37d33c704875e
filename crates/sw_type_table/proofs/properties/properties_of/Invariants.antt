use Rattle.std.proofs.Common.{◌≡◌, take}
use Rattle.std.specs.List.{flat_map}
use Rattle.sw_type_table.specs.Table.{stored_properties}
use Rattle.sw_type_table.proofs.properties.properties_of.Given as goal

abbrev pub invariant-loop-member : goal.invariant-loop-member
invariant-loop-member l = l.properties ≡ flat_map (stored_properties l.names l.own) (take l.member-index l.members)
