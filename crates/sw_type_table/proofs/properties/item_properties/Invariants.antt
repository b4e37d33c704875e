use Rattle.std.proofs.Common.{◌≡◌, take}
use Rattle.std.specs.List.{flat_map}
use Rattle.sw_type_table.specs.Table.{item_properties}
use Rattle.sw_type_table.proofs.properties.item_properties.Given as goal

abbrev pub invariant-loop-item : goal.invariant-loop-item
invariant-loop-item l = l.properties ≡ flat_map (item_properties l.names l.own) (take l.item-index l.items)
