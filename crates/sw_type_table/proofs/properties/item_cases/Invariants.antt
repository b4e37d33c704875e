use Rattle.std.proofs.Common.{◌≡◌, take}
use Rattle.std.specs.List.{flat_map}
use Rattle.sw_type_table.specs.Table.{item_cases}
use Rattle.sw_type_table.proofs.properties.item_cases.Given as goal

abbrev pub invariant-loop-item : goal.invariant-loop-item
invariant-loop-item l = l.entries ≡ flat_map (item_cases l.names l.own) (take l.item-index l.items)
