use Rattle.std.proofs.Common.{◌≡◌, take}
use Rattle.std.specs.List.{flat_map}
use Rattle.sw_type_table.specs.Table.{entries_in}
use Rattle.sw_type_table.proofs.table.type_table.Given as goal

abbrev pub invariant-loop-decl : goal.invariant-loop-decl
invariant-loop-decl l = l.entries ≡ flat_map (entries_in l.names) (take l.decl-index l.decl-items)
