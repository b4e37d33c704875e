use Rattle.std.proofs.Common.{◌≡◌, take}
use Rattle.std.specs.List.{flat_map}
use Rattle.sw_findings.specs.Found.{keep_all}
use Rattle.sw_check_decl.specs.TypesInSource.{item_broken}
use Rattle.sw_check_decl.proofs.written_types.report_items.Given as goal

abbrev pub invariant-loop-item : goal.invariant-loop-item
invariant-loop-item l = l.found ≡ keep_all l.initial.found (flat_map (item_broken l.names l.own) (take l.item-index l.items))
