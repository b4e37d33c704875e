use Rattle.std.proofs.Common.{◌≡◌, take}
use Rattle.std.specs.List.{flat_map}
use Rattle.sw_findings.specs.Found.{keep_all}
use Rattle.sw_names.specs.Pass.{item_breaks}
use Rattle.sw_names.proofs.aliases.report_items.Given as goal

abbrev pub invariant-loop-item : goal.invariant-loop-item
invariant-loop-item l = l.found ≡ keep_all l.initial.found (flat_map item_breaks (take l.item-index l.items))
