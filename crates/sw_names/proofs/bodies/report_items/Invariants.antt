use Rattle.std.proofs.Common.{◌≡◌, take}
use Rattle.std.specs.List.{flat_map}
use Rattle.sw_findings.specs.Found.{keep_all}
use Rattle.sw_events.specs.Parts.{item_part}
use Rattle.sw_names.specs.Walk.{part_broken}
use Rattle.sw_names.proofs.bodies.report_items.Given as goal

abbrev pub invariant-loop-item : goal.invariant-loop-item
invariant-loop-item l = l.found ≡ keep_all l.initial.found (flat_map (λ x. part_broken l.names l.own (item_part x)) (take l.item-index l.items))
