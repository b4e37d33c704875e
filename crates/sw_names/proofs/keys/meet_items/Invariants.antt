use Rattle.std.proofs.Common.{take}
use Rattle.std.specs.List.{flat_map}
use Rattle.sw_names.specs.Keys.{item_keys}
use Rattle.sw_names.specs.Meeting.{Meets}
use Rattle.sw_names.proofs.keys.meet_items.Given as goal

abbrev pub invariant-loop-item : goal.invariant-loop-item
invariant-loop-item l = Meets (flat_map item_keys (take l.item-index l.items)) l.initial.scope l.scope
