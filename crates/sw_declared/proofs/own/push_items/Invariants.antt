use Rattle.std.proofs.Common.{◌≡◌, ◌++◌, take}
use Rattle.std.specs.List.{flat_map}
use Rattle.sw_declared.specs.Declarations.{item_members}
use Rattle.sw_declared.proofs.own.push_items.Given as goal

abbrev pub invariant-loop-item : goal.invariant-loop-item
invariant-loop-item l = l.own ≡ l.initial.own ++ flat_map item_members (take l.item-index l.items)
