use Rattle.std.proofs.Common.{◌≡◌, ◌++◌, take}
use Rattle.std.specs.List.{flat_map}
use Rattle.sw_declared.specs.Declarations.{item_funcs}
use Rattle.sw_declared.proofs.funcs.push_item_funcs.Given as goal

abbrev pub invariant-loop-item : goal.invariant-loop-item
invariant-loop-item l = l.funcs ≡ l.initial.funcs ++ flat_map (item_funcs l.owner) (take l.item-index l.items)
