use Rattle.std.proofs.Common.{◌≡◌, ◌++◌, drop}
use Rattle.sw_declared.specs.Declarations.{item_funcs}
use Rattle.sw_facts.specs.Members.{item_func}
use Rattle.sw_facts.specs.Numbers.{any_owner, counted}
use Rattle.sw_facts.proofs.funcs.push_items.Given as goal

abbrev pub invariant-loop-x : goal.invariant-loop-x
invariant-loop-x l =
    l.list ++ counted (item_funcs any_owner) (item_func l.home.names.now l.home.own.now l.home.gives) l.number (drop l.x-index l.items)
    ≡ l.initial.list ++ counted (item_funcs any_owner) (item_func l.home.names.now l.home.own.now l.home.gives) l.first l.items
