use Rattle.std.proofs.Common.{◌++◌, ap, ◌∙◌, ◌+◌}
use Rattle.sw_declared.specs.Declarations.{item_funcs}
use Rattle.sw_facts.specs.Members.{item_func}
use Rattle.sw_facts.specs.Numbers.{any_owner, counted}
use Rattle.sw_facts.proofs.Lists.{counted_step, counted_end}
use Rattle.sw_facts.proofs.funcs.push_items.Goals as goal

pub loop-x-preserved : goal.loop-x-preserved
loop-x-preserved c =
    let home = c.args.home.now in
    let takes = item_funcs any_owner in
    let make = item_func home.names.now home.own.now home.gives in
    let xs = c.args.items.now in
    counted_step takes make c.loop-x.number c.in_ok-number.number c.loop-x.list c.push_item.new.list (c.args.list.now ++ counted takes make c.args.first xs) xs c.loop-x.x-index c.x-item.result
    c.loop-x-test.true c.x-item.is (c.in_ok-number.ensures ∙ ap (λ k. c.loop-x.number + k) (c.count_item.ensures)) c.loop-x.invariant c.in_ok-push_item.ensures

pub returns : goal.returns
returns c =
    let home = c.args.home.now in
    let takes = item_funcs any_owner in
    let make = item_func home.names.now home.own.now home.gives in
    let xs = c.args.items.now in
    counted_end takes make c.loop-x.number c.loop-x.list (c.args.list.now ++ counted takes make c.args.first xs) xs c.loop-x.x-index c.loop-x-test.false c.loop-x.invariant
