use Rattle.std.proofs.Common.{ap, ◌∙◌, ◌+◌, length}
use Rattle.std.specs.List.{flat_map}
use Rattle.sw_declared.specs.Declarations.{item_funcs}
use Rattle.sw_facts.specs.Numbers.{any_owner}
use Rattle.sw_facts.proofs.Lists.{sum_step, sum_end}
use Rattle.sw_facts.proofs.counts.count_items.Goals as goal

pub loop-x-preserved : goal.loop-x-preserved
loop-x-preserved c =
    let xs = c.args.items.now in
    sum_step (item_funcs any_owner) c.loop-x.n c.in_ok-n.n (length (flat_map (item_funcs any_owner) xs)) xs c.loop-x.x-index c.x-item.result
    c.loop-x-test.true c.x-item.is c.loop-x.invariant (c.in_ok-n.ensures ∙ ap (λ k. c.loop-x.n + k) c.count_item.ensures)

pub returns : goal.returns
returns c =
    let xs = c.args.items.now in
    sum_end (item_funcs any_owner) c.loop-x.n (length (flat_map (item_funcs any_owner) xs)) xs c.loop-x.x-index c.loop-x-test.false c.loop-x.invariant
