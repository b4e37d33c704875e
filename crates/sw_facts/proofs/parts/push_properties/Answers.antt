use Rattle.std.proofs.Common.{◌++◌}
use Rattle.sw_facts.specs.Members.{property}
use Rattle.sw_facts.specs.Numbers.{numbered}
use Rattle.sw_facts.proofs.Lists.{numbered_step, numbered_end}
use Rattle.sw_facts.proofs.parts.push_properties.Goals as goal

pub loop-x-preserved : goal.loop-x-preserved
loop-x-preserved c =
    let make = property c.args.owner in
    let xs = c.args.properties.now in
    numbered_step make c.loop-x.number c.in_ok-number.number c.loop-x.list c.push_property.new.list (c.args.list.now ++ numbered make 0 xs) xs c.loop-x.x-index c.x-item.result
    c.loop-x-test.true c.x-item.is c.in_ok-number.ensures c.loop-x.invariant c.in_ok-push_property.ensures

pub returns : goal.returns
returns c =
    let make = property c.args.owner in
    let xs = c.args.properties.now in
    numbered_end make c.loop-x.number c.loop-x.list (c.args.list.now ++ numbered make 0 xs) xs c.loop-x.x-index c.loop-x-test.false c.loop-x.invariant
