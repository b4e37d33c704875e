use Rattle.std.proofs.Common.{◌++◌}
use Rattle.sw_facts.specs.Members.{case_of}
use Rattle.sw_facts.specs.Numbers.{numbered}
use Rattle.sw_facts.proofs.Lists.{numbered_step, numbered_end}
use Rattle.sw_facts.proofs.parts.push_cases.Goals as goal

pub loop-x-preserved : goal.loop-x-preserved
loop-x-preserved c =
    let make = case_of c.args.owner in
    let xs = c.args.cases.now in
    numbered_step make c.loop-x.number c.in_ok-number.number c.loop-x.list c.push_case.new.list (c.args.list.now ++ numbered make 0 xs) xs c.loop-x.x-index c.x-item.result
    c.loop-x-test.true c.x-item.is c.in_ok-number.ensures c.loop-x.invariant c.in_ok-push_case.ensures

pub returns : goal.returns
returns c =
    let make = case_of c.args.owner in
    let xs = c.args.cases.now in
    numbered_end make c.loop-x.number c.loop-x.list (c.args.list.now ++ numbered make 0 xs) xs c.loop-x.x-index c.loop-x-test.false c.loop-x.invariant
