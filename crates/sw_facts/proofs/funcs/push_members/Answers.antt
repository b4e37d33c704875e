use Rattle.std.proofs.Common.{◌++◌, ap, ◌∙◌, ◌+◌}
use Rattle.sw_declared.specs.Declarations.{member_funcs}
use Rattle.sw_facts.specs.Members.{member_func}
use Rattle.sw_facts.specs.Numbers.{any_owner, counted}
use Rattle.sw_facts.proofs.Lists.{counted_step, counted_end}
use Rattle.sw_facts.proofs.funcs.push_members.Goals as goal

pub loop-x-preserved : goal.loop-x-preserved
loop-x-preserved c =
    let home = c.args.home.now in
    let takes = member_funcs any_owner in
    let make = member_func home.names.now home.own.now home.gives in
    let xs = c.args.members.now in
    counted_step takes make c.loop-x.number c.in_ok-number.number c.loop-x.list c.push_member.new.list (c.args.list.now ++ counted takes make c.args.first xs) xs c.loop-x.x-index c.x-item.result
    c.loop-x-test.true c.x-item.is (c.in_ok-number.ensures ∙ ap (λ k. c.loop-x.number + k) (c.count_member.ensures)) c.loop-x.invariant c.in_ok-push_member.ensures

pub returns : goal.returns
returns c =
    let home = c.args.home.now in
    let takes = member_funcs any_owner in
    let make = member_func home.names.now home.own.now home.gives in
    let xs = c.args.members.now in
    counted_end takes make c.loop-x.number c.loop-x.list (c.args.list.now ++ counted takes make c.args.first xs) xs c.loop-x.x-index c.loop-x-test.false c.loop-x.invariant
