use Rattle.std.proofs.Common.{ap, ◌∙◌, ◌+◌, length}
use Rattle.std.specs.List.{flat_map}
use Rattle.sw_declared.specs.Declarations.{member_funcs}
use Rattle.sw_facts.specs.Numbers.{any_owner}
use Rattle.sw_facts.proofs.Lists.{sum_step, sum_end}
use Rattle.sw_facts.proofs.counts.count_members.Goals as goal

pub loop-x-preserved : goal.loop-x-preserved
loop-x-preserved c =
    let xs = c.args.members.now in
    sum_step (member_funcs any_owner) c.loop-x.n c.in_ok-n.n (length (flat_map (member_funcs any_owner) xs)) xs c.loop-x.x-index c.x-item.result
    c.loop-x-test.true c.x-item.is c.loop-x.invariant (c.in_ok-n.ensures ∙ ap (λ k. c.loop-x.n + k) c.count_member.ensures)

pub returns : goal.returns
returns c =
    let xs = c.args.members.now in
    sum_end (member_funcs any_owner) c.loop-x.n (length (flat_map (member_funcs any_owner) xs)) xs c.loop-x.x-index c.loop-x-test.false c.loop-x.invariant
