use Rattle.sw_names.specs.Keys.{member_keys}
use Rattle.sw_names.proofs.Meetings.{each_start, each_step, each_end}
use Rattle.sw_names.proofs.keys.meet_members.Goals as goal

pub loop-member-init : goal.loop-member-init
loop-member-init c = each_start member_keys c.args.members.now _

pub loop-member-preserved : goal.loop-member-preserved
loop-member-preserved c = each_step member_keys _ _ _ _ _ _ c.loop-member-test.true c.member-item.is c.loop-member.invariant c.in_ok-meet_member.ensures

pub returns : goal.returns
returns c = each_end member_keys _ _ _ _ c.loop-member.invariant c.loop-member-test.false
