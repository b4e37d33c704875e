use Rattle.sw_names.specs.Pass.{member_breaks}
use Rattle.sw_names.proofs.Findings.{each_start, each_step, each_end}
use Rattle.sw_names.proofs.aliases.report_members.Goals as goal

pub loop-member-init : goal.loop-member-init
loop-member-init c = each_start (member_breaks c.args.distributed) c.args.members.now _

pub loop-member-preserved : goal.loop-member-preserved
loop-member-preserved c = each_step (member_breaks c.args.distributed) _ _ _ _ _ _ c.loop-member-test.true c.member-item.is c.loop-member.invariant c.report_member.ensures

pub returns : goal.returns
returns c = each_end (member_breaks c.args.distributed) _ _ _ _ c.loop-member.invariant c.loop-member-test.false
