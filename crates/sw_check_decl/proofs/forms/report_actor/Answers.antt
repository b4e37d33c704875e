use Rattle.sw_check_decl.specs.Forms.{actor_member_form}
use Rattle.sw_check_decl.proofs.Findings.{each_start, each_step, each_end}
use Rattle.sw_check_decl.proofs.forms.report_actor.Goals as goal

pub loop-member-init : goal.loop-member-init
loop-member-init c = each_start actor_member_form c.args.members.now _

pub loop-member-preserved : goal.loop-member-preserved
loop-member-preserved c = each_step actor_member_form _ _ _ _ _ _ c.loop-member-test.true c.member-item.is c.loop-member.invariant c.report_actor_member.ensures

pub returns : goal.returns
returns c = each_end actor_member_form _ _ _ _ c.loop-member.invariant c.loop-member-test.false
