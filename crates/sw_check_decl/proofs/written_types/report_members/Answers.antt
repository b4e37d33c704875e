use Rattle.sw_check_decl.specs.TypesInSource.{member_broken}
use Rattle.sw_check_decl.proofs.Findings.{each_start, each_step, each_end}
use Rattle.sw_check_decl.proofs.written_types.report_members.Goals as goal

pub loop-member-init : goal.loop-member-init
loop-member-init c = each_start (member_broken c.args.names.now c.args.own.now) c.args.members.now _

pub loop-member-preserved : goal.loop-member-preserved
loop-member-preserved c = each_step (member_broken c.args.names.now c.args.own.now) _ _ _ _ _ _ c.loop-member-test.true c.member-item.is c.loop-member.invariant c.report_member.ensures

pub returns : goal.returns
returns c = each_end (member_broken c.args.names.now c.args.own.now) _ _ _ _ c.loop-member.invariant c.loop-member-test.false
