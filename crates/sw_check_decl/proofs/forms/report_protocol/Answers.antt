use Rattle.sw_check_decl.specs.Forms.{requirement_form}
use Rattle.sw_check_decl.proofs.Findings.{each_start, each_step, each_end}
use Rattle.sw_check_decl.proofs.forms.report_protocol.Goals as goal

pub loop-requirement-init : goal.loop-requirement-init
loop-requirement-init c = each_start requirement_form c.args.requirements.now _

pub loop-requirement-preserved : goal.loop-requirement-preserved
loop-requirement-preserved c = each_step requirement_form _ _ _ _ _ _ c.loop-requirement-test.true c.requirement-item.is c.loop-requirement.invariant c.report_requirement.ensures

pub returns : goal.returns
returns c = each_end requirement_form _ _ _ _ c.loop-requirement.invariant c.loop-requirement-test.false
