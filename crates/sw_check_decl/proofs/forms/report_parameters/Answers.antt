use Rattle.sw_check_decl.specs.Forms.{parameter_form}
use Rattle.sw_check_decl.proofs.Findings.{each_start, each_step, each_end}
use Rattle.sw_check_decl.proofs.forms.report_parameters.Goals as goal

pub loop-parameter-init : goal.loop-parameter-init
loop-parameter-init c = each_start parameter_form c.args.parameters.now _

pub loop-parameter-preserved : goal.loop-parameter-preserved
loop-parameter-preserved c = each_step parameter_form _ _ _ _ _ _ c.loop-parameter-test.true c.parameter-item.is c.loop-parameter.invariant c.report_parameter.ensures

pub returns : goal.returns
returns c = each_end parameter_form _ _ _ _ c.loop-parameter.invariant c.loop-parameter-test.false
