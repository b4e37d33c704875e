use Rattle.sw_check_decl.specs.TypesInSource.{type_broken}
use Rattle.sw_check_decl.proofs.Findings.{each_start, each_step, each_end}
use Rattle.sw_check_decl.proofs.written_types.report_parameters.Goals as goal

pub loop-parameter-init : goal.loop-parameter-init
loop-parameter-init c = each_start (λ p. type_broken c.args.names.now c.args.own.now p.declared) c.args.parameters.now _

pub loop-parameter-preserved : goal.loop-parameter-preserved
loop-parameter-preserved c = each_step (λ p. type_broken c.args.names.now c.args.own.now p.declared) _ _ _ _ _ _ c.loop-parameter-test.true c.parameter-item.is c.loop-parameter.invariant c.report_type.ensures

pub returns : goal.returns
returns c = each_end (λ p. type_broken c.args.names.now c.args.own.now p.declared) _ _ _ _ c.loop-parameter.invariant c.loop-parameter-test.false
