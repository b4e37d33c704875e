use Rattle.sw_check_decl.specs.TypesInSource.{case_broken}
use Rattle.sw_check_decl.proofs.Findings.{each_start, each_step, each_end}
use Rattle.sw_check_decl.proofs.written_types.report_cases.Goals as goal

pub loop-case-init : goal.loop-case-init
loop-case-init c = each_start (case_broken c.args.names.now c.args.own.now) c.args.cases.now _

pub loop-case-preserved : goal.loop-case-preserved
loop-case-preserved c = each_step (case_broken c.args.names.now c.args.own.now) _ _ _ _ _ _ c.loop-case-test.true c.case-item.is c.loop-case.invariant c.report_case.ensures

pub returns : goal.returns
returns c = each_end (case_broken c.args.names.now c.args.own.now) _ _ _ _ c.loop-case.invariant c.loop-case-test.false
