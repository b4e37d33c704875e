use Rattle.sw_check_decl.specs.Counts.{case_counted}
use Rattle.sw_check_decl.proofs.Findings.{each_start, each_step, each_end}
use Rattle.sw_check_decl.proofs.counts.report_cases.Goals as goal

pub loop-case-init : goal.loop-case-init
loop-case-init c = each_start case_counted c.args.cases.now _

pub loop-case-preserved : goal.loop-case-preserved
loop-case-preserved c = each_step case_counted _ _ _ _ _ _ c.loop-case-test.true c.case-item.is c.loop-case.invariant c.report_case.ensures

pub returns : goal.returns
returns c = each_end case_counted _ _ _ _ c.loop-case.invariant c.loop-case-test.false
