use Rattle.sw_check_decl.specs.Conformances.{conformance_broken}
use Rattle.sw_check_decl.proofs.Findings.{each_start, each_step, each_end}
use Rattle.sw_check_decl.proofs.conformances.report_conformances.Goals as goal

pub loop-name-init : goal.loop-name-init
loop-name-init c = each_start (conformance_broken c.args.names.now c.args.own.now c.args.on_actor) c.args.conformances.now _

pub loop-name-preserved : goal.loop-name-preserved
loop-name-preserved c = each_step (conformance_broken c.args.names.now c.args.own.now c.args.on_actor) _ _ _ _ _ _ c.loop-name-test.true c.name-item.is c.loop-name.invariant c.report_conformance.ensures

pub returns : goal.returns
returns c = each_end (conformance_broken c.args.names.now c.args.own.now c.args.on_actor) _ _ _ _ c.loop-name.invariant c.loop-name-test.false
