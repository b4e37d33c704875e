use Rattle.sw_names.specs.Walk.{decl_broken}
use Rattle.sw_names.proofs.Findings.{each_start, each_step, each_end}
use Rattle.sw_names.proofs.pass.report_decls.Goals as goal

pub loop-decl-init : goal.loop-decl-init
loop-decl-init c = each_start (decl_broken c.args.names.now) c.args.decls.now _

pub loop-decl-preserved : goal.loop-decl-preserved
loop-decl-preserved c = each_step (decl_broken c.args.names.now) _ _ _ _ _ _ c.loop-decl-test.true c.decl-item.is c.loop-decl.invariant c.in_ok-found.ensures

pub returns : goal.returns
returns c = each_end (decl_broken c.args.names.now) _ _ _ _ c.loop-decl.invariant c.loop-decl-test.false
