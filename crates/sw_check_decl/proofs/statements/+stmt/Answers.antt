use Rattle.std.proofs.Common.{◌++◌, ◌∙◌, ap}
use Rattle.std.specs.List.{flat_map}
use Rattle.sw_findings.specs.Found.{keep_all}
use Rattle.sw_check_decl.specs.TypesInSource.{block_broken, caught_broken, perhaps, stmt_broken}
use Rattle.sw_check_decl.proofs.Findings.{each_start, each_step, each_end}
use Rattle.sw_check_decl.proofs.statements.+stmt.Goals as goal

pub report_branches-loop-branch-init : goal.report_branches-loop-branch-init
report_branches-loop-branch-init t c = each_start (λ x. block_broken c.args.names.now c.args.own.now x.body) c.as_slice-branch-items.result.now _

pub report_branches-loop-branch-preserved : goal.report_branches-loop-branch-preserved
report_branches-loop-branch-preserved t c = each_step (λ x. block_broken c.args.names.now c.args.own.now x.body) _ _ _ _ _ _ c.loop-branch-test.true c.branch-item.is c.loop-branch.invariant c.report_block.ensures

pub report_branches-returns : goal.report_branches-returns
report_branches-returns t c =
    each_end (λ x. block_broken c.args.names.now c.args.own.now x.body) _ _ _ _ c.loop-branch.invariant c.loop-branch-test.false
    ∙ ap (λ xs. keep_all c.args.found.now (flat_map (λ x. block_broken c.args.names.now c.args.own.now x.body) xs)) c.as_slice-branch-items.ensures

pub report_arms-loop-arm-init : goal.report_arms-loop-arm-init
report_arms-loop-arm-init t c = each_start (λ x. block_broken c.args.names.now c.args.own.now x.body) c.as_slice-arm-items.result.now _

pub report_arms-loop-arm-preserved : goal.report_arms-loop-arm-preserved
report_arms-loop-arm-preserved t c = each_step (λ x. block_broken c.args.names.now c.args.own.now x.body) _ _ _ _ _ _ c.loop-arm-test.true c.arm-item.is c.loop-arm.invariant c.report_block.ensures

pub report_arms-returns : goal.report_arms-returns
report_arms-returns t c =
    each_end (λ x. block_broken c.args.names.now c.args.own.now x.body) _ _ _ _ c.loop-arm.invariant c.loop-arm-test.false
    ∙ ap (λ xs. keep_all c.args.found.now (flat_map (λ x. block_broken c.args.names.now c.args.own.now x.body) xs)) c.as_slice-arm-items.ensures

pub report_catches-loop-catch-init : goal.report_catches-loop-catch-init
report_catches-loop-catch-init t c = each_start (λ x. perhaps (caught_broken c.args.names.now c.args.own.now) x.pattern ++ block_broken c.args.names.now c.args.own.now x.body) c.as_slice-catch-items.result.now _

pub report_catches-loop-catch-preserved : goal.report_catches-loop-catch-preserved
report_catches-loop-catch-preserved t c = each_step (λ x. perhaps (caught_broken c.args.names.now c.args.own.now) x.pattern ++ block_broken c.args.names.now c.args.own.now x.body) _ _ _ _ _ _ c.loop-catch-test.true c.catch-item.is c.loop-catch.invariant c.report_catch.ensures

pub report_catches-returns : goal.report_catches-returns
report_catches-returns t c =
    each_end (λ x. perhaps (caught_broken c.args.names.now c.args.own.now) x.pattern ++ block_broken c.args.names.now c.args.own.now x.body) _ _ _ _ c.loop-catch.invariant c.loop-catch-test.false
    ∙ ap (λ xs. keep_all c.args.found.now (flat_map (λ x. perhaps (caught_broken c.args.names.now c.args.own.now) x.pattern ++ block_broken c.args.names.now c.args.own.now x.body) xs)) c.as_slice-catch-items.ensures

pub report_block-loop-x-init : goal.report_block-loop-x-init
report_block-loop-x-init t c = each_start (stmt_broken c.args.names.now c.args.own.now) c.as_slice-x-items.result.now _

pub report_block-loop-x-preserved : goal.report_block-loop-x-preserved
report_block-loop-x-preserved t c = each_step (stmt_broken c.args.names.now c.args.own.now) _ _ _ _ _ _ c.loop-x-test.true c.x-item.is c.loop-x.invariant c.report_stmt.ensures

pub report_block-returns : goal.report_block-returns
report_block-returns t c =
    each_end (stmt_broken c.args.names.now c.args.own.now) _ _ _ _ c.loop-x.invariant c.loop-x-test.false
    ∙ ap (λ xs. keep_all c.args.found.now (flat_map (stmt_broken c.args.names.now c.args.own.now) xs)) c.as_slice-x-items.ensures
