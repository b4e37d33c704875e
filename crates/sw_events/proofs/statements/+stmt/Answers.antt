use Rattle.std.proofs.Common.{◌∙◌, ap, sym}
use Rattle.std.proofs.lemmas.Result.{IfOk-equal}
use Rattle.sw_scope.specs.Walk.{run}
use Rattle.sw_scope.specs.Events.{each, perhaps}
use Rattle.sw_events.proofs.Runs.{each_start, each_step, each_end}
use Rattle.sw_events.proofs.StmtEvents.{if_rest, if_none}
use Rattle.sw_events.specs.Bodies.{block_events}
use Rattle.sw_events.specs.Bodies.{branch_events, catch_events, stmt_events, switch_arm_events}
use Rattle.sw_events.proofs.statements.+stmt.Goals as goal

pub walk_branches-loop-branch-init : goal.walk_branches-loop-branch-init
walk_branches-loop-branch-init t c = each_start branch_events _ _ c.as_slice-branch-items.result.now

pub walk_branches-loop-branch-preserved : goal.walk_branches-loop-branch-preserved
walk_branches-loop-branch-preserved t c = each_step branch_events _ _ _ _ _ _ _ c.loop-branch-test.true c.branch-item.is c.loop-branch.invariant c.in_ok-walk_branch.ensures

pub walk_branches-returns : goal.walk_branches-returns
walk_branches-returns t c =
    each_end branch_events _ _ _ _ _ c.loop-branch.invariant c.loop-branch-test.false
    ∙ ap (λ xs. run c.args.around.now (each branch_events xs) c.args.seen.now) c.as_slice-branch-items.ensures

pub walk_arms-loop-arm-init : goal.walk_arms-loop-arm-init
walk_arms-loop-arm-init t c = each_start switch_arm_events _ _ c.as_slice-arm-items.result.now

pub walk_arms-loop-arm-preserved : goal.walk_arms-loop-arm-preserved
walk_arms-loop-arm-preserved t c = each_step switch_arm_events _ _ _ _ _ _ _ c.loop-arm-test.true c.arm-item.is c.loop-arm.invariant c.in_ok-walk_arm.ensures

pub walk_arms-returns : goal.walk_arms-returns
walk_arms-returns t c =
    each_end switch_arm_events _ _ _ _ _ c.loop-arm.invariant c.loop-arm-test.false
    ∙ ap (λ xs. run c.args.around.now (each switch_arm_events xs) c.args.seen.now) c.as_slice-arm-items.ensures

pub walk_catches-loop-catch-init : goal.walk_catches-loop-catch-init
walk_catches-loop-catch-init t c = each_start catch_events _ _ c.as_slice-catch-items.result.now

pub walk_catches-loop-catch-preserved : goal.walk_catches-loop-catch-preserved
walk_catches-loop-catch-preserved t c = each_step catch_events _ _ _ _ _ _ _ c.loop-catch-test.true c.catch-item.is c.loop-catch.invariant c.in_ok-walk_catch.ensures

pub walk_catches-returns : goal.walk_catches-returns
walk_catches-returns t c =
    each_end catch_events _ _ _ _ _ c.loop-catch.invariant c.loop-catch-test.false
    ∙ ap (λ xs. run c.args.around.now (each catch_events xs) c.args.seen.now) c.as_slice-catch-items.ensures

pub walk_statements-loop-x-init : goal.walk_statements-loop-x-init
walk_statements-loop-x-init t c = each_start stmt_events _ _ c.as_slice-x-items.result.now

pub walk_statements-loop-x-preserved : goal.walk_statements-loop-x-preserved
walk_statements-loop-x-preserved t c = each_step stmt_events _ _ _ _ _ _ _ c.loop-x-test.true c.x-item.is c.loop-x.invariant c.in_ok-stmt.ensures

pub walk_statements-returns : goal.walk_statements-returns
walk_statements-returns t c =
    each_end stmt_events _ _ _ _ _ c.loop-x.invariant c.loop-x-test.false
    ∙ ap (λ xs. run c.args.around.now (each stmt_events xs) c.args.seen.now) c.as_slice-x-items.ensures

pub stmt-returns-in-None : goal.stmt-returns-in-None
stmt-returns-in-None t c =
    if_none c.args.around.now c.in-If.otherwise c.walk_branches.new.seen c.in-None.is
    ∙ if_rest c.args.around.now c.args.x.now c.in-If.first c.in-If.others c.in-If.otherwise c.args.seen.now c.walk_branch.new.seen c.walk_branches.new.seen
    c.in-If.is c.in_ok-walk_branch-in-If.ensures c.in_ok-walk_branches-in-If.ensures

pub stmt-returns-in-Some : goal.stmt-returns-in-Some
stmt-returns-in-Some t c =
    IfOk-equal c.walk_block.result _ _ _ c.walk_block.ensures
    (ap (λ o. run c.args.around.now (perhaps block_events o) c.walk_branches.new.seen) (sym c.in-Some.is)
    ∙ if_rest c.args.around.now c.args.x.now c.in-If.first c.in-If.others c.in-If.otherwise c.args.seen.now c.walk_branch.new.seen c.walk_branches.new.seen
    c.in-If.is c.in_ok-walk_branch-in-If.ensures c.in_ok-walk_branches-in-If.ensures)
