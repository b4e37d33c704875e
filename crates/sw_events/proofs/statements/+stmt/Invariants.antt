use Rattle.std.proofs.Common.{◌≡◌, take}
use Rattle.sw_scope.specs.Walk.{run}
use Rattle.sw_scope.specs.Events.{each}
use Rattle.sw_events.specs.Bodies.{branch_events, catch_events, stmt_events, switch_arm_events}
use Rattle.sw_events.proofs.statements.+stmt.Given as goal

abbrev pub invariant-walk_branches-loop-branch : goal.invariant-walk_branches-loop-branch
invariant-walk_branches-loop-branch l = l.seen ≡ run l.around (each branch_events (take l.branch-index l.branch-items)) l.initial.seen

abbrev pub invariant-walk_arms-loop-arm : goal.invariant-walk_arms-loop-arm
invariant-walk_arms-loop-arm l = l.seen ≡ run l.around (each switch_arm_events (take l.arm-index l.arm-items)) l.initial.seen

abbrev pub invariant-walk_catches-loop-catch : goal.invariant-walk_catches-loop-catch
invariant-walk_catches-loop-catch l = l.seen ≡ run l.around (each catch_events (take l.catch-index l.catch-items)) l.initial.seen

abbrev pub invariant-walk_statements-loop-x : goal.invariant-walk_statements-loop-x
invariant-walk_statements-loop-x l = l.seen ≡ run l.around (each stmt_events (take l.x-index l.x-items)) l.initial.seen
