use Rattle.std.proofs.Common.{◌∙◌, ap}
use Rattle.sw_scope.specs.Walk.{run}
use Rattle.sw_scope.specs.Events.{each}
use Rattle.sw_events.proofs.Runs.{each_start, each_step, each_end}
use Rattle.sw_events.specs.Bodies.{argument_events, expr_events, piece_events}
use Rattle.sw_events.proofs.expressions.+expr.Goals as goal

pub walk_arguments-loop-argument-init : goal.walk_arguments-loop-argument-init
walk_arguments-loop-argument-init t c = each_start argument_events _ _ c.as_slice-argument-items.result.now

pub walk_arguments-loop-argument-preserved : goal.walk_arguments-loop-argument-preserved
walk_arguments-loop-argument-preserved t c = each_step argument_events _ _ _ _ _ _ _ c.loop-argument-test.true c.argument-item.is c.loop-argument.invariant c.in_ok-expr.ensures

pub walk_arguments-returns : goal.walk_arguments-returns
walk_arguments-returns t c =
    each_end argument_events _ _ _ _ _ c.loop-argument.invariant c.loop-argument-test.false
    ∙ ap (λ xs. run c.args.around.now (each argument_events xs) c.args.seen.now) c.as_slice-argument-items.ensures

pub walk_elements-loop-element-init : goal.walk_elements-loop-element-init
walk_elements-loop-element-init t c = each_start expr_events _ _ c.args.elements.now

pub walk_elements-loop-element-preserved : goal.walk_elements-loop-element-preserved
walk_elements-loop-element-preserved t c = each_step expr_events _ _ _ _ _ _ _ c.loop-element-test.true c.element-item.is c.loop-element.invariant c.in_ok-expr.ensures

pub walk_elements-returns : goal.walk_elements-returns
walk_elements-returns t c = each_end expr_events _ _ _ _ _ c.loop-element.invariant c.loop-element-test.false

pub walk_pieces-loop-piece-init : goal.walk_pieces-loop-piece-init
walk_pieces-loop-piece-init t c = each_start piece_events _ _ c.args.pieces.now

pub walk_pieces-loop-piece-preserved : goal.walk_pieces-loop-piece-preserved
walk_pieces-loop-piece-preserved t c = each_step piece_events _ _ _ _ _ _ _ c.loop-piece-test.true c.piece-item.is c.loop-piece.invariant c.in_ok-expr.ensures

pub walk_pieces-returns : goal.walk_pieces-returns
walk_pieces-returns t c = each_end piece_events _ _ _ _ _ c.loop-piece.invariant c.loop-piece-test.false
