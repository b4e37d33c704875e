use Rattle.std.proofs.Common.{◌≡◌, take}
use Rattle.sw_scope.specs.Walk.{run}
use Rattle.sw_scope.specs.Events.{each}
use Rattle.sw_events.specs.Bodies.{argument_events, expr_events, piece_events}
use Rattle.sw_events.proofs.expressions.+expr.Given as goal

abbrev pub invariant-walk_arguments-loop-argument : goal.invariant-walk_arguments-loop-argument
invariant-walk_arguments-loop-argument l = l.seen ≡ run l.around (each argument_events (take l.argument-index l.argument-items)) l.initial.seen

abbrev pub invariant-walk_elements-loop-element : goal.invariant-walk_elements-loop-element
invariant-walk_elements-loop-element l = l.seen ≡ run l.around (each expr_events (take l.element-index l.elements)) l.initial.seen

abbrev pub invariant-walk_pieces-loop-piece : goal.invariant-walk_pieces-loop-piece
invariant-walk_pieces-loop-piece l = l.seen ≡ run l.around (each piece_events (take l.piece-index l.pieces)) l.initial.seen
