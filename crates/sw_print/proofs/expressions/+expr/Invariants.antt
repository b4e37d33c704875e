use Rattle.std.proofs.Common.{◌≡◌, ◌++◌, take}
use Rattle.sw_layout.specs.Words.{words_text}
use Rattle.sw_print.specs.Expressions.{expr_words, argument_words}
use Rattle.sw_print.proofs.Lists.{joined, other}
use Rattle.sw_print.proofs.Pieces.{middle}
use Rattle.sw_print.proofs.expressions.+expr.Given as goal

abbrev pub invariant-write_elements-loop-element : goal.invariant-write_elements-loop-element
invariant-write_elements-loop-element l = l.page ≡ l.initial.page ++ words_text (joined (other expr_words) (take l.element-index l.others))

abbrev pub invariant-write_arguments-loop-argument : goal.invariant-write_arguments-loop-argument
invariant-write_arguments-loop-argument l = l.page ≡ l.initial.page ++ words_text (joined (other argument_words) (take l.argument-index l.others))

abbrev pub invariant-write_string-loop-piece : goal.invariant-write_string-loop-piece
invariant-write_string-loop-piece l = l.page ≡ l.initial.page ++ words_text (joined middle (take l.piece-index l.pieces))
