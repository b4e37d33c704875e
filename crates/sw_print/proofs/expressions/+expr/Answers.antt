use Rattle.std.proofs.Common.{◌++◌, ◌∷◌, [], refl, ap, ◌∙◌}
use Rattle.std.proofs.lemmas.Result.{IfOk-equal}
use Rattle.sw_layout.specs.declared.gap.Gap.TheVariants as gap
use Rattle.sw_lex.specs.declared.token.TokenKind.TheVariants as k
use Rattle.sw_layout.specs.Words.{words_text}
use Rattle.sw_print.specs.Expressions.{word, expr_words, argument_words}
use Rattle.sw_print.proofs.Lists.{joined_step_2, others_step, others_end}
use Rattle.sw_print.proofs.Pieces.{middle, string_whole, string_pieces}
use Rattle.sw_print.proofs.expressions.+expr.Goals as goal

pub write_elements-loop-element-preserved : goal.write_elements-loop-element-preserved
write_elements-loop-element-preserved t c =
    others_step expr_words _ _ _ _ _ _ _ c.loop-element-test.true c.element-item.is c.loop-element.invariant c.in_ok-plain-in-len1-up.ensures c.in_ok-write_expr-in-len1-up-2.ensures

pub write_elements-returns-after-loop-element : goal.write_elements-returns-after-loop-element
write_elements-returns-after-loop-element t c =
    others_end expr_words _ _ _ _ _ _ c.in-len1-up.len_at_least c.first-item.is c.in_ok-write_expr-in-len1-up.ensures c.loop-element.invariant c.loop-element-test.false

pub write_arguments-loop-argument-preserved : goal.write_arguments-loop-argument-preserved
write_arguments-loop-argument-preserved t c =
    others_step argument_words _ _ _ _ _ _ _ c.loop-argument-test.true c.argument-item.is c.loop-argument.invariant c.in_ok-plain-in-len1-up.ensures c.in_ok-write_argument-in-len1-up-2.ensures

pub write_arguments-returns-after-loop-argument : goal.write_arguments-returns-after-loop-argument
write_arguments-returns-after-loop-argument t c =
    others_end argument_words _ _ _ _ _ _ c.in-len1-up.len_at_least c.first-item.is c.in_ok-write_argument-in-len1-up.ensures c.loop-argument.invariant c.loop-argument-test.false

pub write_string-loop-piece-preserved : goal.write_string-loop-piece-preserved
write_string-loop-piece-preserved t c =
    joined_step_2 middle (λ piece. expr_words piece.value gap.Joined) (λ piece. word k.StringMiddle piece.text gap.Joined ∷ []) (λ piece. refl)
    _ _ _ _ _ _ _ c.loop-piece-test.true c.piece-item.is c.loop-piece.invariant c.in_ok-write_expr-in-len1-up.ensures (c.in_ok-word-in-len1-up-2.ensures ∙ ap (λ text. c.write_expr.new.page ++ words_text (word k.StringMiddle text gap.Joined ∷ [])) c.as_bytes.ensures)

pub write_string-returns-in-empty : goal.write_string-returns-in-empty
write_string-returns-in-empty t c = IfOk-equal c.word.result _ _ _ c.word.ensures (string_whole c.args.text.now c.args.pieces.now c.args.before c.args.page.now c.in-empty.len_below)

pub write_string-returns-in_ok-write_expr-in-len1-up-2 : goal.write_string-returns-in_ok-write_expr-in-len1-up-2
write_string-returns-in_ok-write_expr-in-len1-up-2 t c =
    IfOk-equal c.word-in-len1-up-2.result _ _ _ c.word-in-len1-up-2.ensures
    (ap (λ text. c.write_expr-in-len1-up.new.page ++ words_text (word k.StringLast text gap.Joined ∷ [])) c.as_bytes-in-len1-up.ensures
    ∙ string_pieces c.args.text.now c.args.pieces.now c.last-item.result c.loop-piece.piece-index c.args.before c.args.page.now c.word-in-len1-up.new.self c.loop-piece.page c.write_expr-in-len1-up.new.page
    c.in-len1-up.len_at_least c.last-item.is c.in_ok-word-in-len1-up.ensures c.loop-piece.invariant c.loop-piece-test.false c.in_ok-write_expr-in-len1-up-2.ensures)
