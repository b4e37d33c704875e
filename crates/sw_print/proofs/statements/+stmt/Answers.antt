use Rattle.std.proofs.Common.{[], ◌∷◌, ◌++◌, refl, sym, ap, ◌∙◌, append-nil}
use Rattle.std.proofs.lemmas.Result.{IfOk-equal}
use Rattle.sw_lex.specs.declared.token.TokenKind.TheVariants as k
use Rattle.sw_layout.specs.declared.gap.Gap.TheVariants as gap
use Rattle.sw_layout.specs.Words.{plain, words_text}
use Rattle.sw_print.specs.Expressions.{perhaps}
use Rattle.sw_print.specs.Statements.{stmt_words, arm_words, block_words, branch_words, catch_words, separated}
use Rattle.sw_print.proofs.Lists.{joined_step, joined_step_2, joined_end}
use Rattle.sw_print.proofs.Blocks.{else_if, else_ifs_joined, catches_joined, followed_end, switch_rest}
use Rattle.sw_print.proofs.StmtWords.{if_rest}
use Rattle.sw_print.proofs.statements.+stmt.Goals as goal

pub write_else_ifs-loop-branch-preserved : goal.write_else_ifs-loop-branch-preserved
write_else_ifs-loop-branch-preserved t c =
    joined_step_2 else_if (λ x. plain k.Else gap.Space ∷ []) (λ x. branch_words x gap.Space) (λ x. refl)
    _ _ _ _ _ _ _ c.loop-branch-test.true c.branch-item.is c.loop-branch.invariant c.in_ok-plain.ensures c.in_ok-write_branch.ensures

pub write_else_ifs-returns : goal.write_else_ifs-returns
write_else_ifs-returns t c =
    joined_end else_if _ _ _ _ c.loop-branch.invariant c.loop-branch-test.false ∙ ap (λ l. c.args.page.now ++ words_text l) (else_ifs_joined c.args.branches.now)

pub write_catches-loop-catch-preserved : goal.write_catches-loop-catch-preserved
write_catches-loop-catch-preserved t c = joined_step (λ x. catch_words x gap.Space) _ _ _ _ _ _ c.loop-catch-test.true c.catch-item.is c.loop-catch.invariant c.in_ok-write_catch.ensures

pub write_catches-returns : goal.write_catches-returns
write_catches-returns t c =
    joined_end (λ x. catch_words x gap.Space) _ _ _ _ c.loop-catch.invariant c.loop-catch-test.false ∙ ap (λ l. c.args.page.now ++ words_text l) (catches_joined catch_words c.args.catches.now)

pub write_statements-loop-other-preserved : goal.write_statements-loop-other-preserved
write_statements-loop-other-preserved t c =
    joined_step (λ x. separated (stmt_words x)) _ _ _ _ _ _ c.loop-other-test.true c.other-item.is c.loop-other.invariant c.in_ok-write_separated-in-len1-up.ensures

pub write_statements-returns-after-loop-other : goal.write_statements-returns-after-loop-other
write_statements-returns-after-loop-other t c =
    followed_end stmt_words _ _ _ _ _ _ c.in-len1-up.len_at_least c.first-item.is c.in_ok-write_stmt-in-len1-up.ensures c.loop-other.invariant c.loop-other-test.false

pub write_stmt-returns-in-None : goal.write_stmt-returns-in-None
write_stmt-returns-in-None t c =
    sym (append-nil _) ∙ ap (λ o. c.write_else_ifs.new.page ++ words_text (perhaps (λ body. plain k.Else gap.Space ∷ block_words body) o)) (sym c.in-None.is)
    ∙ if_rest c.args.x.now c.in-If.first c.in-If.others c.as_slice.result.now c.in-If.otherwise c.args.before c.args.page.now c.write_branch.new.page c.write_else_ifs.new.page
    c.in-If.is c.as_slice.ensures c.in_ok-write_branch-in-If.ensures c.in_ok-write_else_ifs-in-If.ensures

pub write_stmt-returns-in-Some : goal.write_stmt-returns-in-Some
write_stmt-returns-in-Some t c =
    IfOk-equal c.write_else.result _ _ _ c.write_else.ensures
    (ap (λ body. c.write_else_ifs.new.page ++ words_text (plain k.Else gap.Space ∷ block_words body)) c.as_slice-in-Some.ensures
    ∙ ap (λ o. c.write_else_ifs.new.page ++ words_text (perhaps (λ body. plain k.Else gap.Space ∷ block_words body) o)) (sym c.in-Some.is)
    ∙ if_rest c.args.x.now c.in-If.first c.in-If.others c.as_slice.result.now c.in-If.otherwise c.args.before c.args.page.now c.write_branch.new.page c.write_else_ifs.new.page
    c.in-If.is c.as_slice.ensures c.in_ok-write_branch-in-If.ensures c.in_ok-write_else_ifs-in-If.ensures)

pub write_stmt-loop-arm-init : goal.write_stmt-loop-arm-init
write_stmt-loop-arm-init t c = sym (append-nil _)

pub write_stmt-loop-arm-preserved : goal.write_stmt-loop-arm-preserved
write_stmt-loop-arm-preserved t c = joined_step (λ x. arm_words x gap.Line) _ _ _ _ _ _ c.loop-arm-test.true c.arm-item.is c.loop-arm.invariant c.in_ok-write_arm-in-Switch.ensures

pub write_stmt-returns-after-loop-arm : goal.write_stmt-returns-after-loop-arm
write_stmt-returns-after-loop-arm t c =
    IfOk-equal c.plain-in-Switch-2.result _ _ _ c.plain-in-Switch-2.ensures
    (switch_rest c.args.x.now c.in-Switch.field-0 c.in-Switch.subject c.in-Switch.arms c.as_slice-arm-items.result.now c.loop-arm.arm-index c.args.before
    c.args.page.now c.write_with_value.new.page c.plain-in-Switch.new.self c.loop-arm.page
    c.in-Switch.is c.as_slice-arm-items.ensures c.in_ok-write_with_value-in-Switch.ensures c.in_ok-plain-in-Switch.ensures c.loop-arm.invariant c.loop-arm-test.false)
