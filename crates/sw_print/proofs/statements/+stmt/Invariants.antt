use Rattle.std.proofs.Common.{◌≡◌, ◌++◌, take}
use Rattle.sw_layout.specs.declared.gap.Gap.TheVariants as gap
use Rattle.sw_layout.specs.Words.{words_text}
use Rattle.sw_print.specs.Statements.{stmt_words, arm_words, catch_words, separated}
use Rattle.sw_print.proofs.Lists.{joined}
use Rattle.sw_print.proofs.Blocks.{else_if}
use Rattle.sw_print.proofs.statements.+stmt.Given as goal

abbrev pub invariant-write_else_ifs-loop-branch : goal.invariant-write_else_ifs-loop-branch
invariant-write_else_ifs-loop-branch l = l.page ≡ l.initial.page ++ words_text (joined else_if (take l.branch-index l.branches))

abbrev pub invariant-write_stmt-loop-arm : goal.invariant-write_stmt-loop-arm
invariant-write_stmt-loop-arm l = l.page ≡ l.initial.page ++ words_text (joined (λ arm. arm_words arm gap.Line) (take l.arm-index l.arm-items))

abbrev pub invariant-write_catches-loop-catch : goal.invariant-write_catches-loop-catch
invariant-write_catches-loop-catch l = l.page ≡ l.initial.page ++ words_text (joined (λ catch. catch_words catch gap.Space) (take l.catch-index l.catches))

abbrev pub invariant-write_statements-loop-other : goal.invariant-write_statements-loop-other
invariant-write_statements-loop-other l = l.page ≡ l.initial.page ++ words_text (joined (λ x. separated (stmt_words x)) (take l.other-index l.others))
