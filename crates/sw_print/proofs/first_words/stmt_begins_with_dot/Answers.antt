use Rattle.std.proofs.Common.{[], sym, ap, ◌∙◌, append-nil, inl, inr}
use Rattle.sw_layout.specs.declared.gap.Gap.TheVariants as gap
use Rattle.sw_print.specs.Statements.{begins_with_dot, stmt_words}
use Rattle.sw_print.proofs.StmtWords.{of_assign, of_expr}
use Rattle.sw_print.proofs.first_words.stmt_begins_with_dot.Goals as goal

pub returns-in-Assign : goal.returns-in-Assign
returns-in-Assign c =
    elim c.in-Assign.is [
      | inl w ↦ ap (λ x. begins_with_dot (stmt_words x gap.Line)) w.3 ∙ ap begins_with_dot (of_assign c.in-Assign.first w.0 w.1 w.2 gap.Line) ∙ c.begins_with_dot.ensures _
      | inr w ↦ ap (λ x. begins_with_dot (stmt_words x gap.Line)) w ∙ ap begins_with_dot (of_expr c.in-Assign.first gap.Line ∙ sym (append-nil _)) ∙ c.begins_with_dot.ensures []
    ]
