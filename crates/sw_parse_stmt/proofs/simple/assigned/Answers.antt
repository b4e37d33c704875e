use Rattle.std.proofs.Common.{drop, sym, ap, ◌∙◌}
use Rattle.std.proofs.lemmas.Result.{err_from_is_err_and}
use Rattle.sw_grammar.specs.Reading.{got}
use Rattle.sw_syntax.specs.Tests.{is_assignment}
use Rattle.sw_tree.specs.declared.stmt.Stmt.TheVariants as s
use Rattle.sw_syntax.proofs.Exits.{after, passes}
use Rattle.sw_syntax.proofs.StmtEquations as stmt
use Rattle.sw_parse_stmt.proofs.simple.assigned.Goals as goal

pub returns-then-not-is_target-clause-gives : goal.returns-then-not-is_target-clause-gives
returns-then-not-is_target-clause-gives c = stmt.assigned_no_place _ _ _ _ _ _ (sym c.is_target.ensures ∙ c.if-not-is_target.true)

pub returns-then-not-stands-clause-gives : goal.returns-then-not-stands-clause-gives
returns-then-not-stands-clause-gives c = stmt.assigned_none _ _ _ _ _ _ (sym c.stands.ensures.value ∙ c.if-not-stands.true)

pub returns-in_err-value-clause-gives : goal.returns-in_err-value-clause-gives
returns-in_err-value-clause-gives c =
    let p = err_from_is_err_and c.from_residual.result c.from_residual.ensures.1 in
    rw (p.1, p.2) (passes _ _ _ _ _ (stmt.assigned_some _ _ _ _ _ _ _ _ (sym c.is_target.ensures ∙ c.if-not-is_target.false) (sym c.stands.ensures.value ∙ c.if-not-stands.false) (c.take-next.ensures.taken is_assignment (sym c.stands.ensures.value ∙ c.if-not-stands.false))) (c.in_err-value.ensures.gives))

pub returns-clause-gives : goal.returns-clause-gives
returns-clause-gives c = after _ _ _ _ _ _ (stmt.assigned_some _ _ _ _ _ _ _ _ (sym c.is_target.ensures ∙ c.if-not-is_target.false) (sym c.stands.ensures.value ∙ c.if-not-stands.false) (c.take-next.ensures.taken is_assignment (sym c.stands.ensures.value ∙ c.if-not-stands.false))) (c.in_ok-value.ensures.gives) ∙ ap (λ o. got (s.Assign c.args.x o c.take-next.result.0.span c.in_ok-value.value) c.args.budget.left (drop c.in_ok-value.end c.args.view.now)) (sym c.assign_operator-operator.ensures)
