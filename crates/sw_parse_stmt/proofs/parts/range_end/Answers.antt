use Rattle.std.proofs.Common.{sym, ◌∙◌}
use Rattle.std.proofs.lemmas.Result.{err_from_is_err_and}
use Rattle.sw_syntax.specs.Tests.{is_range}
use Rattle.sw_syntax.proofs.Exits.{after, passes}
use Rattle.sw_syntax.proofs.StmtEquations as stmt
use Rattle.sw_parse_stmt.proofs.Exits.{range_end}
use Rattle.sw_parse_stmt.proofs.parts.range_end.Goals as goal

pub returns-then-not-stands-clause-gives : goal.returns-then-not-stands-clause-gives
returns-then-not-stands-clause-gives c = stmt.range_none _ _ _ _ _ (sym c.stands.ensures.value ∙ c.if-not-stands.true)

pub returns-in_err-value-clause-gives : goal.returns-in_err-value-clause-gives
returns-in_err-value-clause-gives c =
    let p = err_from_is_err_and c.from_residual.result c.from_residual.ensures.1 in
    rw (p.1, p.2) (passes _ _ _ _ _ (stmt.range_some _ _ _ _ _ _ _ (sym c.stands.ensures.value ∙ c.if-not-stands.false) (c.take-next.ensures.taken is_range (sym c.stands.ensures.value ∙ c.if-not-stands.false))) (c.in_err-value.ensures.gives))

pub returns-clause-gives : goal.returns-clause-gives
returns-clause-gives c = after _ _ _ _ _ _ (stmt.range_some _ _ _ _ _ _ _ (sym c.stands.ensures.value ∙ c.if-not-stands.false) (c.take-next.ensures.taken is_range (sym c.stands.ensures.value ∙ c.if-not-stands.false))) (c.in_ok-value.ensures.gives) ∙ range_end _ _ _ _ _ _ c.range_operator-operator.ensures
