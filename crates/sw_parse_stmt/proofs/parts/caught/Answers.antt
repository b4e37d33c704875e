use Rattle.std.proofs.Common.{sym, ◌∙◌}
use Rattle.std.proofs.lemmas.Result.{err_from_is_err_and}
use Rattle.sw_syntax.proofs.Exits.{after, passes}
use Rattle.sw_syntax.proofs.StmtEquations as stmt
use Rattle.sw_parse_stmt.proofs.parts.caught.Goals as goal

pub returns-then-not-stands-clause-gives : goal.returns-then-not-stands-clause-gives
returns-then-not-stands-clause-gives c = stmt.catch_pattern_none _ _ _ _ _ (sym c.stands.ensures.value ∙ c.if-not-stands.true)

pub returns-in_err-x-clause-gives : goal.returns-in_err-x-clause-gives
returns-in_err-x-clause-gives c =
    let p = err_from_is_err_and c.from_residual.result c.from_residual.ensures.1 in
    rw (p.1, p.2) (passes _ _ _ _ _ (stmt.catch_pattern_some _ _ _ _ _ (sym c.stands.ensures.value ∙ c.if-not-stands.false)) (c.in_err-x.ensures.gives))

pub returns-clause-gives : goal.returns-clause-gives
returns-clause-gives c = after _ _ _ _ _ _ (stmt.catch_pattern_some _ _ _ _ _ (sym c.stands.ensures.value ∙ c.if-not-stands.false)) (c.in_ok-x.ensures.gives)
