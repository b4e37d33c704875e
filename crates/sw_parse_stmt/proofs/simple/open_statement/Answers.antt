use Rattle.std.proofs.Common.{sym, ◌∙◌}
use Rattle.std.proofs.lemmas.Result.{err_from_is_err_and}
use Rattle.sw_syntax.proofs.Exits.{after, passes}
use Rattle.sw_syntax.proofs.StmtEquations as stmt
use Rattle.sw_parse_stmt.proofs.simple.open_statement.Goals as goal

pub returns-in_err-token-clause-gives : goal.returns-in_err-token-clause-gives
returns-in_err-token-clause-gives c =
    let p = err_from_is_err_and c.from_residual.result c.from_residual.ensures.1 in
    rw (p.1, p.2) (passes _ _ _ _ _ (stmt.open_throw _ _ _ _ _ (sym c.is.ensures.value ∙ c.if-is.false) (sym c.is-2.ensures.value ∙ c.if-is-2.false) (sym c.is-3.ensures.value ∙ c.if-is-3.false)) (c.in_err-token.ensures.gives c.args.budget.left))

pub returns-in_err-x-clause-gives : goal.returns-in_err-x-clause-gives
returns-in_err-x-clause-gives c =
    let p = err_from_is_err_and c.from_residual-in_err-x.result c.from_residual-in_err-x.ensures.1 in
    rw (p.1, p.2) (passes _ _ _ _ _ (after _ _ _ _ _ _ (stmt.open_throw _ _ _ _ _ (sym c.is.ensures.value ∙ c.if-is.false) (sym c.is-2.ensures.value ∙ c.if-is-2.false) (sym c.is-3.ensures.value ∙ c.if-is-3.false)) (c.in_ok-token.ensures.gives c.args.budget.left)) (c.in_err-x.ensures.gives))

pub returns-clause-gives : goal.returns-clause-gives
returns-clause-gives c = after _ _ _ _ _ _ (after _ _ _ _ _ _ (stmt.open_throw _ _ _ _ _ (sym c.is.ensures.value ∙ c.if-is.false) (sym c.is-2.ensures.value ∙ c.if-is-2.false) (sym c.is-3.ensures.value ∙ c.if-is-3.false)) (c.in_ok-token.ensures.gives c.args.budget.left)) (c.in_ok-x.ensures.gives)
