use Rattle.std.proofs.Common.{sym, ◌∙◌}
use Rattle.std.proofs.lemmas.Result.{err_from_is_err_and}
use Rattle.sw_syntax.proofs.IfEquations as cond
use Rattle.sw_syntax.proofs.Exits.{after, passes}
use Rattle.sw_parse_expr.proofs.Exits.{bound_node}
use Rattle.sw_parse_expr.proofs.conditions.condition.Goals as goal

pub returns-in_err-x-clause-gives : goal.returns-in_err-x-clause-gives
returns-in_err-x-clause-gives c =
    let p = err_from_is_err_and c.from_residual.result c.from_residual.ensures.1 in
    rw (p.1, p.2) (passes _ _ _ _ _ (cond.cond_expr _ _ _ _ _ (sym c.is.ensures.value ∙ c.if-is.true)) (c.in_err-x.ensures.gives))

pub returns-then-is-clause-gives : goal.returns-then-is-clause-gives
returns-then-is-clause-gives c = after _ _ _ _ _ _ (cond.cond_expr _ _ _ _ _ (sym c.is.ensures.value ∙ c.if-is.true)) (c.in_ok-x.ensures.gives)

pub returns-in_err-mark-clause-gives : goal.returns-in_err-mark-clause-gives
returns-in_err-mark-clause-gives c =
    let p = err_from_is_err_and c.from_residual-in_err-mark.result c.from_residual-in_err-mark.ensures.1 in
    rw (p.1, p.2) (passes _ _ _ _ _ (cond.cond_bind _ _ _ _ _ (sym c.is.ensures.value ∙ c.if-is.false)) (c.in_err-mark.ensures.gives c.args.budget.left))

pub returns-in_err-token-clause-gives : goal.returns-in_err-token-clause-gives
returns-in_err-token-clause-gives c =
    let p = err_from_is_err_and c.from_residual-in_err-token.result c.from_residual-in_err-token.ensures.1 in
    rw (p.1, p.2) (passes _ _ _ _ _ (after _ _ _ _ _ _ (cond.cond_bind _ _ _ _ _ (sym c.is.ensures.value ∙ c.if-is.false)) (c.in_ok-mark.ensures.gives c.args.budget.left)) (c.in_err-token.ensures.gives c.args.budget.left))

pub returns-in_err-x-2-clause-gives : goal.returns-in_err-x-2-clause-gives
returns-in_err-x-2-clause-gives c =
    let p = err_from_is_err_and c.from_residual-in_err-x-2.result c.from_residual-in_err-x-2.ensures.1 in
    rw (p.1, p.2) (passes _ _ _ _ _ (after _ _ _ _ _ _ (after _ _ _ _ _ _ (cond.cond_bind _ _ _ _ _ (sym c.is.ensures.value ∙ c.if-is.false)) (c.in_ok-mark.ensures.gives c.args.budget.left)) (c.in_ok-token.ensures.gives c.args.budget.left)) (c.in_err-x-2.ensures.gives))

pub returns-clause-gives : goal.returns-clause-gives
returns-clause-gives c = after _ _ _ _ _ _ (after _ _ _ _ _ _ (after _ _ _ _ _ _ (cond.cond_bind _ _ _ _ _ (sym c.is.ensures.value ∙ c.if-is.false)) (c.in_ok-mark.ensures.gives c.args.budget.left)) (c.in_ok-token.ensures.gives c.args.budget.left)) (c.in_ok-x-2.ensures.gives)
    ∙ bound_node _ _ _ _ _ _ _ c.binding.ensures c.in_ok-name.ensures
