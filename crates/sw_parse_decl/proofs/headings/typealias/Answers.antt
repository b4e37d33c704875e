use Rattle.std.proofs.lemmas.Result.{err_from_is_err_and}
use Rattle.sw_syntax.proofs.DeclEquations as decl
use Rattle.sw_syntax.proofs.Exits.{after, passes}
use Rattle.sw_parse_decl.proofs.headings.typealias.Goals as goal

pub returns-in_err-mark-clause-gives : goal.returns-in_err-mark-clause-gives
returns-in_err-mark-clause-gives c =
    let p = err_from_is_err_and c.from_residual.result c.from_residual.ensures.1 in
    rw (p.1, p.2) (passes _ _ _ _ _ (decl.typealias_step _ _ _ _ _) (c.in_err-mark.ensures.gives c.args.budget.left))

pub returns-in_err-token-clause-gives : goal.returns-in_err-token-clause-gives
returns-in_err-token-clause-gives c =
    let p = err_from_is_err_and c.from_residual-in_err-token.result c.from_residual-in_err-token.ensures.1 in
    rw (p.1, p.2) (passes _ _ _ _ _ (after _ _ _ _ _ _ (decl.typealias_step _ _ _ _ _) (c.in_ok-mark.ensures.gives c.args.budget.left)) (c.in_err-token.ensures.gives c.args.budget.left))

pub returns-in_err-assign_end-clause-gives : goal.returns-in_err-assign_end-clause-gives
returns-in_err-assign_end-clause-gives c =
    let p = err_from_is_err_and c.from_residual-in_err-assign_end.result c.from_residual-in_err-assign_end.ensures.1 in
    rw (p.1, p.2) (passes _ _ _ _ _ (after _ _ _ _ _ _ (after _ _ _ _ _ _ (decl.typealias_step _ _ _ _ _) (c.in_ok-mark.ensures.gives c.args.budget.left)) (c.in_ok-token.ensures.gives c.args.budget.left)) (c.in_err-assign_end.ensures.gives c.args.budget.left))

pub returns-in_err-target-clause-gives : goal.returns-in_err-target-clause-gives
returns-in_err-target-clause-gives c =
    let p = err_from_is_err_and c.from_residual-in_err-target.result c.from_residual-in_err-target.ensures.1 in
    rw (p.1, p.2) (passes _ _ _ _ _ (after _ _ _ _ _ _ (after _ _ _ _ _ _ (after _ _ _ _ _ _ (decl.typealias_step _ _ _ _ _) (c.in_ok-mark.ensures.gives c.args.budget.left)) (c.in_ok-token.ensures.gives c.args.budget.left)) (c.in_ok-assign_end.ensures.gives c.args.budget.left)) (c.in_err-target.ensures.gives))

pub returns-clause-gives : goal.returns-clause-gives
returns-clause-gives c = rw (c.in_ok-name.ensures) (after _ _ _ _ _ _ (after _ _ _ _ _ _ (after _ _ _ _ _ _ (after _ _ _ _ _ _ (decl.typealias_step _ _ _ _ _) (c.in_ok-mark.ensures.gives c.args.budget.left)) (c.in_ok-token.ensures.gives c.args.budget.left)) (c.in_ok-assign_end.ensures.gives c.args.budget.left)) (c.in_ok-target.ensures.gives))
