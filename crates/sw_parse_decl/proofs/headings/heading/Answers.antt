use Rattle.std.proofs.lemmas.Result.{err_from_is_err_and}
use Rattle.sw_syntax.proofs.DeclEquations as decl
use Rattle.sw_syntax.proofs.Exits.{after, passes}
use Rattle.sw_parse_decl.proofs.headings.heading.Goals as goal

pub returns-in_err-token-clause-gives : goal.returns-in_err-token-clause-gives
returns-in_err-token-clause-gives c =
    let p = err_from_is_err_and c.from_residual.result c.from_residual.ensures.1 in
    rw (p.1, p.2) (passes _ _ _ _ _ (decl.heading_step _ _ _ _ _ _) (c.in_err-token.ensures.gives c.args.budget.left))

pub returns-in_err-conformances-clause-gives : goal.returns-in_err-conformances-clause-gives
returns-in_err-conformances-clause-gives c =
    let p = err_from_is_err_and c.from_residual-in_err-conformances.result c.from_residual-in_err-conformances.ensures.1 in
    rw (p.1, p.2) (passes _ _ _ _ _ (after _ _ _ _ _ _ (decl.heading_step _ _ _ _ _ _) (c.in_ok-token.ensures.gives c.args.budget.left)) (c.in_err-conformances.ensures.gives))

pub returns-clause-gives : goal.returns-clause-gives
returns-clause-gives c = rw (c.in_ok-name.ensures) (after _ _ _ _ _ _ (after _ _ _ _ _ _ (decl.heading_step _ _ _ _ _ _) (c.in_ok-token.ensures.gives c.args.budget.left)) (c.in_ok-conformances.ensures.gives))
