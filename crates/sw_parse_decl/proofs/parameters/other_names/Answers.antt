use Rattle.std.proofs.lemmas.Result.{err_from_is_err_and}
use Rattle.sw_syntax.proofs.MemberEquations as member
use Rattle.sw_syntax.proofs.Exits.{after, passes}
use Rattle.sw_parse_decl.proofs.parameters.other_names.Goals as goal

pub returns-in_err-other-clause-gives : goal.returns-in_err-other-clause-gives
returns-in_err-other-clause-gives c =
    let p = err_from_is_err_and c.from_residual.result c.from_residual.ensures.1 in
    rw (p.1, p.2) (passes _ _ _ _ _ (member.param_other _ _ _ _ _ c.requires) (c.in_err-other.ensures.gives c.args.budget.left))

pub returns-in_err-own-clause-gives : goal.returns-in_err-own-clause-gives
returns-in_err-own-clause-gives c =
    let p = err_from_is_err_and c.from_residual-in_err-own.result c.from_residual-in_err-own.ensures.1 in
    rw (p.1, p.2) (passes _ _ _ _ _ (after _ _ _ _ _ _ (member.param_other _ _ _ _ _ c.requires) (c.in_ok-other.ensures.gives c.args.budget.left)) (c.in_err-own.ensures.gives c.args.budget.left))

pub returns-clause-gives : goal.returns-clause-gives
returns-clause-gives c = rw (c.in_ok-label.ensures) (rw (c.in_ok-name.ensures) (after _ _ _ _ _ _ (after _ _ _ _ _ _ (member.param_other _ _ _ _ _ c.requires) (c.in_ok-other.ensures.gives c.args.budget.left)) (c.in_ok-own.ensures.gives c.args.budget.left)))
