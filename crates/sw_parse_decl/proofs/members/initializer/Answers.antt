use Rattle.std.proofs.lemmas.Result.{err_from_is_err_and}
use Rattle.sw_syntax.proofs.MemberEquations as member
use Rattle.sw_syntax.proofs.Exits.{after, passes}
use Rattle.sw_parse_decl.proofs.members.initializer.Goals as goal

pub returns-in_err-mark-clause-gives : goal.returns-in_err-mark-clause-gives
returns-in_err-mark-clause-gives c =
    let p = err_from_is_err_and c.from_residual.result c.from_residual.ensures.1 in
    rw (p.1, p.2) (passes _ _ _ _ _ (member.member_init _ _ _ _ _ _ c.requires.1 c.requires.2 c.requires.3) (c.in_err-mark.ensures.gives c.args.budget.left))

pub returns-in_err-parameters-clause-gives : goal.returns-in_err-parameters-clause-gives
returns-in_err-parameters-clause-gives c =
    let p = err_from_is_err_and c.from_residual-in_err-parameters.result c.from_residual-in_err-parameters.ensures.1 in
    rw (p.1, p.2) (passes _ _ _ _ _ (after _ _ _ _ _ _ (member.member_init _ _ _ _ _ _ c.requires.1 c.requires.2 c.requires.3) (c.in_ok-mark.ensures.gives c.args.budget.left)) (c.in_err-parameters.ensures.gives))

pub returns-in_err-body-clause-gives : goal.returns-in_err-body-clause-gives
returns-in_err-body-clause-gives c =
    let p = err_from_is_err_and c.from_residual-in_err-body.result c.from_residual-in_err-body.ensures.1 in
    rw (p.1, p.2) (passes _ _ _ _ _ (after _ _ _ _ _ _ (after _ _ _ _ _ _ (after _ _ _ _ _ _ (member.member_init _ _ _ _ _ _ c.requires.1 c.requires.2 c.requires.3) (c.in_ok-mark.ensures.gives c.args.budget.left)) (c.in_ok-parameters.ensures.gives)) (c.flag-throws.ensures.gives c.args.lenient c.args.budget.brackets c.args.budget.limit c.in_ok-parameters.left)) (c.in_err-body.ensures.gives))

pub returns-clause-gives : goal.returns-clause-gives
returns-clause-gives c = after _ _ _ _ _ _ (after _ _ _ _ _ _ (after _ _ _ _ _ _ (after _ _ _ _ _ _ (member.member_init _ _ _ _ _ _ c.requires.1 c.requires.2 c.requires.3) (c.in_ok-mark.ensures.gives c.args.budget.left)) (c.in_ok-parameters.ensures.gives)) (c.flag-throws.ensures.gives c.args.lenient c.args.budget.brackets c.args.budget.limit c.in_ok-parameters.left)) (c.in_ok-body.ensures.gives)
