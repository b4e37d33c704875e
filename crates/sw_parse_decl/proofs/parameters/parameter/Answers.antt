use Rattle.std.proofs.lemmas.Result.{err_from_is_err_and}
use Rattle.sw_syntax.proofs.MemberEquations as member
use Rattle.sw_syntax.proofs.Exits.{after, passes}
use Rattle.sw_parse_decl.proofs.parameters.parameter.Goals as goal

pub returns-in_err-names-clause-gives : goal.returns-in_err-names-clause-gives
returns-in_err-names-clause-gives c =
    let p = err_from_is_err_and c.from_residual.result c.from_residual.ensures.1 in
    rw (p.1, p.2) (passes _ _ _ _ _ (member.param_step _ _ _ _ _) (c.in_err-names.ensures.gives))

pub returns-in_err-colon_end-clause-gives : goal.returns-in_err-colon_end-clause-gives
returns-in_err-colon_end-clause-gives c =
    let p = err_from_is_err_and c.from_residual-in_err-colon_end.result c.from_residual-in_err-colon_end.ensures.1 in
    rw (p.1, p.2) (passes _ _ _ _ _ (after _ _ _ _ _ _ (member.param_step _ _ _ _ _) (c.in_ok-names.ensures.gives)) (c.in_err-colon_end.ensures.gives c.in_ok-names.left))

pub returns-in_err-declared-clause-gives : goal.returns-in_err-declared-clause-gives
returns-in_err-declared-clause-gives c =
    let p = err_from_is_err_and c.from_residual-in_err-declared.result c.from_residual-in_err-declared.ensures.1 in
    rw (p.1, p.2) (passes _ _ _ _ _ (after _ _ _ _ _ _ (after _ _ _ _ _ _ (after _ _ _ _ _ _ (member.param_step _ _ _ _ _) (c.in_ok-names.ensures.gives)) (c.in_ok-colon_end.ensures.gives c.in_ok-names.left)) (c.mark-inout.ensures.gives c.args.lenient c.args.budget.brackets c.args.budget.limit c.in_ok-names.left)) (c.in_err-declared.ensures.gives))

pub returns-clause-gives : goal.returns-clause-gives
returns-clause-gives c = after _ _ _ _ _ _ (after _ _ _ _ _ _ (after _ _ _ _ _ _ (after _ _ _ _ _ _ (after _ _ _ _ _ _ (member.param_step _ _ _ _ _) (c.in_ok-names.ensures.gives)) (c.in_ok-colon_end.ensures.gives c.in_ok-names.left)) (c.mark-inout.ensures.gives c.args.lenient c.args.budget.brackets c.args.budget.limit c.in_ok-names.left)) (c.in_ok-declared.ensures.gives)) (c.mark-variadic.ensures.gives c.args.lenient c.args.budget.brackets c.args.budget.limit c.in_ok-names.left)
