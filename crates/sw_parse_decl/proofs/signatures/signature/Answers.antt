use Rattle.std.proofs.lemmas.Result.{err_from_is_err_and}
use Rattle.sw_syntax.proofs.DeclEquations as decl
use Rattle.sw_syntax.proofs.Exits.{after, passes}
use Rattle.sw_parse_decl.proofs.signatures.signature.Goals as goal

pub returns-in_err-name_at-clause-gives : goal.returns-in_err-name_at-clause-gives
returns-in_err-name_at-clause-gives c =
    let p = err_from_is_err_and c.from_residual.result c.from_residual.ensures.1 in
    rw (p.1, p.2) (passes _ _ _ _ _ (decl.signature_step _ _ _ _ _ _) (c.in_err-name_at.ensures.gives c.args.budget.left))

pub returns-in_err-token-clause-gives : goal.returns-in_err-token-clause-gives
returns-in_err-token-clause-gives c =
    let p = err_from_is_err_and c.from_residual-in_err-token.result c.from_residual-in_err-token.ensures.1 in
    rw (p.1, p.2) (passes _ _ _ _ _ (after _ _ _ _ _ _ (decl.signature_step _ _ _ _ _ _) (c.in_ok-name_at.ensures.gives c.args.budget.left)) (c.in_err-token.ensures.gives c.args.budget.left))

pub returns-in_err-parameters-clause-gives : goal.returns-in_err-parameters-clause-gives
returns-in_err-parameters-clause-gives c =
    let p = err_from_is_err_and c.from_residual-in_err-parameters.result c.from_residual-in_err-parameters.ensures.1 in
    rw (p.1, p.2) (passes _ _ _ _ _ (after _ _ _ _ _ _ (after _ _ _ _ _ _ (decl.signature_step _ _ _ _ _ _) (c.in_ok-name_at.ensures.gives c.args.budget.left)) (c.in_ok-token.ensures.gives c.args.budget.left)) (c.in_err-parameters.ensures.gives))

pub returns-in_err-returned-clause-gives : goal.returns-in_err-returned-clause-gives
returns-in_err-returned-clause-gives c =
    let p = err_from_is_err_and c.from_residual-in_err-returned.result c.from_residual-in_err-returned.ensures.1 in
    rw (p.1, p.2) (passes _ _ _ _ _ (after _ _ _ _ _ _ (after _ _ _ _ _ _ (after _ _ _ _ _ _ (after _ _ _ _ _ _ (after _ _ _ _ _ _ (decl.signature_step _ _ _ _ _ _) (c.in_ok-name_at.ensures.gives c.args.budget.left)) (c.in_ok-token.ensures.gives c.args.budget.left)) (c.in_ok-parameters.ensures.gives)) (c.flag-is_async.ensures.gives c.args.lenient c.args.budget.brackets c.args.budget.limit c.in_ok-parameters.left)) (c.flag-throws.ensures.gives c.args.lenient c.args.budget.brackets c.args.budget.limit c.in_ok-parameters.left)) (c.in_err-returned.ensures.gives))

pub returns-clause-gives : goal.returns-clause-gives
returns-clause-gives c = rw (c.in_ok-name.ensures) (rw (c.new-type_parameters.ensures) (after _ _ _ _ _ _ (after _ _ _ _ _ _ (after _ _ _ _ _ _ (after _ _ _ _ _ _ (after _ _ _ _ _ _ (after _ _ _ _ _ _ (decl.signature_step _ _ _ _ _ _) (c.in_ok-name_at.ensures.gives c.args.budget.left)) (c.in_ok-token.ensures.gives c.args.budget.left)) (c.in_ok-parameters.ensures.gives)) (c.flag-is_async.ensures.gives c.args.lenient c.args.budget.brackets c.args.budget.limit c.in_ok-parameters.left)) (c.flag-throws.ensures.gives c.args.lenient c.args.budget.brackets c.args.budget.limit c.in_ok-parameters.left)) (c.in_ok-returned.ensures.gives)))
