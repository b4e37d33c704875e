use Rattle.std.proofs.lemmas.Result.{err_from_is_err_and}
use Rattle.sw_syntax.proofs.MemberEquations as member
use Rattle.sw_syntax.proofs.Exits.{after, passes}
use Rattle.sw_parse_decl.proofs.members.func.Goals as goal

pub returns-in_err-signature-clause-gives : goal.returns-in_err-signature-clause-gives
returns-in_err-signature-clause-gives c =
    let p = err_from_is_err_and c.from_residual.result c.from_residual.ensures.1 in
    rw (p.1, p.2) (passes _ _ _ _ _ (member.member_func _ _ _ _ _ _ c.requires.1 c.requires.2 c.requires.3) (c.in_err-signature.ensures.gives))

pub returns-in_err-body-clause-gives : goal.returns-in_err-body-clause-gives
returns-in_err-body-clause-gives c =
    let p = err_from_is_err_and c.from_residual-in_err-body.result c.from_residual-in_err-body.ensures.1 in
    rw (p.1, p.2) (passes _ _ _ _ _ (after _ _ _ _ _ _ (member.member_func _ _ _ _ _ _ c.requires.1 c.requires.2 c.requires.3) (c.in_ok-signature.ensures.gives)) (c.in_err-body.ensures.gives))

pub returns-clause-gives : goal.returns-clause-gives
returns-clause-gives c = after _ _ _ _ _ _ (after _ _ _ _ _ _ (member.member_func _ _ _ _ _ _ c.requires.1 c.requires.2 c.requires.3) (c.in_ok-signature.ensures.gives)) (c.in_ok-body.ensures.gives)
