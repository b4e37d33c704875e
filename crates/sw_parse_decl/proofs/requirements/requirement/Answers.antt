use Rattle.std.proofs.Common.{sym, ◌∙◌}
use Rattle.std.proofs.lemmas.Result.{err_from_is_err_and}
use Rattle.sw_syntax.proofs.MemberEquations as member
use Rattle.sw_syntax.proofs.Exits.{after, passes}
use Rattle.sw_parse_decl.proofs.requirements.requirement.Goals as goal

pub returns-in_err-modifiers-clause-gives : goal.returns-in_err-modifiers-clause-gives
returns-in_err-modifiers-clause-gives c =
    let p = err_from_is_err_and c.from_residual.result c.from_residual.ensures.1 in
    rw (p.1, p.2) (passes _ _ _ _ _ (member.requirement_func _ _ _ _ _ (sym c.is.ensures.value ∙ c.if-is.false)) (c.in_err-modifiers.ensures.gives))

pub returns-in_err-x-clause-gives : goal.returns-in_err-x-clause-gives
returns-in_err-x-clause-gives c =
    let p = err_from_is_err_and c.from_residual-in_err-x.result c.from_residual-in_err-x.ensures.1 in
    rw (p.1, p.2) (passes _ _ _ _ _ (after _ _ _ _ _ _ (member.requirement_func _ _ _ _ _ (sym c.is.ensures.value ∙ c.if-is.false)) (c.in_ok-modifiers.ensures.gives)) (c.in_err-x.ensures.gives))

pub returns-clause-gives : goal.returns-clause-gives
returns-clause-gives c = after _ _ _ _ _ _ (after _ _ _ _ _ _ (member.requirement_func _ _ _ _ _ (sym c.is.ensures.value ∙ c.if-is.false)) (c.in_ok-modifiers.ensures.gives)) (c.in_ok-x.ensures.gives)
