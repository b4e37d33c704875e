use Rattle.std.proofs.Common.{sym, ◌∙◌}
use Rattle.std.proofs.lemmas.Result.{err_from_is_err_and}
use Rattle.sw_syntax.specs.Tests.{is_getter}
use Rattle.sw_syntax.proofs.MemberEquations as member
use Rattle.sw_syntax.proofs.Exits.{after, passes}
use Rattle.sw_parse_decl.proofs.Exits.{accessor_statements}
use Rattle.sw_parse_decl.proofs.properties.accessor.Goals as goal

pub returns-in_err-body-clause-gives : goal.returns-in_err-body-clause-gives
returns-in_err-body-clause-gives c =
    let p = err_from_is_err_and c.from_residual.result c.from_residual.ensures.1 in
    rw (p.1, p.2) (passes _ _ _ _ _ (member.accessor_get _ _ _ _ _ _ _ (sym c.stands.ensures.value ∙ c.if-stands.true) (c.take-next.ensures.taken is_getter (sym c.stands.ensures.value ∙ c.if-stands.true))) (c.in_err-body.ensures.gives))

pub returns-then-stands-clause-gives : goal.returns-then-stands-clause-gives
returns-then-stands-clause-gives c = after _ _ _ _ _ _ (member.accessor_get _ _ _ _ _ _ _ (sym c.stands.ensures.value ∙ c.if-stands.true) (c.take-next.ensures.taken is_getter (sym c.stands.ensures.value ∙ c.if-stands.true))) (c.in_ok-body.ensures.gives)

pub returns-in_err-body-2-clause-gives : goal.returns-in_err-body-2-clause-gives
returns-in_err-body-2-clause-gives c =
    let p = err_from_is_err_and c.from_residual-in_err-body-2.result c.from_residual-in_err-body-2.ensures.1 in
    rw (p.1, p.2) (passes _ _ _ _ _ (accessor_statements _ _ _ _ _ (sym c.stands.ensures.value ∙ c.if-stands.false)) (c.in_err-body-2.ensures.gives))

pub returns-clause-gives : goal.returns-clause-gives
returns-clause-gives c = after _ _ _ _ _ _ (accessor_statements _ _ _ _ _ (sym c.stands.ensures.value ∙ c.if-stands.false)) (c.in_ok-body-2.ensures.gives)
