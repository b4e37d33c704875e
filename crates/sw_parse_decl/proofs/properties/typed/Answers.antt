use Rattle.std.proofs.Common.{sym, ◌∙◌}
use Rattle.std.proofs.lemmas.Result.{err_from_is_err_and}
use Rattle.sw_lex.specs.declared.token.TokenKind.TheVariants as k
use Rattle.sw_syntax.specs.Tests.{is}
use Rattle.sw_syntax.proofs.MemberEquations as member
use Rattle.sw_syntax.proofs.Exits.{after, passes}
use Rattle.sw_parse_decl.proofs.properties.typed.Goals as goal

pub returns-in_err-x-clause-gives : goal.returns-in_err-x-clause-gives
returns-in_err-x-clause-gives c =
    let p = err_from_is_err_and c.from_residual.result c.from_residual.ensures.1 in
    rw (p.1, p.2) (passes _ _ _ _ _ (member.typed_initial _ _ _ _ _ _ _ _ _ _ (sym c.is.ensures.value ∙ c.if-is.true) (c.take-next.ensures.taken (is k.Assign) (sym c.is.ensures.value ∙ c.if-is.true))) (c.in_err-x.ensures.gives))

pub returns-then-is-clause-gives : goal.returns-then-is-clause-gives
returns-then-is-clause-gives c = rw (c.stored.ensures) (after _ _ _ _ _ _ (member.typed_initial _ _ _ _ _ _ _ _ _ _ (sym c.is.ensures.value ∙ c.if-is.true) (c.take-next.ensures.taken (is k.Assign) (sym c.is.ensures.value ∙ c.if-is.true))) (c.in_ok-x.ensures.gives))

pub returns-then-not-is-clause-gives : goal.returns-then-not-is-clause-gives
returns-then-not-is-clause-gives c = rw (c.stored-then-not-is.ensures) (member.typed_bare _ _ _ _ _ _ _ _ (sym c.is.ensures.value ∙ c.if-is.false) (sym c.is-2.ensures.value ∙ c.if-not-is.true))

pub returns-in_err-accessor-clause-gives : goal.returns-in_err-accessor-clause-gives
returns-in_err-accessor-clause-gives c =
    let p = err_from_is_err_and c.from_residual-in_err-accessor.result c.from_residual-in_err-accessor.ensures.1 in
    rw (p.1, p.2) (passes _ _ _ _ _ (member.typed_computed _ _ _ _ _ _ _ _ (sym c.is.ensures.value ∙ c.if-is.false) (sym c.is-2.ensures.value ∙ c.if-not-is.false)) (c.in_err-accessor.ensures.gives))

pub returns-clause-gives : goal.returns-clause-gives
returns-clause-gives c = rw (c.computed.ensures) (after _ _ _ _ _ _ (member.typed_computed _ _ _ _ _ _ _ _ (sym c.is.ensures.value ∙ c.if-is.false) (sym c.is-2.ensures.value ∙ c.if-not-is.false)) (c.in_ok-accessor.ensures.gives))
