use Rattle.std.proofs.Common.{sym, ◌∙◌}
use Rattle.std.proofs.lemmas.Result.{err_from_is_err_and}
use Rattle.sw_lex.specs.declared.token.TokenKind.TheVariants as k
use Rattle.sw_syntax.specs.Tests.{is}
use Rattle.sw_syntax.proofs.MemberEquations as member
use Rattle.sw_syntax.proofs.Exits.{after, passes}
use Rattle.sw_parse_decl.proofs.cases.enum_item.Goals as goal

pub returns-in_err-xs-clause-gives : goal.returns-in_err-xs-clause-gives
returns-in_err-xs-clause-gives c =
    let p = err_from_is_err_and c.from_residual.result c.from_residual.ensures.1 in
    rw (p.1, p.2) (passes _ _ _ _ _ (member.item_cases _ _ _ _ _ _ _ (sym c.is.ensures.value ∙ c.if-is.true) (c.take-next.ensures.taken (is k.Case) (sym c.is.ensures.value ∙ c.if-is.true))) (c.in_err-xs.ensures.gives))

pub returns-then-is-clause-gives : goal.returns-then-is-clause-gives
returns-then-is-clause-gives c = after _ _ _ _ _ _ (member.item_cases _ _ _ _ _ _ _ (sym c.is.ensures.value ∙ c.if-is.true) (c.take-next.ensures.taken (is k.Case) (sym c.is.ensures.value ∙ c.if-is.true))) (c.in_ok-xs.ensures.gives)

pub returns-in_err-x-clause-gives : goal.returns-in_err-x-clause-gives
returns-in_err-x-clause-gives c =
    let p = err_from_is_err_and c.from_residual-in_err-x.result c.from_residual-in_err-x.ensures.1 in
    rw (p.1, p.2) (passes _ _ _ _ _ (member.item_member _ _ _ _ _ (sym c.is.ensures.value ∙ c.if-is.false)) (c.in_err-x.ensures.gives))

pub returns-clause-gives : goal.returns-clause-gives
returns-clause-gives c = after _ _ _ _ _ _ (member.item_member _ _ _ _ _ (sym c.is.ensures.value ∙ c.if-is.false)) (c.in_ok-x.ensures.gives)
