use Rattle.std.proofs.Common.{sym, ◌∙◌}
use Rattle.std.proofs.lemmas.Result.{err_from_is_err_and}
use Rattle.sw_lex.specs.declared.token.TokenKind.TheVariants as k
use Rattle.sw_syntax.specs.Tests.{is}
use Rattle.sw_syntax.proofs.Exits.{after, passes}
use Rattle.sw_syntax.proofs.StmtEquations as stmt
use Rattle.sw_parse_stmt.proofs.parts.annotation.Goals as goal

pub returns-then-not-is-clause-gives : goal.returns-then-not-is-clause-gives
returns-then-not-is-clause-gives c = stmt.annotation_none _ _ _ _ _ (sym c.is.ensures.value ∙ c.if-not-is.true)

pub returns-in_err-x-clause-gives : goal.returns-in_err-x-clause-gives
returns-in_err-x-clause-gives c =
    let p = err_from_is_err_and c.from_residual.result c.from_residual.ensures.1 in
    rw (p.1, p.2) (passes _ _ _ _ _ (stmt.annotation_some _ _ _ _ _ _ _ (sym c.is.ensures.value ∙ c.if-not-is.false) (c.take-next.ensures.taken (is k.Colon) (sym c.is.ensures.value ∙ c.if-not-is.false))) (c.in_err-x.ensures.gives))

pub returns-clause-gives : goal.returns-clause-gives
returns-clause-gives c = after _ _ _ _ _ _ (stmt.annotation_some _ _ _ _ _ _ _ (sym c.is.ensures.value ∙ c.if-not-is.false) (c.take-next.ensures.taken (is k.Colon) (sym c.is.ensures.value ∙ c.if-not-is.false))) (c.in_ok-x.ensures.gives)
