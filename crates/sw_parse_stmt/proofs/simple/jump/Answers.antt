use Rattle.std.proofs.Common.{sym, ◌∙◌}
use Rattle.std.proofs.lemmas.Result.{err_from_is_err_and}
use Rattle.sw_lex.specs.declared.token.TokenKind.TheVariants as k
use Rattle.sw_syntax.specs.Tests.{is}
use Rattle.sw_syntax.proofs.Exits.{after, passes}
use Rattle.sw_syntax.proofs.StmtEquations as stmt
use Rattle.sw_parse_stmt.proofs.simple.jump.Goals as goal

pub returns-then-is-clause-gives : goal.returns-then-is-clause-gives
returns-then-is-clause-gives c = stmt.closed_break _ _ _ _ _ _ _ c.requires (sym c.is.ensures.value ∙ c.if-is.true) (c.take-end.ensures.taken (is k.Break) (sym c.is.ensures.value ∙ c.if-is.true))

pub returns-in_err-token-clause-gives : goal.returns-in_err-token-clause-gives
returns-in_err-token-clause-gives c =
    let p = err_from_is_err_and c.from_residual.result c.from_residual.ensures.1 in
    rw (p.1, p.2) (passes _ _ _ _ _ (stmt.closed_continue _ _ _ _ _ c.requires (sym c.is.ensures.value ∙ c.if-is.false)) (c.in_err-token.ensures.gives c.args.budget.left))

pub returns-clause-gives : goal.returns-clause-gives
returns-clause-gives c = after _ _ _ _ _ _ (stmt.closed_continue _ _ _ _ _ c.requires (sym c.is.ensures.value ∙ c.if-is.false)) (c.in_ok-token.ensures.gives c.args.budget.left)
