use Rattle.std.proofs.Common.{}
use Rattle.std.proofs.lemmas.Result.{err_from_is_err_and}
use Rattle.sw_lex.specs.declared.token.TokenKind.TheVariants as k
use Rattle.sw_syntax.specs.Tests.{is}
use Rattle.sw_syntax.proofs.Exits.{after, passes}
use Rattle.sw_syntax.proofs.StmtEquations as stmt
use Rattle.sw_parse_stmt.proofs.simple.discard.Goals as goal

pub returns-in_err-value_at-clause-gives : goal.returns-in_err-value_at-clause-gives
returns-in_err-value_at-clause-gives c =
    let p = err_from_is_err_and c.from_residual.result c.from_residual.ensures.1 in
    rw (p.1, p.2) (passes _ _ _ _ _ (stmt.open_discard _ _ _ _ _ _ _ c.requires.0 c.requires.1 c.requires.2 (c.take-next.ensures.taken (is k.Underscore) c.requires.2)) (c.in_err-value_at.ensures.gives c.args.budget.left))

pub returns-in_err-x-clause-gives : goal.returns-in_err-x-clause-gives
returns-in_err-x-clause-gives c =
    let p = err_from_is_err_and c.from_residual-in_err-x.result c.from_residual-in_err-x.ensures.1 in
    rw (p.1, p.2) (passes _ _ _ _ _ (after _ _ _ _ _ _ (stmt.open_discard _ _ _ _ _ _ _ c.requires.0 c.requires.1 c.requires.2 (c.take-next.ensures.taken (is k.Underscore) c.requires.2)) (c.in_ok-value_at.ensures.gives c.args.budget.left)) (c.in_err-x.ensures.gives))

pub returns-clause-gives : goal.returns-clause-gives
returns-clause-gives c = after _ _ _ _ _ _ (after _ _ _ _ _ _ (stmt.open_discard _ _ _ _ _ _ _ c.requires.0 c.requires.1 c.requires.2 (c.take-next.ensures.taken (is k.Underscore) c.requires.2)) (c.in_ok-value_at.ensures.gives c.args.budget.left)) (c.in_ok-x.ensures.gives)
