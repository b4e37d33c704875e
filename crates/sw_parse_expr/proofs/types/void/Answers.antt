use Rattle.std.proofs.Common.{sym, ◌∙◌}
use Rattle.std.proofs.lemmas.Result.{err_from_is_err_and}
use Rattle.sw_lex.specs.declared.token.TokenKind.TheVariants as k
use Rattle.sw_syntax.specs.Tests.{is}
use Rattle.sw_syntax.proofs.TypeEquations as type
use Rattle.sw_syntax.proofs.Exits.{after, passes}
use Rattle.sw_parse_expr.proofs.Exits.{base_none}
use Rattle.sw_parse_expr.proofs.types.void.Goals as goal

pub returns-then-not-is-clause-gives : goal.returns-then-not-is-clause-gives
returns-then-not-is-clause-gives c = base_none _ _ _ _ _ c.requires.0 c.requires.1 c.requires.2 (sym c.is.ensures.value ∙ c.if-not-is.true)

pub returns-then-budget-eq0-clause-gives : goal.returns-then-budget-eq0-clause-gives
returns-then-budget-eq0-clause-gives c = type.base_void_deep _ _ _ _ _ c.requires.0 c.requires.1 c.requires.2 (sym c.is.ensures.value ∙ c.if-not-is.false) c.if-budget-eq0.true

pub returns-in_err-end-clause-gives : goal.returns-in_err-end-clause-gives
returns-in_err-end-clause-gives c =
    let p = err_from_is_err_and c.from_residual.result c.from_residual.ensures.1 in
    rw (p.1, p.2) (passes _ _ _ _ _ (after _ _ _ _ _ _ (type.base_void _ _ _ _ _ c.requires.0 c.requires.1 c.requires.2 c.if-budget-eq0.false) (c.take-next.ensures.taken (is k.LeftParen) (sym c.is.ensures.value ∙ c.if-not-is.false) c.args.budget.left)) (c.in_err-end.ensures.gives c.args.budget.left))

pub returns-clause-gives : goal.returns-clause-gives
returns-clause-gives c = after _ _ _ _ _ _ (after _ _ _ _ _ _ (type.base_void _ _ _ _ _ c.requires.0 c.requires.1 c.requires.2 c.if-budget-eq0.false) (c.take-next.ensures.taken (is k.LeftParen) (sym c.is.ensures.value ∙ c.if-not-is.false) c.args.budget.left)) (c.in_ok-end.ensures.gives c.args.budget.left)
