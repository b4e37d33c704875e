use Rattle.std.proofs.Common.{sym, ◌∙◌}
use Rattle.std.proofs.lemmas.Result.{err_from_is_err_and}
use Rattle.sw_lex.specs.declared.token.TokenKind.TheVariants as k
use Rattle.sw_syntax.specs.Nonterminals as nonterminal
use Rattle.sw_syntax.specs.Tests.{is}
use Rattle.sw_syntax.proofs.DeclEquations as decl
use Rattle.sw_syntax.proofs.Exits.{after, passes}
use Rattle.sw_parse_decl.proofs.declarations.requirement_block.Goals as goal

pub returns-then-not-is-clause-gives : goal.returns-then-not-is-clause-gives
returns-then-not-is-clause-gives c = decl.item_block_none _ nonterminal.Requirements _ _ _ _ (sym c.is.ensures.value ∙ c.if-not-is.true)

pub returns-then-budget-eq0-clause-gives : goal.returns-then-budget-eq0-clause-gives
returns-then-budget-eq0-clause-gives c = decl.item_block_deep _ nonterminal.Requirements _ _ _ _ (sym c.is.ensures.value ∙ c.if-not-is.false) c.if-budget-eq0.true

pub returns-in_err-xs-clause-gives : goal.returns-in_err-xs-clause-gives
returns-in_err-xs-clause-gives c =
    let p = err_from_is_err_and c.from_residual.result c.from_residual.ensures.1 in
    rw (p.1, p.2) (passes _ _ _ _ _ (decl.item_block_open _ nonterminal.Requirements _ _ _ _ _ _ c.if-budget-eq0.false (c.take-next.ensures.taken (is k.LeftBrace) (sym c.is.ensures.value ∙ c.if-not-is.false))) (c.in_err-xs.ensures.gives))

pub returns-in_err-after-clause-gives : goal.returns-in_err-after-clause-gives
returns-in_err-after-clause-gives c =
    let p = err_from_is_err_and c.from_residual-in_err-after.result c.from_residual-in_err-after.ensures.1 in
    rw (p.1, p.2) (passes _ _ _ _ _ (after _ _ _ _ _ _ (decl.item_block_open _ nonterminal.Requirements _ _ _ _ _ _ c.if-budget-eq0.false (c.take-next.ensures.taken (is k.LeftBrace) (sym c.is.ensures.value ∙ c.if-not-is.false))) (c.in_ok-xs.ensures.gives)) (c.in_err-after.ensures.gives c.in_ok-xs.left))

pub returns-clause-gives : goal.returns-clause-gives
returns-clause-gives c = rw (c.in_ok-kept.ensures) (after _ _ _ _ _ _ (after _ _ _ _ _ _ (decl.item_block_open _ nonterminal.Requirements _ _ _ _ _ _ c.if-budget-eq0.false (c.take-next.ensures.taken (is k.LeftBrace) (sym c.is.ensures.value ∙ c.if-not-is.false))) (c.in_ok-xs.ensures.gives)) (c.in_ok-after.ensures.gives c.in_ok-xs.left))
