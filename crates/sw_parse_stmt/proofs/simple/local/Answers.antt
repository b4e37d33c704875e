use Rattle.std.proofs.Common.{drop, sym, ap, ◌∙◌}
use Rattle.std.proofs.lemmas.Result.{err_from_is_err_and}
use Rattle.sw_grammar.specs.Reading.{got}
use Rattle.sw_syntax.specs.Tests.{is_let_or_var}
use Rattle.sw_syntax.proofs.Exits.{after, passes}
use Rattle.sw_syntax.proofs.StmtEquations as stmt
use Rattle.sw_parse_stmt.proofs.simple.local.Goals as goal

pub returns-in_err-name_token-clause-gives : goal.returns-in_err-name_token-clause-gives
returns-in_err-name_token-clause-gives c =
    let p = err_from_is_err_and c.from_residual.result c.from_residual.ensures.1 in
    rw (p.1, p.2) (passes _ _ _ _ _ (stmt.open_local _ _ _ _ _ _ _ c.requires.0 (c.take-next.ensures.taken is_let_or_var c.requires.0)) (c.in_err-name_token.ensures.gives c.args.budget.left))

pub returns-in_err-declared-clause-gives : goal.returns-in_err-declared-clause-gives
returns-in_err-declared-clause-gives c =
    let p = err_from_is_err_and c.from_residual-in_err-declared.result c.from_residual-in_err-declared.ensures.1 in
    rw (p.1, p.2) (passes _ _ _ _ _ (after _ _ _ _ _ _ (stmt.open_local _ _ _ _ _ _ _ c.requires.0 (c.take-next.ensures.taken is_let_or_var c.requires.0)) (c.in_ok-name_token.ensures.gives c.args.budget.left)) (c.in_err-declared.ensures.gives))

pub returns-in_err-value_at-clause-gives : goal.returns-in_err-value_at-clause-gives
returns-in_err-value_at-clause-gives c =
    let p = err_from_is_err_and c.from_residual-in_err-value_at.result c.from_residual-in_err-value_at.ensures.1 in
    rw (p.1, p.2) (passes _ _ _ _ _ (after _ _ _ _ _ _ (after _ _ _ _ _ _ (stmt.open_local _ _ _ _ _ _ _ c.requires.0 (c.take-next.ensures.taken is_let_or_var c.requires.0)) (c.in_ok-name_token.ensures.gives c.args.budget.left)) (c.in_ok-declared.ensures.gives)) (c.in_err-value_at.ensures.gives c.in_ok-declared.left))

pub returns-in_err-x-clause-gives : goal.returns-in_err-x-clause-gives
returns-in_err-x-clause-gives c =
    let p = err_from_is_err_and c.from_residual-in_err-x.result c.from_residual-in_err-x.ensures.1 in
    rw (p.1, p.2) (passes _ _ _ _ _ (after _ _ _ _ _ _ (after _ _ _ _ _ _ (after _ _ _ _ _ _ (stmt.open_local _ _ _ _ _ _ _ c.requires.0 (c.take-next.ensures.taken is_let_or_var c.requires.0)) (c.in_ok-name_token.ensures.gives c.args.budget.left)) (c.in_ok-declared.ensures.gives)) (c.in_ok-value_at.ensures.gives c.in_ok-declared.left)) (c.in_err-x.ensures.gives))

pub returns-clause-gives : goal.returns-clause-gives
returns-clause-gives c = after _ _ _ _ _ _ (after _ _ _ _ _ _ (after _ _ _ _ _ _ (after _ _ _ _ _ _ (stmt.open_local _ _ _ _ _ _ _ c.requires.0 (c.take-next.ensures.taken is_let_or_var c.requires.0)) (c.in_ok-name_token.ensures.gives c.args.budget.left)) (c.in_ok-declared.ensures.gives)) (c.in_ok-value_at.ensures.gives c.in_ok-declared.left)) (c.in_ok-x.ensures.gives) ∙ ap (λ y. got y c.in_ok-declared.left (drop c.in_ok-x.end c.args.view.now)) (sym c.in_ok-node.ensures)
