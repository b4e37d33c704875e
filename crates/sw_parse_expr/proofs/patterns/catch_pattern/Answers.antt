use Rattle.std.proofs.Common.{sym, ◌∙◌}
use Rattle.std.proofs.lemmas.Result.{err_from_is_err_and}
use Rattle.sw_lex.specs.declared.token.TokenKind.TheVariants as k
use Rattle.sw_syntax.specs.Tests.{is}
use Rattle.sw_syntax.proofs.PatternEquations as pat
use Rattle.sw_syntax.proofs.Exits.{after, passes}
use Rattle.sw_parse_expr.proofs.PatternExits.{as_names, case_names}
use Rattle.sw_parse_expr.proofs.patterns.catch_pattern.Goals as goal

pub returns-in_err-token-clause-gives : goal.returns-in_err-token-clause-gives
returns-in_err-token-clause-gives c =
    let p = err_from_is_err_and c.from_residual.result c.from_residual.ensures.1 in
    rw (p.1, p.2) (passes _ _ _ _ _ (pat.cpat_as _ _ _ _ _ _ _ (sym c.is.ensures.value ∙ c.if-is.true) (c.take-next.ensures.taken (is k.Let) (sym c.is.ensures.value ∙ c.if-is.true))) (c.in_err-token.ensures.gives c.args.budget.left))

pub returns-in_err-as_end-clause-gives : goal.returns-in_err-as_end-clause-gives
returns-in_err-as_end-clause-gives c =
    let p = err_from_is_err_and c.from_residual-in_err-as_end.result c.from_residual-in_err-as_end.ensures.1 in
    rw (p.1, p.2) (passes _ _ _ _ _ (after _ _ _ _ _ _ (pat.cpat_as _ _ _ _ _ _ _ (sym c.is.ensures.value ∙ c.if-is.true) (c.take-next.ensures.taken (is k.Let) (sym c.is.ensures.value ∙ c.if-is.true))) (c.in_ok-token.ensures.gives c.args.budget.left)) (c.in_err-as_end.ensures.gives c.args.budget.left))

pub returns-in_err-type_token-clause-gives : goal.returns-in_err-type_token-clause-gives
returns-in_err-type_token-clause-gives c =
    let p = err_from_is_err_and c.from_residual-in_err-type_token.result c.from_residual-in_err-type_token.ensures.1 in
    rw (p.1, p.2) (passes _ _ _ _ _ (after _ _ _ _ _ _ (after _ _ _ _ _ _ (pat.cpat_as _ _ _ _ _ _ _ (sym c.is.ensures.value ∙ c.if-is.true) (c.take-next.ensures.taken (is k.Let) (sym c.is.ensures.value ∙ c.if-is.true))) (c.in_ok-token.ensures.gives c.args.budget.left)) (c.in_ok-as_end.ensures.gives c.args.budget.left)) (c.in_err-type_token.ensures.gives c.args.budget.left))

pub returns-then-is-clause-gives : goal.returns-then-is-clause-gives
returns-then-is-clause-gives c = after _ _ _ _ _ _ (after _ _ _ _ _ _ (after _ _ _ _ _ _ (pat.cpat_as _ _ _ _ _ _ _ (sym c.is.ensures.value ∙ c.if-is.true) (c.take-next.ensures.taken (is k.Let) (sym c.is.ensures.value ∙ c.if-is.true))) (c.in_ok-token.ensures.gives c.args.budget.left)) (c.in_ok-as_end.ensures.gives c.args.budget.left)) (c.in_ok-type_token.ensures.gives c.args.budget.left) ∙ as_names _ _ _ _ _ _ c.in_ok-name.ensures c.in_ok-type_name.ensures

pub returns-in_err-outer_token-clause-gives : goal.returns-in_err-outer_token-clause-gives
returns-in_err-outer_token-clause-gives c =
    let p = err_from_is_err_and c.from_residual-in_err-outer_token.result c.from_residual-in_err-outer_token.ensures.1 in
    rw (p.1, p.2) (passes _ _ _ _ _ (pat.cpat_case _ _ _ _ _ (sym c.is.ensures.value ∙ c.if-is.false)) (c.in_err-outer_token.ensures.gives c.args.budget.left))

pub returns-in_err-dot_end-clause-gives : goal.returns-in_err-dot_end-clause-gives
returns-in_err-dot_end-clause-gives c =
    let p = err_from_is_err_and c.from_residual-in_err-dot_end.result c.from_residual-in_err-dot_end.ensures.1 in
    rw (p.1, p.2) (passes _ _ _ _ _ (after _ _ _ _ _ _ (pat.cpat_case _ _ _ _ _ (sym c.is.ensures.value ∙ c.if-is.false)) (c.in_ok-outer_token.ensures.gives c.args.budget.left)) (c.in_err-dot_end.ensures.gives c.args.budget.left))

pub returns-in_err-case_token-clause-gives : goal.returns-in_err-case_token-clause-gives
returns-in_err-case_token-clause-gives c =
    let p = err_from_is_err_and c.from_residual-in_err-case_token.result c.from_residual-in_err-case_token.ensures.1 in
    rw (p.1, p.2) (passes _ _ _ _ _ (after _ _ _ _ _ _ (after _ _ _ _ _ _ (pat.cpat_case _ _ _ _ _ (sym c.is.ensures.value ∙ c.if-is.false)) (c.in_ok-outer_token.ensures.gives c.args.budget.left)) (c.in_ok-dot_end.ensures.gives c.args.budget.left)) (c.in_err-case_token.ensures.gives c.args.budget.left))

pub returns-in_err-xs-clause-gives : goal.returns-in_err-xs-clause-gives
returns-in_err-xs-clause-gives c =
    let p = err_from_is_err_and c.from_residual-in_err-xs.result c.from_residual-in_err-xs.ensures.1 in
    rw (p.1, p.2) (passes _ _ _ _ _ (after _ _ _ _ _ _ (after _ _ _ _ _ _ (after _ _ _ _ _ _ (pat.cpat_case _ _ _ _ _ (sym c.is.ensures.value ∙ c.if-is.false)) (c.in_ok-outer_token.ensures.gives c.args.budget.left)) (c.in_ok-dot_end.ensures.gives c.args.budget.left)) (c.in_ok-case_token.ensures.gives c.args.budget.left)) (c.in_err-xs.ensures.gives))

pub returns-clause-gives : goal.returns-clause-gives
returns-clause-gives c = after _ _ _ _ _ _ (after _ _ _ _ _ _ (after _ _ _ _ _ _ (after _ _ _ _ _ _ (pat.cpat_case _ _ _ _ _ (sym c.is.ensures.value ∙ c.if-is.false)) (c.in_ok-outer_token.ensures.gives c.args.budget.left)) (c.in_ok-dot_end.ensures.gives c.args.budget.left)) (c.in_ok-case_token.ensures.gives c.args.budget.left)) (c.in_ok-xs.ensures.gives) ∙ case_names _ _ _ _ _ _ _ c.in_ok-outer.ensures c.in_ok-case_name.ensures
