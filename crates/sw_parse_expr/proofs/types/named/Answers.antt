use Rattle.std.proofs.Common.{drop, sym, ap, ◌∙◌}
use Rattle.std.proofs.lemmas.Result.{err_from_is_err_and}
use Rattle.sw_lex.specs.declared.token.TokenKind.TheVariants as k
use Rattle.sw_grammar.specs.Reading.{got}
use Rattle.sw_tree.specs.declared.types.«Type».TheVariants as tree
use Rattle.sw_syntax.specs.Tests.{is, is_name}
use Rattle.sw_syntax.proofs.TypeEquations as type
use Rattle.sw_syntax.proofs.Exits.{after, passes}
use Rattle.sw_parse_expr.proofs.Exits.{two_names}
use Rattle.sw_parse_expr.proofs.types.named.Goals as goal

pub returns-then-not-is-clause-gives : goal.returns-then-not-is-clause-gives
returns-then-not-is-clause-gives c = type.base_name _ _ _ _ _ _ _ c.requires.0 (c.take-end.ensures.taken is_name c.requires.0) ∙ type.member_type_none _ _ _ _ _ _ (sym c.is.ensures.value ∙ c.if-not-is.true) ∙ ap (λ n. got (tree.Name n) c.args.budget.left (drop c.take-end.result.1 c.args.view.now)) (sym c.in_ok-outer.ensures)

pub returns-in_err-inner_token-clause-gives : goal.returns-in_err-inner_token-clause-gives
returns-in_err-inner_token-clause-gives c =
    let p = err_from_is_err_and c.from_residual-in_err-inner_token.result c.from_residual-in_err-inner_token.ensures.1 in
    rw (p.1, p.2) (passes _ _ _ _ _ (type.base_name _ _ _ _ _ _ _ c.requires.0 (c.take-end.ensures.taken is_name c.requires.0) ∙ type.member_type_some _ _ _ _ _ _ _ _ (sym c.is.ensures.value ∙ c.if-not-is.false) (c.take-next.ensures.taken (is k.Dot) (sym c.is.ensures.value ∙ c.if-not-is.false))) (c.in_err-inner_token.ensures.gives c.args.budget.left))

pub returns-clause-gives : goal.returns-clause-gives
returns-clause-gives c = after _ _ _ _ _ _ (type.base_name _ _ _ _ _ _ _ c.requires.0 (c.take-end.ensures.taken is_name c.requires.0) ∙ type.member_type_some _ _ _ _ _ _ _ _ (sym c.is.ensures.value ∙ c.if-not-is.false) (c.take-next.ensures.taken (is k.Dot) (sym c.is.ensures.value ∙ c.if-not-is.false))) (c.in_ok-inner_token.ensures.gives c.args.budget.left) ∙ two_names _ _ _ _ _ _ c.in_ok-outer.ensures c.in_ok-inner.ensures
