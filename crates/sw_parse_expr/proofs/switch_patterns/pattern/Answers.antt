use Rattle.std.proofs.Common.{drop, sym, ap, ◌∙◌}
use Rattle.std.proofs.lemmas.Result.{err_from_is_err_and}
use Rattle.sw_lex.specs.declared.token.TokenKind.TheVariants as k
use Rattle.sw_grammar.specs.Reading.{got}
use Rattle.sw_syntax.specs.Tests.{is}
use Rattle.sw_syntax.proofs.PatternEquations as pat
use Rattle.sw_syntax.proofs.Exits.{after, passes}
use Rattle.sw_parse_expr.proofs.switch_patterns.pattern.Goals as goal

pub returns-then-is-clause-gives : goal.returns-then-is-clause-gives
returns-then-is-clause-gives c = pat.pat_any _ _ _ _ _ _ _ (sym c.is.ensures.value ∙ c.if-is.true) (c.take-end.ensures.taken (is k.Underscore) (sym c.is.ensures.value ∙ c.if-is.true))

pub returns-in_err-x-clause-gives : goal.returns-in_err-x-clause-gives
returns-in_err-x-clause-gives c =
    let p = err_from_is_err_and c.from_residual.result c.from_residual.ensures.1 in
    rw (p.1, p.2) (passes _ _ _ _ _ (pat.pat_literal _ _ _ _ _ (sym c.is.ensures.value ∙ c.if-is.false) (sym c.is-2.ensures.value ∙ c.if-is-2.true)) (c.in_err-x.ensures.gives))

pub returns-then-is-2-clause-gives : goal.returns-then-is-2-clause-gives
returns-then-is-2-clause-gives c = after _ _ _ _ _ _ (pat.pat_literal _ _ _ _ _ (sym c.is.ensures.value ∙ c.if-is.false) (sym c.is-2.ensures.value ∙ c.if-is-2.true)) (c.in_ok-x.ensures.gives) ∙ ap (λ y. got y c.in_ok-x.left (drop c.in_ok-x.end c.args.view.now)) (sym c.literal_pattern.ensures)

pub returns-then-is-3-clause-gives : goal.returns-then-is-3-clause-gives
returns-then-is-3-clause-gives c = pat.pat_nil _ _ _ _ _ _ _ (sym c.is.ensures.value ∙ c.if-is.false) (sym c.is-2.ensures.value ∙ c.if-is-2.false) (sym c.is-3.ensures.value ∙ c.if-is-3.true) (c.take-end-then-is-3.ensures.taken (is k.Nil) (sym c.is-3.ensures.value ∙ c.if-is-3.true))
