use Rattle.std.proofs.Common.{arith, drop, [], ◌∷◌, ◌++◌, sym, ap, ◌∙◌}
use Rattle.std.proofs.lemmas.Result.{err_from_is_err_and}
use Rattle.sw_lex.specs.declared.token.TokenKind.TheVariants as k
use Rattle.sw_grammar.specs.Reading.{got}
use Rattle.sw_syntax.specs.Members.{more_names}
use Rattle.sw_syntax.specs.Tests.{is}
use Rattle.sw_syntax.proofs.DeclEquations as decl
use Rattle.sw_syntax.proofs.Exits.{after, passes}
use Rattle.sw_parse_decl.proofs.headings.conformances.Goals as goal

pub returns-then-not-is-clause-gives : goal.returns-then-not-is-clause-gives
returns-then-not-is-clause-gives c = decl.conformances_none _ _ _ _ _ (sym c.is.ensures.value ∙ c.if-not-is.true) ∙ ap (λ l. got l c.args.budget.left (drop c.args.at c.args.view.now)) (sym c.new-xs.ensures)

pub returns-in_err-token-clause-gives : goal.returns-in_err-token-clause-gives
returns-in_err-token-clause-gives c =
    let p = err_from_is_err_and c.from_residual.result c.from_residual.ensures.1 in
    rw (p.1, p.2) (passes _ _ _ _ _ (decl.conformances_some _ _ _ _ _ _ _ (sym c.is.ensures.value ∙ c.if-not-is.false) (c.take-first.ensures.taken (is k.Colon) (sym c.is.ensures.value ∙ c.if-not-is.false))) (c.in_err-token.ensures.gives c.args.budget.left))

pub names-init : goal.names-init
names-init c = record {
  so_far = after _ _ _ _ _ _ (decl.conformances_some _ _ _ _ _ _ _ (sym c.is.ensures.value ∙ c.if-not-is.false) (c.take-first.ensures.taken (is k.Colon) (sym c.is.ensures.value ∙ c.if-not-is.false))) (c.in_ok-token.ensures.gives c.args.budget.left) ∙ ap (λ l. more_names c.args.lenient c.args.budget.brackets c.args.budget.limit c.args.budget.left l (drop c.in_ok-token.end c.args.view.now)) (sym (c.in_ok-push.ensures.ok ∙ ap (λ l. l ++ c.in_ok-name.name ∷ []) c.new-xs.ensures ∙ ap (λ n. n ∷ []) c.in_ok-name.ensures));
  moves = omega (arith, c.in_ok-token.ensures.moves, c.take-first.ensures.next);
  inside = c.in_ok-token.ensures.inside;
}

pub returns-in_err-other-clause-gives : goal.returns-in_err-other-clause-gives
returns-in_err-other-clause-gives c =
    let p = err_from_is_err_and c.from_residual-in_err-other.result c.from_residual-in_err-other.ensures.1 in
    rw (p.1, p.2) (passes _ _ _ _ _ (c.names.invariant.so_far ∙ decl.names_more _ _ _ _ _ _ _ _ (sym c.is-in-names.ensures.value ∙ c.names-test.true) (c.take-next.ensures.taken (is k.Comma) (sym c.is-in-names.ensures.value ∙ c.names-test.true))) (c.in_err-other.ensures.gives c.args.budget.left))

pub names-preserved : goal.names-preserved
names-preserved c = record {
  so_far = after _ _ _ _ _ _ (c.names.invariant.so_far ∙ decl.names_more _ _ _ _ _ _ _ _ (sym c.is-in-names.ensures.value ∙ c.names-test.true) (c.take-next.ensures.taken (is k.Comma) (sym c.is-in-names.ensures.value ∙ c.names-test.true))) (c.in_ok-other.ensures.gives c.args.budget.left) ∙ ap (λ l. more_names c.args.lenient c.args.budget.brackets c.args.budget.limit c.args.budget.left l (drop c.in_ok-other.other_end c.args.view.now)) (sym (c.in_ok-push-2.ensures.ok ∙ ap (λ n. c.names.xs ++ n ∷ []) c.in_ok-other_name.ensures));
  moves = omega (arith, c.names.invariant.moves, c.in_ok-other.ensures.moves, c.take-next.ensures.next);
  inside = c.in_ok-other.ensures.inside;
}

pub returns-clause-gives : goal.returns-clause-gives
returns-clause-gives c = rw (c.in_ok-kept.ensures) (c.names.invariant.so_far ∙ decl.names_end _ _ _ _ _ _ (sym c.is-in-names.ensures.value ∙ c.names-test.false))
