use Rattle.std.proofs.Common.{arith, drop, [], ◌∷◌, ◌++◌, sym, ap, ◌∙◌}
use Rattle.std.proofs.lemmas.Result.{err_from_is_err_and}
use Rattle.sw_lex.specs.declared.token.TokenKind.TheVariants as k
use Rattle.sw_grammar.specs.Reading.{got}
use Rattle.sw_syntax.specs.Members.{more_payloads}
use Rattle.sw_syntax.specs.Tests.{is}
use Rattle.sw_syntax.proofs.MemberEquations as member
use Rattle.sw_syntax.proofs.Exits.{after, passes}
use Rattle.sw_parse_decl.proofs.cases.payload_list.Goals as goal

pub returns-then-not-stands-clause-gives : goal.returns-then-not-stands-clause-gives
returns-then-not-stands-clause-gives c = member.payloads_none _ _ _ _ _ (sym c.stands.ensures.value ∙ c.if-not-stands.true) ∙ ap (λ l. got l c.args.budget.left (drop c.args.at c.args.view.now)) (sym c.new-xs.ensures)

pub returns-in_err-x-clause-gives : goal.returns-in_err-x-clause-gives
returns-in_err-x-clause-gives c =
    let p = err_from_is_err_and c.from_residual.result c.from_residual.ensures.1 in
    rw (p.1, p.2) (passes _ _ _ _ _ (member.payloads_first _ _ _ _ _ (sym c.stands.ensures.value ∙ c.if-not-stands.false)) (c.in_err-x.ensures.gives))

pub payloads-init : goal.payloads-init
payloads-init c = record {
  so_far = after _ _ _ _ _ _ (member.payloads_first _ _ _ _ _ (sym c.stands.ensures.value ∙ c.if-not-stands.false)) (c.in_ok-x.ensures.gives) ∙ ap (λ l. more_payloads c.args.lenient c.args.budget.brackets c.args.budget.limit c.in_ok-x.left l (drop c.in_ok-x.end c.args.view.now)) (sym (c.in_ok-push.ensures.ok ∙ ap (λ l. l ++ c.in_ok-x.x ∷ []) c.new-xs.ensures));
  moves = omega (arith, c.in_ok-x.ensures.moves);
  inside = c.in_ok-x.ensures.inside;
}

pub returns-in_err-y-clause-gives : goal.returns-in_err-y-clause-gives
returns-in_err-y-clause-gives c =
    let p = err_from_is_err_and c.from_residual-in_err-y.result c.from_residual-in_err-y.ensures.1 in
    rw (p.1, p.2) (passes _ _ _ _ _ (c.payloads.invariant.so_far ∙ member.payloads_more _ _ _ _ _ _ _ _ (sym c.is.ensures.value ∙ c.payloads-test.true) (c.take-next.ensures.taken (is k.Comma) (sym c.is.ensures.value ∙ c.payloads-test.true))) (c.in_err-y.ensures.gives))

pub payloads-preserved : goal.payloads-preserved
payloads-preserved c = record {
  so_far = after _ _ _ _ _ _ (c.payloads.invariant.so_far ∙ member.payloads_more _ _ _ _ _ _ _ _ (sym c.is.ensures.value ∙ c.payloads-test.true) (c.take-next.ensures.taken (is k.Comma) (sym c.is.ensures.value ∙ c.payloads-test.true))) (c.in_ok-y.ensures.gives) ∙ ap (λ l. more_payloads c.args.lenient c.args.budget.brackets c.args.budget.limit c.in_ok-y.y_left l (drop c.in_ok-y.y_end c.args.view.now)) (sym c.in_ok-push-2.ensures.ok);
  moves = omega (arith, c.in_ok-y.ensures.moves);
  inside = c.in_ok-y.ensures.inside;
}

pub returns-clause-gives : goal.returns-clause-gives
returns-clause-gives c = rw (c.in_ok-kept.ensures) (c.payloads.invariant.so_far ∙ member.payloads_end _ _ _ _ _ _ (sym c.is.ensures.value ∙ c.payloads-test.false))
