use Rattle.std.proofs.Common.{arith, drop, sym, ap, [], ◌∷◌, ◌++◌, ◌∙◌}
use Rattle.std.proofs.lemmas.Result.{err_from_is_err_and}
use Rattle.sw_lex.specs.declared.token.TokenKind.TheVariants as k
use Rattle.sw_syntax.specs.Bodies.{more_conds}
use Rattle.sw_syntax.specs.Tests.{is}
use Rattle.sw_syntax.proofs.Exits.{after, passes}
use Rattle.sw_syntax.proofs.IfEquations as branch
use Rattle.sw_parse_stmt.proofs.parts.conditions.Goals as goal

pub returns-in_err-x-clause-gives : goal.returns-in_err-x-clause-gives
returns-in_err-x-clause-gives c =
    let p = err_from_is_err_and c.from_residual.result c.from_residual.ensures.1 in
    rw (p.1, p.2) (passes _ _ _ _ _ (branch.conds_first _ _ _ _ _) (c.in_err-x.ensures.gives))

pub conditions-init : goal.conditions-init
conditions-init c = record {
  so_far = after _ _ _ _ _ _ (branch.conds_first _ _ _ _ _) (c.in_ok-x.ensures.gives) ∙ ap (λ l. more_conds c.args.lenient c.args.budget.brackets c.args.budget.limit c.in_ok-x.left l (drop c.in_ok-x.end c.args.view.now)) (sym (c.in_ok-push.ensures.ok ∙ ap (λ l. l ++ c.in_ok-x.x ∷ []) c.new-xs.ensures));
  moves = omega (arith, c.in_ok-x.ensures.moves);
  inside = c.in_ok-x.ensures.inside;
}

pub returns-in_err-y-clause-gives : goal.returns-in_err-y-clause-gives
returns-in_err-y-clause-gives c =
    let p = err_from_is_err_and c.from_residual-in_err-y.result c.from_residual-in_err-y.ensures.1 in
    rw (p.1, p.2) (passes _ _ _ _ _ (c.conditions.invariant.so_far ∙ branch.conds_more _ _ _ _ _ _ _ _ (sym c.is.ensures.value ∙ c.conditions-test.true) (c.take-next.ensures.taken (is k.Comma) (sym c.is.ensures.value ∙ c.conditions-test.true))) (c.in_err-y.ensures.gives))

pub conditions-preserved : goal.conditions-preserved
conditions-preserved c = record {
  so_far = after _ _ _ _ _ _ (c.conditions.invariant.so_far ∙ branch.conds_more _ _ _ _ _ _ _ _ (sym c.is.ensures.value ∙ c.conditions-test.true) (c.take-next.ensures.taken (is k.Comma) (sym c.is.ensures.value ∙ c.conditions-test.true))) (c.in_ok-y.ensures.gives) ∙ ap (λ l. more_conds c.args.lenient c.args.budget.brackets c.args.budget.limit c.in_ok-y.y_left l (drop c.in_ok-y.y_end c.args.view.now)) (sym c.in_ok-push-2.ensures.ok);
  moves = omega (arith, c.in_ok-y.ensures.moves);
  inside = c.in_ok-y.ensures.inside;
}

pub returns-clause-gives : goal.returns-clause-gives
returns-clause-gives c = rw (c.in_ok-kept.ensures) (c.conditions.invariant.so_far ∙ branch.conds_end _ _ _ _ _ _ (sym c.is.ensures.value ∙ c.conditions-test.false))
