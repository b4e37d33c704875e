use Rattle.std.proofs.Common.{arith, ◌-◌, drop, [], ◌∷◌, ◌++◌, sym, ap, ◌∙◌}
use Rattle.std.proofs.lemmas.Result.{err_from_is_err_and}
use Rattle.sw_lex.specs.declared.token.TokenKind.TheVariants as k
use Rattle.sw_syntax.specs.Patterns.{pieces_rest}
use Rattle.sw_syntax.specs.Tests.{is}
use Rattle.sw_syntax.proofs.PatternEquations as pat
use Rattle.sw_syntax.proofs.Exits.{after, passes}
use Rattle.sw_parse_expr.proofs.SwitchExits.{told_string}
use Rattle.sw_parse_expr.proofs.pattern_literals.string.Goals as goal

pub returns-then-budget-eq0-clause-gives : goal.returns-then-budget-eq0-clause-gives
returns-then-budget-eq0-clause-gives c = pat.string_deep _ _ _ _ _ c.requires.0 c.requires.1 c.requires.2 c.requires.3 c.if-budget-eq0.true

pub returns-in_err-x-clause-gives : goal.returns-in_err-x-clause-gives
returns-in_err-x-clause-gives c =
    let p = err_from_is_err_and c.from_residual.result c.from_residual.ensures.1 in
    rw (p.1, p.2) (passes _ _ _ _ _ (pat.string_open _ _ _ _ _ _ _ c.requires.0 c.requires.1 c.requires.2 c.if-budget-eq0.false (c.take-next.ensures.taken (is k.StringStart) c.requires.3)) (c.in_err-x.ensures.gives))

pub pieces-init : goal.pieces-init
pieces-init c = record {
  so_far = after _ _ _ _ _ _ (pat.string_open _ _ _ _ _ _ _ c.requires.0 c.requires.1 c.requires.2 c.if-budget-eq0.false (c.take-next.ensures.taken (is k.StringStart) c.requires.3)) (c.in_ok-x.ensures.gives) ∙ ap (λ l. pieces_rest c.args.lenient (c.args.budget.brackets - 1) c.args.budget.limit c.args.budget.left c.take-next.result.0.span c.take-next.result.0.text.now l c.in_ok-x.x (drop c.in_ok-x.end c.args.view.now)) (sym c.new-pieces.ensures);
  moves = omega (arith, c.in_ok-x.ensures.moves);
  inside = c.in_ok-x.ensures.inside;
}

pub returns-in_err-y-clause-gives : goal.returns-in_err-y-clause-gives
returns-in_err-y-clause-gives c =
    let p = err_from_is_err_and c.from_residual-in_err-y.result c.from_residual-in_err-y.ensures.1 in
    rw (p.1, p.2) (passes _ _ _ _ _ (c.pieces.invariant.so_far ∙ pat.pieces_more _ _ _ _ _ _ _ _ _ _ _ (sym c.is.ensures.value ∙ c.pieces-test.true) (c.take-next-in-pieces.ensures.taken (is k.StringMiddle) (sym c.is.ensures.value ∙ c.pieces-test.true))) (c.in_err-y.ensures.gives))

pub pieces-preserved : goal.pieces-preserved
pieces-preserved c = record {
  so_far = after _ _ _ _ _ _ (c.pieces.invariant.so_far ∙ pat.pieces_more _ _ _ _ _ _ _ _ _ _ _ (sym c.is.ensures.value ∙ c.pieces-test.true) (c.take-next-in-pieces.ensures.taken (is k.StringMiddle) (sym c.is.ensures.value ∙ c.pieces-test.true))) (c.in_ok-y.ensures.gives) ∙ ap (λ l. pieces_rest c.args.lenient (c.args.budget.brackets - 1) c.args.budget.limit c.args.budget.left c.take-next.result.0.span c.take-next.result.0.text.now l c.in_ok-y.y (drop c.in_ok-y.y_end c.args.view.now)) (sym (c.in_ok-push.ensures.ok ∙ ap (λ p. c.pieces.pieces ++ p ∷ []) c.in_ok-piece.ensures));
  moves = omega (arith, c.in_ok-y.ensures.moves);
  inside = c.in_ok-y.ensures.inside;
}

pub returns-in_err-last-clause-gives : goal.returns-in_err-last-clause-gives
returns-in_err-last-clause-gives c =
    let p = err_from_is_err_and c.from_residual-in_err-last.result c.from_residual-in_err-last.ensures.1 in
    rw (p.1, p.2) (passes _ _ _ _ _ (c.pieces.invariant.so_far ∙ pat.pieces_last _ _ _ _ _ _ _ _ _ (sym c.is.ensures.value ∙ c.pieces-test.false)) (c.in_err-last.ensures.gives c.args.budget.left))

pub returns-clause-gives : goal.returns-clause-gives
returns-clause-gives c = rw (c.in_ok-value.ensures) (rw (c.in_ok-kept.ensures) (after _ _ _ _ _ _ (c.pieces.invariant.so_far ∙ pat.pieces_last _ _ _ _ _ _ _ _ _ (sym c.is.ensures.value ∙ c.pieces-test.false)) (c.in_ok-last.ensures.gives c.args.budget.left) ∙ told_string _ _ _ _ _ _ _ _ _ c.in_ok-push-2.ensures.ok c.in_ok-piece-2.ensures))
