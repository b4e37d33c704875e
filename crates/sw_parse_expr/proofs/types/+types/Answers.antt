use Rattle.std.proofs.Common.{arith, ◌-◌, drop, sym, ap, ◌∙◌}
use Rattle.std.proofs.lemmas.Result.{err_from_is_err_and}
use Rattle.sw_lex.specs.declared.token.TokenKind.TheVariants as k
use Rattle.sw_grammar.specs.Reading.{got}
use Rattle.sw_tree.specs.declared.types.«Type».TheVariants as tree
use Rattle.sw_syntax.specs.Members.{questions}
use Rattle.sw_syntax.specs.Tests.{is, is_joined_question}
use Rattle.sw_syntax.proofs.TypeEquations as type
use Rattle.sw_syntax.proofs.Exits.{after, passes}
use Rattle.sw_parse_expr.proofs.types.+types.Goals as goal

pub type_-returns-in_err-x-clause-gives : goal.type_-returns-in_err-x-clause-gives
type_-returns-in_err-x-clause-gives t c =
    let p = err_from_is_err_and c.from_residual.result c.from_residual.ensures.1 in
    rw (p.1, p.2) (passes _ _ _ _ _ (type.type_base _ _ _ _ _) (c.in_err-x.ensures.gives))

pub type_-marks-init : goal.type_-marks-init
type_-marks-init t c = record {
  so_far = after _ _ _ _ _ _ (type.type_base _ _ _ _ _) (c.in_ok-x.ensures.gives);
  moves = omega (arith, c.in_ok-x.ensures.moves);
  inside = c.in_ok-x.ensures.inside;
}

pub type_-returns-then-left-eq0-clause-gives : goal.type_-returns-then-left-eq0-clause-gives
type_-returns-then-left-eq0-clause-gives t c = c.marks.invariant.so_far ∙ type.questions_over_budget _ _ _ _ _ _ (sym c.is.ensures.value ∙ c.marks-test.true) c.if-left-eq0.true

pub type_-marks-preserved : goal.type_-marks-preserved
type_-marks-preserved t c = record {
  so_far = c.marks.invariant.so_far ∙ type.questions_more _ _ _ _ _ _ _ _ (sym c.is.ensures.value ∙ c.marks-test.true) c.if-left-eq0.false (c.take-next.ensures.taken is_joined_question (sym c.is.ensures.value ∙ c.marks-test.true)) ∙ ap (λ x. questions c.args.lenient c.args.budget.brackets c.args.budget.limit (c.marks.left - 1) x (drop c.take-next.result.1 c.args.view.now)) (sym c.in_ok-x-2.ensures);
  moves = omega (arith, c.marks.invariant.moves, c.take-next.ensures.next);
  inside = omega (arith, c.is.ensures.within c.marks-test.true, c.take-next.ensures.next);
}

pub type_-returns-clause-gives : goal.type_-returns-clause-gives
type_-returns-clause-gives t c = c.marks.invariant.so_far ∙ type.questions_end _ _ _ _ _ _ (sym c.is.ensures.value ∙ c.marks-test.false)

pub base-returns-in_err-token-clause-gives : goal.base-returns-in_err-token-clause-gives
base-returns-in_err-token-clause-gives t c =
    let p = err_from_is_err_and c.from_residual.result c.from_residual.ensures.1 in
    rw (p.1, p.2) (passes _ _ _ _ _ (type.base_any _ _ _ _ _ _ _ (sym c.is.ensures.value ∙ c.if-is.false) (sym c.is-2.ensures.value ∙ c.if-is-2.false) (sym c.is-3.ensures.value ∙ c.if-is-3.true) (c.take-next.ensures.taken (is k.Any) (sym c.is-3.ensures.value ∙ c.if-is-3.true))) (c.in_err-token.ensures.gives c.args.budget.left))

pub base-returns-then-is-3-clause-gives : goal.base-returns-then-is-3-clause-gives
base-returns-then-is-3-clause-gives t c = after _ _ _ _ _ _ (type.base_any _ _ _ _ _ _ _ (sym c.is.ensures.value ∙ c.if-is.false) (sym c.is-2.ensures.value ∙ c.if-is-2.false) (sym c.is-3.ensures.value ∙ c.if-is-3.true) (c.take-next.ensures.taken (is k.Any) (sym c.is-3.ensures.value ∙ c.if-is-3.true))) (c.in_ok-token.ensures.gives c.args.budget.left) ∙ ap (λ n. got (tree.Any c.take-next.result.0.span n) c.args.budget.left (drop c.in_ok-token.end c.args.view.now)) (sym c.in_ok-name.ensures)

pub array-returns-then-budget-eq0-clause-gives : goal.array-returns-then-budget-eq0-clause-gives
array-returns-then-budget-eq0-clause-gives t c = type.base_array_deep _ _ _ _ _ c.requires.0 c.requires.1 c.if-budget-eq0.true

pub array-returns-then-budget-eq0-2-clause-gives : goal.array-returns-then-budget-eq0-2-clause-gives
array-returns-then-budget-eq0-2-clause-gives t c = type.base_array_over_budget _ _ _ _ _ c.requires.0 c.requires.1 c.if-budget-eq0.false c.if-budget-eq0-2.true

pub array-returns-in_err-x-clause-gives : goal.array-returns-in_err-x-clause-gives
array-returns-in_err-x-clause-gives t c =
    let p = err_from_is_err_and c.from_residual.result c.from_residual.ensures.1 in
    rw (p.1, p.2) (passes _ _ _ _ _ (type.base_array _ _ _ _ _ _ _ c.requires.0 c.requires.1 c.if-budget-eq0.false c.if-budget-eq0-2.false (c.take-next.ensures.taken (is k.LeftBracket) c.requires.1)) (c.in_err-x.ensures.gives))

pub array-returns-in_err-after-clause-gives : goal.array-returns-in_err-after-clause-gives
array-returns-in_err-after-clause-gives t c =
    let p = err_from_is_err_and c.from_residual-in_err-after.result c.from_residual-in_err-after.ensures.1 in
    rw (p.1, p.2) (passes _ _ _ _ _ (after _ _ _ _ _ _ (type.base_array _ _ _ _ _ _ _ c.requires.0 c.requires.1 c.if-budget-eq0.false c.if-budget-eq0-2.false (c.take-next.ensures.taken (is k.LeftBracket) c.requires.1)) (c.in_ok-x.ensures.gives)) (c.in_err-after.ensures.gives c.in_ok-x.left))

pub array-returns-clause-gives : goal.array-returns-clause-gives
array-returns-clause-gives t c = after _ _ _ _ _ _ (after _ _ _ _ _ _ (type.base_array _ _ _ _ _ _ _ c.requires.0 c.requires.1 c.if-budget-eq0.false c.if-budget-eq0-2.false (c.take-next.ensures.taken (is k.LeftBracket) c.requires.1)) (c.in_ok-x.ensures.gives)) (c.in_ok-after.ensures.gives c.in_ok-x.left) ∙ ap (λ x. got (tree.Array c.take-next.result.0.span x) c.in_ok-x.left (drop c.in_ok-after.after c.args.view.now)) (sym c.in_ok-element.ensures)
