use Rattle.std.proofs.Common.{arith, ◌-◌, drop, [], ◌∷◌, ◌++◌, sym, ap, ◌∙◌}
use Rattle.std.proofs.lemmas.Result.{err_from_is_err_and}
use Rattle.sw_lex.specs.declared.token.TokenKind.TheVariants as k
use Rattle.sw_grammar.specs.Reading.{got}
use Rattle.sw_syntax.specs.Chains.{chain, forms, more_args, more_elements, string_rest}
use Rattle.sw_syntax.specs.Tests.{is, is_name, is_bool, is_ternary, is_binary, is_sign, is_call, is_index, is_label}
use Rattle.sw_tree.specs.declared.expr.Expr.{Expr as ExprTree}
use Rattle.sw_syntax.proofs.OperatorEquations as op
use Rattle.sw_syntax.proofs.FormEquations as form
use Rattle.sw_syntax.proofs.PrimEquations as primary
use Rattle.sw_syntax.proofs.Exits.{after, passes, gives_by, goes_passes, gives_going}
use Rattle.sw_parse_expr.proofs.Exits.{string_node}
use Rattle.sw_parse_expr.proofs.expressions.+expr.Goals as goal

pub expr-returns-in_err-x-clause-gives : goal.expr-returns-in_err-x-clause-gives
expr-returns-in_err-x-clause-gives t c =
    let p = err_from_is_err_and c.from_residual.result c.from_residual.ensures.1 in
    rw (p.1, p.2) (passes _ _ _ _ _ (after _ _ _ _ _ _ (after _ _ _ _ _ _ (op.expr_tern _ _ _ _ _) (c.try_mark-try_mark.ensures.gives c.args.lenient c.args.budget.brackets c.args.budget.limit c.args.budget.left)) (c.await_mark-await_mark.ensures.gives c.args.lenient c.args.budget.brackets c.args.budget.limit c.args.budget.left)) (c.in_err-x.ensures.gives))

pub expr-returns-clause-gives : goal.expr-returns-clause-gives
expr-returns-clause-gives t c = after _ _ _ _ _ _ (after _ _ _ _ _ _ (after _ _ _ _ _ _ (op.expr_tern _ _ _ _ _) (c.try_mark-try_mark.ensures.gives c.args.lenient c.args.budget.brackets c.args.budget.limit c.args.budget.left)) (c.await_mark-await_mark.ensures.gives c.args.lenient c.args.budget.brackets c.args.budget.limit c.args.budget.left)) (c.in_ok-x.ensures.gives) ∙ ap (λ y. got y c.in_ok-x.left (drop c.in_ok-x.end c.args.view.now)) (sym c.in_ok-node.ensures)

pub ternary-returns-in_err-condition-clause-gives : goal.ternary-returns-in_err-condition-clause-gives
ternary-returns-in_err-condition-clause-gives t c =
    let p = err_from_is_err_and c.from_residual.result c.from_residual.ensures.1 in
    rw (p.1, p.2) (passes _ _ _ _ _ (op.tern_bin _ _ _ _ _) (c.in_err-condition.ensures.gives))

pub ternary-returns-then-not-is-clause-gives : goal.ternary-returns-then-not-is-clause-gives
ternary-returns-then-not-is-clause-gives t c = after _ _ _ _ _ _ (op.tern_bin _ _ _ _ _) (c.in_ok-condition.ensures.gives) ∙ op.branches_none _ _ _ _ _ _ (sym c.is.ensures.value ∙ c.if-not-is.true)

pub ternary-returns-then-left-eq0-clause-gives : goal.ternary-returns-then-left-eq0-clause-gives
ternary-returns-then-left-eq0-clause-gives t c = after _ _ _ _ _ _ (op.tern_bin _ _ _ _ _) (c.in_ok-condition.ensures.gives) ∙ op.branches_over_budget _ _ _ _ _ _ (sym c.is.ensures.value ∙ c.if-not-is.false) c.if-left-eq0.true

pub ternary-returns-in_err-x-clause-gives : goal.ternary-returns-in_err-x-clause-gives
ternary-returns-in_err-x-clause-gives t c =
    let p = err_from_is_err_and c.from_residual-in_err-x.result c.from_residual-in_err-x.ensures.1 in
    rw (p.1, p.2) (passes _ _ _ _ _ (after _ _ _ _ _ _ (op.tern_bin _ _ _ _ _) (c.in_ok-condition.ensures.gives) ∙ op.branches_more _ _ _ _ _ _ _ _ (sym c.is.ensures.value ∙ c.if-not-is.false) c.if-left-eq0.false (c.take-next.ensures.taken is_ternary (sym c.is.ensures.value ∙ c.if-not-is.false))) (c.in_err-x.ensures.gives))

pub ternary-returns-in_err-next-clause-gives : goal.ternary-returns-in_err-next-clause-gives
ternary-returns-in_err-next-clause-gives t c =
    let p = err_from_is_err_and c.from_residual-in_err-next.result c.from_residual-in_err-next.ensures.1 in
    rw (p.1, p.2) (passes _ _ _ _ _ (after _ _ _ _ _ _ (after _ _ _ _ _ _ (op.tern_bin _ _ _ _ _) (c.in_ok-condition.ensures.gives) ∙ op.branches_more _ _ _ _ _ _ _ _ (sym c.is.ensures.value ∙ c.if-not-is.false) c.if-left-eq0.false (c.take-next.ensures.taken is_ternary (sym c.is.ensures.value ∙ c.if-not-is.false))) (c.in_ok-x.ensures.gives)) (c.in_err-next.ensures.gives c.in_ok-x.left))

pub ternary-returns-in_err-y-clause-gives : goal.ternary-returns-in_err-y-clause-gives
ternary-returns-in_err-y-clause-gives t c =
    let p = err_from_is_err_and c.from_residual-in_err-y.result c.from_residual-in_err-y.ensures.1 in
    rw (p.1, p.2) (passes _ _ _ _ _ (after _ _ _ _ _ _ (after _ _ _ _ _ _ (after _ _ _ _ _ _ (op.tern_bin _ _ _ _ _) (c.in_ok-condition.ensures.gives) ∙ op.branches_more _ _ _ _ _ _ _ _ (sym c.is.ensures.value ∙ c.if-not-is.false) c.if-left-eq0.false (c.take-next.ensures.taken is_ternary (sym c.is.ensures.value ∙ c.if-not-is.false))) (c.in_ok-x.ensures.gives)) (c.in_ok-next.ensures.gives c.in_ok-x.left)) (c.in_err-y.ensures.gives))

pub ternary-returns-clause-gives : goal.ternary-returns-clause-gives
ternary-returns-clause-gives t c = after _ _ _ _ _ _ (after _ _ _ _ _ _ (after _ _ _ _ _ _ (after _ _ _ _ _ _ (op.tern_bin _ _ _ _ _) (c.in_ok-condition.ensures.gives) ∙ op.branches_more _ _ _ _ _ _ _ _ (sym c.is.ensures.value ∙ c.if-not-is.false) c.if-left-eq0.false (c.take-next.ensures.taken is_ternary (sym c.is.ensures.value ∙ c.if-not-is.false))) (c.in_ok-x.ensures.gives)) (c.in_ok-next.ensures.gives c.in_ok-x.left)) (c.in_ok-y.ensures.gives) ∙ ap (λ y. got y c.in_ok-y.left (drop c.in_ok-y.y_end c.args.view.now)) (sym c.in_ok-node.ensures)

pub binary-returns-clause-gives : goal.binary-returns-clause-gives
binary-returns-clause-gives t c = gives_by _ _ _ _ (op.bin_prefix _ _ _ _ _ _ c.if-strength-lt6.false) c.prefix.ensures.gives

pub leftward-returns-in_err-x-clause-gives : goal.leftward-returns-in_err-x-clause-gives
leftward-returns-in_err-x-clause-gives t c =
    let p = err_from_is_err_and c.from_residual.result c.from_residual.ensures.1 in
    rw (p.1, p.2) (passes _ _ _ _ _ (op.bin_leftward _ _ _ _ _ _ c.requires.1 c.requires.0) (c.in_err-x.ensures.gives))

pub leftward-marks-init : goal.leftward-marks-init
leftward-marks-init t c = record {
  so_far = after _ _ _ _ _ _ (op.bin_leftward _ _ _ _ _ _ c.requires.1 c.requires.0) (c.in_ok-x.ensures.gives);
  moves = omega (arith, c.in_ok-x.ensures.moves);
  inside = c.in_ok-x.ensures.inside;
}

pub leftward-returns-then-left-eq0-clause-gives : goal.leftward-returns-then-left-eq0-clause-gives
leftward-returns-then-left-eq0-clause-gives t c = c.marks.invariant.so_far ∙ op.chain_over_budget _ _ _ _ _ _ _ (sym c.is.ensures.value ∙ c.marks-test.true) c.if-left-eq0.true

pub leftward-returns-in_err-y-clause-gives : goal.leftward-returns-in_err-y-clause-gives
leftward-returns-in_err-y-clause-gives t c =
    let p = err_from_is_err_and c.from_residual-in_err-y.result c.from_residual-in_err-y.ensures.1 in
    rw (p.1, p.2) (passes _ _ _ _ _ (c.marks.invariant.so_far ∙ op.chain_plus _ _ _ _ _ _ _ _ _ (sym c.is.ensures.value ∙ c.marks-test.true) c.if-left-eq0.false (c.take-next.ensures.taken (is_binary c.args.strength) (sym c.is.ensures.value ∙ c.marks-test.true))) (c.in_err-y.ensures.gives))

pub leftward-marks-preserved : goal.leftward-marks-preserved
leftward-marks-preserved t c = record {
  so_far = after _ _ _ _ _ _ (c.marks.invariant.so_far ∙ op.chain_plus _ _ _ _ _ _ _ _ _ (sym c.is.ensures.value ∙ c.marks-test.true) c.if-left-eq0.false (c.take-next.ensures.taken (is_binary c.args.strength) (sym c.is.ensures.value ∙ c.marks-test.true))) (c.in_ok-y.ensures.gives) ∙ ap (λ x. chain c.args.lenient c.args.strength c.args.budget.brackets c.args.budget.limit c.in_ok-y.y_left x (drop c.in_ok-y.y_end c.args.view.now)) (sym c.in_ok-x-2.ensures);
  moves = omega (arith, c.in_ok-y.ensures.moves);
  inside = c.in_ok-y.ensures.inside;
}

pub leftward-returns-clause-gives : goal.leftward-returns-clause-gives
leftward-returns-clause-gives t c = c.marks.invariant.so_far ∙ op.chain_end _ _ _ _ _ _ _ (sym c.is.ensures.value ∙ c.marks-test.false)

pub one_mark-returns-in_err-x-clause-gives : goal.one_mark-returns-in_err-x-clause-gives
one_mark-returns-in_err-x-clause-gives t c =
    let p = err_from_is_err_and c.from_residual.result c.from_residual.ensures.1 in
    rw (p.1, p.2) (passes _ _ _ _ _ (op.bin_one _ _ _ _ _ _ c.requires.1) (c.in_err-x.ensures.gives))

pub one_mark-returns-then-not-is-clause-gives : goal.one_mark-returns-then-not-is-clause-gives
one_mark-returns-then-not-is-clause-gives t c = after _ _ _ _ _ _ (op.bin_one _ _ _ _ _ _ c.requires.1) (c.in_ok-x.ensures.gives) ∙ op.once_none _ _ _ _ _ _ _ _ (sym c.is.ensures.value ∙ c.if-not-is.true)

pub one_mark-returns-then-left-eq0-clause-gives : goal.one_mark-returns-then-left-eq0-clause-gives
one_mark-returns-then-left-eq0-clause-gives t c = after _ _ _ _ _ _ (op.bin_one _ _ _ _ _ _ c.requires.1) (c.in_ok-x.ensures.gives) ∙ op.once_over_budget _ _ _ _ _ _ _ _ (sym c.is.ensures.value ∙ c.if-not-is.false) c.if-left-eq0.true

pub one_mark-returns-in_err-y-clause-gives : goal.one_mark-returns-in_err-y-clause-gives
one_mark-returns-in_err-y-clause-gives t c =
    let p = err_from_is_err_and c.from_residual-in_err-y.result c.from_residual-in_err-y.ensures.1 in
    rw (p.1, p.2) (passes _ _ _ _ _ (after _ _ _ _ _ _ (op.bin_one _ _ _ _ _ _ c.requires.1) (c.in_ok-x.ensures.gives) ∙ op.once_more _ _ _ _ _ _ _ _ _ _ (sym c.is.ensures.value ∙ c.if-not-is.false) c.if-left-eq0.false (c.take-next.ensures.taken (is_binary c.args.strength) (sym c.is.ensures.value ∙ c.if-not-is.false))) (c.in_err-y.ensures.gives))

pub one_mark-returns-clause-gives : goal.one_mark-returns-clause-gives
one_mark-returns-clause-gives t c = after _ _ _ _ _ _ (after _ _ _ _ _ _ (op.bin_one _ _ _ _ _ _ c.requires.1) (c.in_ok-x.ensures.gives) ∙ op.once_more _ _ _ _ _ _ _ _ _ _ (sym c.is.ensures.value ∙ c.if-not-is.false) c.if-left-eq0.false (c.take-next.ensures.taken (is_binary c.args.strength) (sym c.is.ensures.value ∙ c.if-not-is.false))) (c.in_ok-y.ensures.gives) ∙ ap (λ y. got y c.in_ok-y.y_left (drop c.in_ok-y.y_end c.args.view.now)) (sym c.in_ok-node.ensures)

pub operand-returns-in_err-mark-clause-gives : goal.operand-returns-in_err-mark-clause-gives
operand-returns-in_err-mark-clause-gives t c =
    let p = err_from_is_err_and c.from_residual.result c.from_residual.ensures.1 in
    rw (p.1, p.2) (passes _ _ _ _ _ (op.right_effect _ _ _ _ _ _ (sym c.lacks_operand.ensures ∙ c.if-lacks_operand.true)) (c.in_err-mark.ensures.gives c.args.budget.left))

pub operand-returns-then-lacks_operand-clause-gives : goal.operand-returns-then-lacks_operand-clause-gives
operand-returns-then-lacks_operand-clause-gives t c = after _ _ _ _ _ _ (op.right_effect _ _ _ _ _ _ (sym c.lacks_operand.ensures ∙ c.if-lacks_operand.true)) (c.in_ok-mark.ensures.gives c.args.budget.left)

pub operand-returns-clause-gives : goal.operand-returns-clause-gives
operand-returns-clause-gives t c = gives_by _ _ _ _ (op.right_operand _ _ _ _ _ _ (sym c.lacks_operand.ensures ∙ c.if-lacks_operand.false)) c.binary.ensures.gives

pub prefix-returns-then-not-is-clause-gives : goal.prefix-returns-then-not-is-clause-gives
prefix-returns-then-not-is-clause-gives t c = gives_by _ _ _ _ (op.prefix_postfix _ _ _ _ _ (sym c.is.ensures.value ∙ c.if-not-is.true)) c.postfix.ensures.gives

pub prefix-returns-then-budget-eq0-clause-gives : goal.prefix-returns-then-budget-eq0-clause-gives
prefix-returns-then-budget-eq0-clause-gives t c = op.prefix_over_budget _ _ _ _ _ (sym c.is.ensures.value ∙ c.if-not-is.false) c.if-budget-eq0.true

pub prefix-returns-in_err-x-clause-gives : goal.prefix-returns-in_err-x-clause-gives
prefix-returns-in_err-x-clause-gives t c =
    let p = err_from_is_err_and c.from_residual.result c.from_residual.ensures.1 in
    rw (p.1, p.2) (passes _ _ _ _ _ (op.prefix_sign _ _ _ _ _ _ _ (sym c.is.ensures.value ∙ c.if-not-is.false) c.if-budget-eq0.false (c.take-next.ensures.taken is_sign (sym c.is.ensures.value ∙ c.if-not-is.false))) (c.in_err-x.ensures.gives))

pub prefix-returns-clause-gives : goal.prefix-returns-clause-gives
prefix-returns-clause-gives t c = after _ _ _ _ _ _ (op.prefix_sign _ _ _ _ _ _ _ (sym c.is.ensures.value ∙ c.if-not-is.false) c.if-budget-eq0.false (c.take-next.ensures.taken is_sign (sym c.is.ensures.value ∙ c.if-not-is.false))) (c.in_ok-x.ensures.gives) ∙ ap (λ y. got y c.in_ok-x.left (drop c.in_ok-x.end c.args.view.now)) (sym c.in_ok-node.ensures)

pub postfix-returns-in_err-x-clause-gives : goal.postfix-returns-in_err-x-clause-gives
postfix-returns-in_err-x-clause-gives t c =
    let p = err_from_is_err_and c.from_residual.result c.from_residual.ensures.1 in
    rw (p.1, p.2) (passes _ _ _ _ _ (op.postfix_primary _ _ _ _ _) (c.in_err-x.ensures.gives))

pub postfix-forms-init : goal.postfix-forms-init
postfix-forms-init t c = record {
  so_far = after _ _ _ _ _ _ (op.postfix_primary _ _ _ _ _) (c.in_ok-x.ensures.gives);
  moves = omega (arith, c.in_ok-x.ensures.moves);
  inside = c.in_ok-x.ensures.inside;
}

pub postfix-returns-in_err-y-clause-gives : goal.postfix-returns-in_err-y-clause-gives
postfix-returns-in_err-y-clause-gives t c =
    let p = err_from_is_err_and c.from_residual-in_err-y.result c.from_residual-in_err-y.ensures.1 in
    rw (p.1, p.2) (goes_passes {A = ExprTree} (forms c.args.lenient c.args.budget.brackets c.args.budget.limit) _ _ _ _ c.forms.invariant.so_far c.in_err-y.ensures.gives)

pub postfix-forms-preserved : goal.postfix-forms-preserved
postfix-forms-preserved t c = record {
  so_far = c.forms.invariant.so_far ∙ c.in_ok-y.ensures.gives;
  moves = omega (arith, c.in_ok-y.ensures.moves);
  inside = c.in_ok-y.ensures.inside;
}

pub postfix-returns-clause-gives : goal.postfix-returns-clause-gives
postfix-returns-clause-gives t c = c.forms.invariant.so_far ∙ form.forms_end _ _ _ _ _ _ (sym c.is.ensures.value ∙ c.forms-test.false)

pub form-returns-then-budget-eq0-clause-gives : goal.form-returns-then-budget-eq0-clause-gives
form-returns-then-budget-eq0-clause-gives t c = form.forms_over_budget _ _ _ _ _ _ c.requires c.if-budget-eq0.true

pub form-returns-in_err-member-clause-gives : goal.form-returns-in_err-member-clause-gives
form-returns-in_err-member-clause-gives t c =
    let p = err_from_is_err_and c.from_residual.result c.from_residual.ensures.1 in
    rw (p.1, p.2) (gives_going {A = ExprTree} (forms c.args.lenient c.args.budget.brackets c.args.budget.limit) _ _ _ _ _ (form.member_more _ _ _ _ _ _ _ _ (sym c.is.ensures.value ∙ c.if-is.true) c.if-budget-eq0.false (c.take-next.ensures.taken (is k.Dot) (sym c.is.ensures.value ∙ c.if-is.true))) (c.in_err-member.ensures.gives (c.args.budget.left - 1)))

pub form-returns-then-is-clause-gives : goal.form-returns-then-is-clause-gives
form-returns-then-is-clause-gives t c = after _ _ _ _ _ _ (form.member_more _ _ _ _ _ _ _ _ (sym c.is.ensures.value ∙ c.if-is.true) c.if-budget-eq0.false (c.take-next.ensures.taken (is k.Dot) (sym c.is.ensures.value ∙ c.if-is.true))) (c.in_ok-member.ensures.gives (c.args.budget.left - 1)) ∙ ap (λ y. forms c.args.lenient c.args.budget.brackets c.args.budget.limit (c.args.budget.left - 1) y (drop c.in_ok-member.end c.args.view.now)) (sym c.in_ok-node.ensures)

pub form-returns-in_err-mark-clause-gives : goal.form-returns-in_err-mark-clause-gives
form-returns-in_err-mark-clause-gives t c =
    let p = err_from_is_err_and c.from_residual-in_err-mark.result c.from_residual-in_err-mark.ensures.1 in
    rw (p.1, p.2) (gives_going {A = ExprTree} (forms c.args.lenient c.args.budget.brackets c.args.budget.limit) _ _ _ _ _ (form.force_or_none _ _ _ _ _ _ c.requires (sym c.is.ensures.value ∙ c.if-is.false) (sym c.is-2.ensures.value ∙ c.if-is-2.false) (sym c.is-3.ensures.value ∙ c.if-is-3.false) c.if-budget-eq0.false) (c.in_err-mark.ensures.gives (c.args.budget.left - 1)))

pub form-returns-clause-gives : goal.form-returns-clause-gives
form-returns-clause-gives t c = after _ _ _ _ _ _ (form.force_or_none _ _ _ _ _ _ c.requires (sym c.is.ensures.value ∙ c.if-is.false) (sym c.is-2.ensures.value ∙ c.if-is-2.false) (sym c.is-3.ensures.value ∙ c.if-is-3.false) c.if-budget-eq0.false) (c.in_ok-mark.ensures.gives (c.args.budget.left - 1)) ∙ ap (λ y. forms c.args.lenient c.args.budget.brackets c.args.budget.limit (c.args.budget.left - 1) y (drop c.in_ok-mark.end c.args.view.now)) (sym c.in_ok-node-2.ensures)

pub call-returns-then-budget-eq0-clause-gives : goal.call-returns-then-budget-eq0-clause-gives
call-returns-then-budget-eq0-clause-gives t c = form.call_deep _ _ _ _ _ _ c.requires.0 c.requires.1 c.if-budget-eq0.true

pub call-returns-in_err-arguments-clause-gives : goal.call-returns-in_err-arguments-clause-gives
call-returns-in_err-arguments-clause-gives t c =
    let p = err_from_is_err_and c.from_residual.result c.from_residual.ensures.1 in
    rw (p.1, p.2) (gives_going {A = ExprTree} (forms c.args.lenient c.args.budget.brackets c.args.budget.limit) _ _ _ _ _ (form.call_more _ _ _ _ _ _ _ _ c.requires.0 c.requires.1 c.if-budget-eq0.false (λ e. absurd (omega (arith, c.requires.3, e))) (c.take-next.ensures.taken is_call c.requires.1)) (c.in_err-arguments.ensures.gives))

pub call-returns-in_err-after-clause-gives : goal.call-returns-in_err-after-clause-gives
call-returns-in_err-after-clause-gives t c =
    let p = err_from_is_err_and c.from_residual-in_err-after.result c.from_residual-in_err-after.ensures.1 in
    rw (p.1, p.2) (gives_going {A = ExprTree} (forms c.args.lenient c.args.budget.brackets c.args.budget.limit) _ _ _ _ _ (after _ _ _ _ _ _ (form.call_more _ _ _ _ _ _ _ _ c.requires.0 c.requires.1 c.if-budget-eq0.false (λ e. absurd (omega (arith, c.requires.3, e))) (c.take-next.ensures.taken is_call c.requires.1)) (c.in_ok-arguments.ensures.gives)) (c.in_err-after.ensures.gives c.in_ok-arguments.left))

pub call-returns-clause-gives : goal.call-returns-clause-gives
call-returns-clause-gives t c = after _ _ _ _ _ _ (after _ _ _ _ _ _ (form.call_more _ _ _ _ _ _ _ _ c.requires.0 c.requires.1 c.if-budget-eq0.false (λ e. absurd (omega (arith, c.requires.3, e))) (c.take-next.ensures.taken is_call c.requires.1)) (c.in_ok-arguments.ensures.gives)) (c.in_ok-after.ensures.gives c.in_ok-arguments.left) ∙ ap (λ y. forms c.args.lenient c.args.budget.brackets c.args.budget.limit c.in_ok-arguments.left y (drop c.in_ok-after.after c.args.view.now)) (sym c.in_ok-node.ensures)

pub index-returns-then-budget-eq0-clause-gives : goal.index-returns-then-budget-eq0-clause-gives
index-returns-then-budget-eq0-clause-gives t c = form.index_deep _ _ _ _ _ _ c.requires.0 c.requires.1 c.requires.2 c.if-budget-eq0.true

pub index-returns-in_err-x-clause-gives : goal.index-returns-in_err-x-clause-gives
index-returns-in_err-x-clause-gives t c =
    let p = err_from_is_err_and c.from_residual.result c.from_residual.ensures.1 in
    rw (p.1, p.2) (gives_going {A = ExprTree} (forms c.args.lenient c.args.budget.brackets c.args.budget.limit) _ _ _ _ _ (form.index_more _ _ _ _ _ _ _ _ c.requires.0 c.requires.1 c.requires.2 c.if-budget-eq0.false (λ e. absurd (omega (arith, c.requires.4, e))) (c.take-next.ensures.taken is_index c.requires.2)) (c.in_err-x.ensures.gives))

pub index-returns-in_err-after-clause-gives : goal.index-returns-in_err-after-clause-gives
index-returns-in_err-after-clause-gives t c =
    let p = err_from_is_err_and c.from_residual-in_err-after.result c.from_residual-in_err-after.ensures.1 in
    rw (p.1, p.2) (gives_going {A = ExprTree} (forms c.args.lenient c.args.budget.brackets c.args.budget.limit) _ _ _ _ _ (after _ _ _ _ _ _ (form.index_more _ _ _ _ _ _ _ _ c.requires.0 c.requires.1 c.requires.2 c.if-budget-eq0.false (λ e. absurd (omega (arith, c.requires.4, e))) (c.take-next.ensures.taken is_index c.requires.2)) (c.in_ok-x.ensures.gives)) (c.in_err-after.ensures.gives c.in_ok-x.left))

pub index-returns-clause-gives : goal.index-returns-clause-gives
index-returns-clause-gives t c = after _ _ _ _ _ _ (after _ _ _ _ _ _ (form.index_more _ _ _ _ _ _ _ _ c.requires.0 c.requires.1 c.requires.2 c.if-budget-eq0.false (λ e. absurd (omega (arith, c.requires.4, e))) (c.take-next.ensures.taken is_index c.requires.2)) (c.in_ok-x.ensures.gives)) (c.in_ok-after.ensures.gives c.in_ok-x.left) ∙ ap (λ y. forms c.args.lenient c.args.budget.brackets c.args.budget.limit c.in_ok-x.left y (drop c.in_ok-after.after c.args.view.now)) (sym c.in_ok-node.ensures)

pub arguments-returns-then-not-is-clause-gives : goal.arguments-returns-then-not-is-clause-gives
arguments-returns-then-not-is-clause-gives t c = form.arg_list_none _ _ _ _ _ (sym c.is.ensures.value ∙ c.if-not-is.true) ∙ ap (λ l. got l c.args.budget.left (drop c.args.at c.args.view.now)) (sym c.new-xs.ensures)

pub arguments-returns-in_err-x-clause-gives : goal.arguments-returns-in_err-x-clause-gives
arguments-returns-in_err-x-clause-gives t c =
    let p = err_from_is_err_and c.from_residual.result c.from_residual.ensures.1 in
    rw (p.1, p.2) (passes _ _ _ _ _ (form.arg_list_some _ _ _ _ _ (sym c.is.ensures.value ∙ c.if-not-is.false)) (c.in_err-x.ensures.gives))

pub arguments-arguments-init : goal.arguments-arguments-init
arguments-arguments-init t c = record {
  so_far = after _ _ _ _ _ _ (form.arg_list_some _ _ _ _ _ (sym c.is.ensures.value ∙ c.if-not-is.false)) (c.in_ok-x.ensures.gives) ∙ ap (λ l. more_args c.args.lenient c.args.budget.brackets c.args.budget.limit c.in_ok-x.left l (drop c.in_ok-x.end c.args.view.now)) (sym (c.in_ok-push.ensures.ok ∙ ap (λ l. l ++ c.in_ok-x.x ∷ []) c.new-xs.ensures));
  moves = omega (arith, c.in_ok-x.ensures.moves);
  inside = c.in_ok-x.ensures.inside;
}

pub arguments-returns-in_err-y-clause-gives : goal.arguments-returns-in_err-y-clause-gives
arguments-returns-in_err-y-clause-gives t c =
    let p = err_from_is_err_and c.from_residual-in_err-y.result c.from_residual-in_err-y.ensures.1 in
    rw (p.1, p.2) (passes _ _ _ _ _ (c.arguments.invariant.so_far ∙ form.more_args_more _ _ _ _ _ _ _ _ (sym c.is-in-arguments.ensures.value ∙ c.arguments-test.true) (c.take-next.ensures.taken (is k.Comma) (sym c.is-in-arguments.ensures.value ∙ c.arguments-test.true))) (c.in_err-y.ensures.gives))

pub arguments-arguments-preserved : goal.arguments-arguments-preserved
arguments-arguments-preserved t c = record {
  so_far = after _ _ _ _ _ _ (c.arguments.invariant.so_far ∙ form.more_args_more _ _ _ _ _ _ _ _ (sym c.is-in-arguments.ensures.value ∙ c.arguments-test.true) (c.take-next.ensures.taken (is k.Comma) (sym c.is-in-arguments.ensures.value ∙ c.arguments-test.true))) (c.in_ok-y.ensures.gives) ∙ ap (λ l. more_args c.args.lenient c.args.budget.brackets c.args.budget.limit c.in_ok-y.y_left l (drop c.in_ok-y.y_end c.args.view.now)) (sym c.in_ok-push-2.ensures.ok);
  moves = omega (arith, c.in_ok-y.ensures.moves);
  inside = c.in_ok-y.ensures.inside;
}

pub arguments-returns-clause-gives : goal.arguments-returns-clause-gives
arguments-returns-clause-gives t c = rw (c.in_ok-kept.ensures) (c.arguments.invariant.so_far ∙ form.more_args_end _ _ _ _ _ _ (sym c.is-in-arguments.ensures.value ∙ c.arguments-test.false))

pub argument-returns-in_err-after-clause-gives : goal.argument-returns-in_err-after-clause-gives
argument-returns-in_err-after-clause-gives t c =
    let p = err_from_is_err_and c.from_residual.result c.from_residual.ensures.1 in
    rw (p.1, p.2) (passes _ _ _ _ _ (form.arg_labelled _ _ _ _ _ _ _ (sym c.is.ensures.value ∙ c.if-is.true) (c.take-next.ensures.taken is_label (sym c.is.ensures.value ∙ c.if-is.true))) (c.in_err-after.ensures.gives c.args.budget.left))

pub argument-returns-in_err-x-clause-gives : goal.argument-returns-in_err-x-clause-gives
argument-returns-in_err-x-clause-gives t c =
    let p = err_from_is_err_and c.from_residual-in_err-x.result c.from_residual-in_err-x.ensures.1 in
    rw (p.1, p.2) (passes _ _ _ _ _ (after _ _ _ _ _ _ (form.arg_labelled _ _ _ _ _ _ _ (sym c.is.ensures.value ∙ c.if-is.true) (c.take-next.ensures.taken is_label (sym c.is.ensures.value ∙ c.if-is.true))) (c.in_ok-after.ensures.gives c.args.budget.left)) (c.in_err-x.ensures.gives))

pub argument-returns-then-is-clause-gives : goal.argument-returns-then-is-clause-gives
argument-returns-then-is-clause-gives t c = after _ _ _ _ _ _ (after _ _ _ _ _ _ (form.arg_labelled _ _ _ _ _ _ _ (sym c.is.ensures.value ∙ c.if-is.true) (c.take-next.ensures.taken is_label (sym c.is.ensures.value ∙ c.if-is.true))) (c.in_ok-after.ensures.gives c.args.budget.left)) (c.in_ok-x.ensures.gives) ∙ ap (λ y. got y c.in_ok-x.left (drop c.in_ok-x.end c.args.view.now)) (sym c.in_ok-node.ensures)

pub argument-returns-then-not-is-clause-gives : goal.argument-returns-then-not-is-clause-gives
argument-returns-then-not-is-clause-gives t c = form.arg_none _ _ _ _ _ (sym c.is.ensures.value ∙ c.if-is.false) (sym c.is-2.ensures.value ∙ c.if-not-is.true)

pub argument-returns-in_err-value-clause-gives : goal.argument-returns-in_err-value-clause-gives
argument-returns-in_err-value-clause-gives t c =
    let p = err_from_is_err_and c.from_residual-in_err-value.result c.from_residual-in_err-value.ensures.1 in
    rw (p.1, p.2) (passes _ _ _ _ _ (form.arg_bare _ _ _ _ _ (sym c.is.ensures.value ∙ c.if-is.false) (sym c.is-2.ensures.value ∙ c.if-not-is.false)) (c.in_err-value.ensures.gives))

pub argument-returns-clause-gives : goal.argument-returns-clause-gives
argument-returns-clause-gives t c = after _ _ _ _ _ _ (form.arg_bare _ _ _ _ _ (sym c.is.ensures.value ∙ c.if-is.false) (sym c.is-2.ensures.value ∙ c.if-not-is.false)) (c.in_ok-value.ensures.gives)

pub primary-returns-then-is-clause-gives : goal.primary-returns-then-is-clause-gives
primary-returns-then-is-clause-gives t c = c.literal.ensures.gives

pub primary-returns-then-is-2-clause-gives : goal.primary-returns-then-is-2-clause-gives
primary-returns-then-is-2-clause-gives t c = primary.primary_nil _ _ _ _ _ _ _ (sym c.is.ensures.value ∙ c.if-is.false) (sym c.is-2.ensures.value ∙ c.if-is-2.true) (c.take-end.ensures.taken (is k.Nil) (sym c.is-2.ensures.value ∙ c.if-is-2.true))

pub primary-returns-then-is-3-clause-gives : goal.primary-returns-then-is-3-clause-gives
primary-returns-then-is-3-clause-gives t c = primary.primary_name _ _ _ _ _ _ _ (sym c.is.ensures.value ∙ c.if-is.false) (sym c.is-2.ensures.value ∙ c.if-is-2.false) (sym c.is-3.ensures.value ∙ c.if-is-3.true) (c.take-end-then-is-3.ensures.taken is_name (sym c.is-3.ensures.value ∙ c.if-is-3.true)) ∙ ap (λ y. got y c.args.budget.left (drop c.take-end-then-is-3.result.1 c.args.view.now)) (sym c.in_ok-node.ensures)

pub primary-returns-then-is-4-clause-gives : goal.primary-returns-then-is-4-clause-gives
primary-returns-then-is-4-clause-gives t c = primary.primary_self _ _ _ _ _ _ _ (sym c.is.ensures.value ∙ c.if-is.false) (sym c.is-2.ensures.value ∙ c.if-is-2.false) (sym c.is-3.ensures.value ∙ c.if-is-3.false) (sym c.is-4.ensures.value ∙ c.if-is-4.true) (c.take-end-then-is-4.ensures.taken (is k.Self_) (sym c.is-4.ensures.value ∙ c.if-is-4.true))

pub primary-returns-in_err-token-clause-gives : goal.primary-returns-in_err-token-clause-gives
primary-returns-in_err-token-clause-gives t c =
    let p = err_from_is_err_and c.from_residual-in_err-token.result c.from_residual-in_err-token.ensures.1 in
    rw (p.1, p.2) (passes _ _ _ _ _ (primary.primary_implicit _ _ _ _ _ _ _ ((sym c.is.ensures.value ∙ c.if-is.false), (sym c.is-2.ensures.value ∙ c.if-is-2.false), (sym c.is-3.ensures.value ∙ c.if-is-3.false), (sym c.is-4.ensures.value ∙ c.if-is-4.false)) (sym c.is-5.ensures.value ∙ c.if-is-5.true) (c.take-next.ensures.taken (is k.Dot) (sym c.is-5.ensures.value ∙ c.if-is-5.true))) (c.in_err-token.ensures.gives c.args.budget.left))

pub primary-returns-then-is-5-clause-gives : goal.primary-returns-then-is-5-clause-gives
primary-returns-then-is-5-clause-gives t c = after _ _ _ _ _ _ (primary.primary_implicit _ _ _ _ _ _ _ ((sym c.is.ensures.value ∙ c.if-is.false), (sym c.is-2.ensures.value ∙ c.if-is-2.false), (sym c.is-3.ensures.value ∙ c.if-is-3.false), (sym c.is-4.ensures.value ∙ c.if-is-4.false)) (sym c.is-5.ensures.value ∙ c.if-is-5.true) (c.take-next.ensures.taken (is k.Dot) (sym c.is-5.ensures.value ∙ c.if-is-5.true))) (c.in_ok-token.ensures.gives c.args.budget.left) ∙ ap (λ y. got y c.args.budget.left (drop c.in_ok-token.end c.args.view.now)) (sym c.in_ok-node-2.ensures)

pub paren-returns-then-budget-eq0-clause-gives : goal.paren-returns-then-budget-eq0-clause-gives
paren-returns-then-budget-eq0-clause-gives t c = primary.paren_deep _ _ _ _ _ c.requires.0 c.requires.1 c.requires.2 c.if-budget-eq0.true

pub paren-returns-in_err-x-clause-gives : goal.paren-returns-in_err-x-clause-gives
paren-returns-in_err-x-clause-gives t c =
    let p = err_from_is_err_and c.from_residual.result c.from_residual.ensures.1 in
    rw (p.1, p.2) (passes _ _ _ _ _ (primary.primary_paren _ _ _ _ _ _ _ c.requires.0 c.requires.1 c.requires.2 c.if-budget-eq0.false (c.take-next.ensures.taken (is k.LeftParen) c.requires.2)) (c.in_err-x.ensures.gives))

pub paren-returns-in_err-after-clause-gives : goal.paren-returns-in_err-after-clause-gives
paren-returns-in_err-after-clause-gives t c =
    let p = err_from_is_err_and c.from_residual-in_err-after.result c.from_residual-in_err-after.ensures.1 in
    rw (p.1, p.2) (passes _ _ _ _ _ (after _ _ _ _ _ _ (primary.primary_paren _ _ _ _ _ _ _ c.requires.0 c.requires.1 c.requires.2 c.if-budget-eq0.false (c.take-next.ensures.taken (is k.LeftParen) c.requires.2)) (c.in_ok-x.ensures.gives)) (c.in_err-after.ensures.gives c.in_ok-x.left))

pub paren-returns-clause-gives : goal.paren-returns-clause-gives
paren-returns-clause-gives t c = after _ _ _ _ _ _ (after _ _ _ _ _ _ (primary.primary_paren _ _ _ _ _ _ _ c.requires.0 c.requires.1 c.requires.2 c.if-budget-eq0.false (c.take-next.ensures.taken (is k.LeftParen) c.requires.2)) (c.in_ok-x.ensures.gives)) (c.in_ok-after.ensures.gives c.in_ok-x.left) ∙ ap (λ y. got y c.in_ok-x.left (drop c.in_ok-after.after c.args.view.now)) (sym c.in_ok-node.ensures)

pub array-returns-then-not-is-clause-gives : goal.array-returns-then-not-is-clause-gives
array-returns-then-not-is-clause-gives t c = primary.array_none _ _ _ _ _ c.requires.0 c.requires.1 c.requires.2 (sym c.is.ensures.value ∙ c.if-not-is.true)

pub array-returns-then-budget-eq0-clause-gives : goal.array-returns-then-budget-eq0-clause-gives
array-returns-then-budget-eq0-clause-gives t c = primary.array_deep _ _ _ _ _ c.requires.0 c.requires.1 c.requires.2 (sym c.is.ensures.value ∙ c.if-not-is.false) c.if-budget-eq0.true

pub array-returns-in_err-xs-clause-gives : goal.array-returns-in_err-xs-clause-gives
array-returns-in_err-xs-clause-gives t c =
    let p = err_from_is_err_and c.from_residual.result c.from_residual.ensures.1 in
    rw (p.1, p.2) (passes _ _ _ _ _ (primary.primary_array _ _ _ _ _ _ _ c.requires.0 c.requires.1 c.requires.2 c.if-budget-eq0.false (c.take-next.ensures.taken (is k.LeftBracket) (sym c.is.ensures.value ∙ c.if-not-is.false))) (c.in_err-xs.ensures.gives))

pub array-returns-in_err-after-clause-gives : goal.array-returns-in_err-after-clause-gives
array-returns-in_err-after-clause-gives t c =
    let p = err_from_is_err_and c.from_residual-in_err-after.result c.from_residual-in_err-after.ensures.1 in
    rw (p.1, p.2) (passes _ _ _ _ _ (after _ _ _ _ _ _ (primary.primary_array _ _ _ _ _ _ _ c.requires.0 c.requires.1 c.requires.2 c.if-budget-eq0.false (c.take-next.ensures.taken (is k.LeftBracket) (sym c.is.ensures.value ∙ c.if-not-is.false))) (c.in_ok-xs.ensures.gives)) (c.in_err-after.ensures.gives c.in_ok-xs.left))

pub array-returns-clause-gives : goal.array-returns-clause-gives
array-returns-clause-gives t c = rw (c.in_ok-node.ensures) (rw (c.in_ok-kept.ensures) (after _ _ _ _ _ _ (after _ _ _ _ _ _ (primary.primary_array _ _ _ _ _ _ _ c.requires.0 c.requires.1 c.requires.2 c.if-budget-eq0.false (c.take-next.ensures.taken (is k.LeftBracket) (sym c.is.ensures.value ∙ c.if-not-is.false))) (c.in_ok-xs.ensures.gives)) (c.in_ok-after.ensures.gives c.in_ok-xs.left)))

pub elements-elements-init : goal.elements-elements-init
elements-elements-init t c = record {
  so_far = primary.more_elements_start _ _ _ _ _ ∙ ap (λ l. more_elements c.args.lenient c.args.budget.brackets c.args.budget.limit c.args.budget.left l (drop c.args.at c.args.view.now)) (sym c.new-xs.ensures);
  moves = omega arith;
  inside = omega arith;
}

pub elements-returns-in_err-x-clause-gives : goal.elements-returns-in_err-x-clause-gives
elements-returns-in_err-x-clause-gives t c =
    let p = err_from_is_err_and c.from_residual.result c.from_residual.ensures.1 in
    rw (p.1, p.2) (passes _ _ _ _ _ (c.elements.invariant.so_far ∙ primary.more_elements_more _ _ _ _ _ _ (sym c.is.ensures.value ∙ c.elements-test.true)) (c.in_err-x.ensures.gives))

pub elements-returns-then-not-is-clause-gives : goal.elements-returns-then-not-is-clause-gives
elements-returns-then-not-is-clause-gives t c = after _ _ _ _ _ _ (c.elements.invariant.so_far ∙ primary.more_elements_more _ _ _ _ _ _ (sym c.is.ensures.value ∙ c.elements-test.true)) (c.in_ok-x.ensures.gives) ∙ primary.more_after_end _ _ _ _ _ _ _ (sym c.is-in-elements.ensures.value ∙ c.if-not-is.true) ∙ ap (λ l. got l c.in_ok-x.x_left (drop c.in_ok-x.x_end c.args.view.now)) (sym c.in_ok-push.ensures.ok)

pub elements-elements-preserved : goal.elements-elements-preserved
elements-elements-preserved t c = record {
  so_far = after _ _ _ _ _ _ (c.elements.invariant.so_far ∙ primary.more_elements_more _ _ _ _ _ _ (sym c.is.ensures.value ∙ c.elements-test.true)) (c.in_ok-x.ensures.gives) ∙ primary.more_after_comma _ _ _ _ _ _ _ _ _ (sym c.is-in-elements.ensures.value ∙ c.if-not-is.false) (c.take-next.ensures.taken (is k.Comma) (sym c.is-in-elements.ensures.value ∙ c.if-not-is.false)) ∙ ap (λ l. more_elements c.args.lenient c.args.budget.brackets c.args.budget.limit c.in_ok-x.x_left l (drop c.take-next.result.1 c.args.view.now)) (sym c.in_ok-push.ensures.ok);
  moves = omega (arith, c.in_ok-x.ensures.moves);
  inside = omega (arith, c.is-in-elements.ensures.within (c.if-not-is.false));
}

pub elements-returns-clause-gives : goal.elements-returns-clause-gives
elements-returns-clause-gives t c = c.elements.invariant.so_far ∙ primary.more_elements_end _ _ _ _ _ _ (sym c.is.ensures.value ∙ c.elements-test.false)

pub literal-returns-then-is-clause-gives : goal.literal-returns-then-is-clause-gives
literal-returns-then-is-clause-gives t c = primary.primary_integer _ _ _ _ _ _ _ (sym c.is.ensures.value ∙ c.if-is.true) (c.take-end.ensures.taken (is k.Integer) (sym c.is.ensures.value ∙ c.if-is.true)) ∙ ap (λ x. got x c.args.budget.left (drop c.take-end.result.1 c.args.view.now)) (sym c.in_ok-node.ensures)

pub literal-returns-then-is-2-clause-gives : goal.literal-returns-then-is-2-clause-gives
literal-returns-then-is-2-clause-gives t c = primary.primary_bool _ _ _ _ _ _ _ (sym c.is.ensures.value ∙ c.if-is.false) (sym c.is-2.ensures.value ∙ c.if-is-2.true) (c.take-end-then-is-2.ensures.taken is_bool (sym c.is-2.ensures.value ∙ c.if-is-2.true)) ∙ ap (λ x. got x c.args.budget.left (drop c.take-end-then-is-2.result.1 c.args.view.now)) (sym c.in_ok-node-2.ensures)

pub literal-returns-then-is-3-clause-gives : goal.literal-returns-then-is-3-clause-gives
literal-returns-then-is-3-clause-gives t c = primary.primary_string _ _ _ _ _ _ _ (sym c.is.ensures.value ∙ c.if-is.false) (sym c.is-2.ensures.value ∙ c.if-is-2.false) (sym c.is-3.ensures.value ∙ c.if-is-3.true) (c.take-end-then-is-3.ensures.taken (is k.StringWhole) (sym c.is-3.ensures.value ∙ c.if-is-3.true)) ∙ ap (λ y. got y c.args.budget.left (drop c.take-end-then-is-3.result.1 c.args.view.now)) (sym c.in_ok-node-3.ensures)

pub string-returns-then-budget-eq0-clause-gives : goal.string-returns-then-budget-eq0-clause-gives
string-returns-then-budget-eq0-clause-gives t c = primary.string_deep _ _ _ _ _ c.requires.0 c.requires.1 c.requires.2 c.requires.3 c.if-budget-eq0.true

pub string-returns-in_err-x-clause-gives : goal.string-returns-in_err-x-clause-gives
string-returns-in_err-x-clause-gives t c =
    let p = err_from_is_err_and c.from_residual.result c.from_residual.ensures.1 in
    rw (p.1, p.2) (passes _ _ _ _ _ (primary.string_open _ _ _ _ _ _ _ c.requires.0 c.requires.1 c.requires.2 c.requires.3 c.if-budget-eq0.false (c.take-next.ensures.taken (is k.StringStart) c.requires.3)) (c.in_err-x.ensures.gives))

pub string-pieces-init : goal.string-pieces-init
string-pieces-init t c = record {
  so_far = after _ _ _ _ _ _ (primary.string_open _ _ _ _ _ _ _ c.requires.0 c.requires.1 c.requires.2 c.requires.3 c.if-budget-eq0.false (c.take-next.ensures.taken (is k.StringStart) c.requires.3)) (c.in_ok-x.ensures.gives) ∙ ap (λ l. string_rest c.args.lenient (c.args.budget.brackets - 1) c.args.budget.limit c.in_ok-x.left c.take-next.result.0.span c.take-next.result.0.text.now l c.in_ok-x.x (drop c.in_ok-x.end c.args.view.now)) (sym c.new-pieces.ensures);
  moves = omega (arith, c.in_ok-x.ensures.moves);
  inside = c.in_ok-x.ensures.inside;
}

pub string-returns-in_err-y-clause-gives : goal.string-returns-in_err-y-clause-gives
string-returns-in_err-y-clause-gives t c =
    let p = err_from_is_err_and c.from_residual-in_err-y.result c.from_residual-in_err-y.ensures.1 in
    rw (p.1, p.2) (passes _ _ _ _ _ (c.pieces.invariant.so_far ∙ primary.string_more _ _ _ _ _ _ _ _ _ _ _ (sym c.is.ensures.value ∙ c.pieces-test.true) (c.take-next-in-pieces.ensures.taken (is k.StringMiddle) (sym c.is.ensures.value ∙ c.pieces-test.true))) (c.in_err-y.ensures.gives))

pub string-pieces-preserved : goal.string-pieces-preserved
string-pieces-preserved t c = record {
  so_far = after _ _ _ _ _ _ (c.pieces.invariant.so_far ∙ primary.string_more _ _ _ _ _ _ _ _ _ _ _ (sym c.is.ensures.value ∙ c.pieces-test.true) (c.take-next-in-pieces.ensures.taken (is k.StringMiddle) (sym c.is.ensures.value ∙ c.pieces-test.true))) (c.in_ok-y.ensures.gives) ∙ ap (λ l. string_rest c.args.lenient (c.args.budget.brackets - 1) c.args.budget.limit c.in_ok-y.y_left c.take-next.result.0.span c.take-next.result.0.text.now l c.in_ok-y.y (drop c.in_ok-y.y_end c.args.view.now)) (sym (c.in_ok-push.ensures.ok ∙ ap (λ p. c.pieces.pieces ++ p ∷ []) c.in_ok-piece.ensures));
  moves = omega (arith, c.in_ok-y.ensures.moves);
  inside = c.in_ok-y.ensures.inside;
}

pub string-returns-in_err-last-clause-gives : goal.string-returns-in_err-last-clause-gives
string-returns-in_err-last-clause-gives t c =
    let p = err_from_is_err_and c.from_residual-in_err-last.result c.from_residual-in_err-last.ensures.1 in
    rw (p.1, p.2) (passes _ _ _ _ _ (c.pieces.invariant.so_far ∙ primary.string_last _ _ _ _ _ _ _ _ _ (sym c.is.ensures.value ∙ c.pieces-test.false)) (c.in_err-last.ensures.gives c.pieces.left))

pub string-returns-clause-gives : goal.string-returns-clause-gives
string-returns-clause-gives t c = rw (c.in_ok-node.ensures) (rw (c.in_ok-kept.ensures) (after _ _ _ _ _ _ (c.pieces.invariant.so_far ∙ primary.string_last _ _ _ _ _ _ _ _ _ (sym c.is.ensures.value ∙ c.pieces-test.false)) (c.in_ok-last.ensures.gives c.pieces.left) ∙ string_node _ _ _ _ _ _ _ _ _ c.in_ok-push-2.ensures.ok c.in_ok-piece-2.ensures))
