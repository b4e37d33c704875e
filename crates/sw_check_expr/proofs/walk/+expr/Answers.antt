use Rattle.std.proofs.Common.{◌≡◌, IfOk, OnOk, ap, sym, subst, ◌∙◌, refl, ◌<◌, ◌≤◌, ◌∷◌, [], ◌++◌, arith, get_or, length}
use Rattle.sw_findings.specs.Found.{keep_all, when}
use Rattle.sw_typed.specs.Syntax as x
use Rattle.sw_check_expr.specs.Typing.{check, implicit_told, told_callee, told_on, told_standing}
use Rattle.sw_check_expr.proofs.Arrays.{array_kept, array_typed, no_elements, string_kept}
use Rattle.sw_declared.specs.Declarations.{argument_labels}
use Rattle.sw_typed.specs.SyntaxOf.{expr_of}
use Rattle.sw_typing.specs.declared.need.Need.TheVariants.{Free}
use Rattle.sw_resolve.specs.Callees.{value_call_broken, value_called}
use Rattle.sw_check_expr.specs.Syntax.{first}
use Rattle.sw_check_expr.proofs.Callees.{is_value, of_implicit, of_member, on_kept, then_kept}
use Rattle.sw_check_expr.proofs.Nodes.{call_kept, call_typed, force_kept, implicit_kept, index_kept, member_kept, prefix_kept, ternary_kept}
use Rattle.sw_rules.specs.declared.Rule.TheVariants as rule
use Rattle.sw_check_expr.specs.Forms.{piece, is_unprintable}
use Rattle.sw_check_expr.proofs.Walks.{piece_kept, piece_more, pieces_kept, arg_kept, arg_more, args_kept, element_kept, element_more, elements_kept}
use Rattle.sw_check_expr.proofs.walk.+expr.Goals as goal

pub array_of-returns-in-None-clause-typed : goal.array_of-returns-in-None-clause-typed
unfolding check
array_of-returns-in-None-clause-typed t c =
    subst (λ y. IfOk c.empty_array.result (λ m. m ≡ (check (x.Array c.args.at y) c.args.site.now.scope.now c.args.site.now.need.now c.args.site.now.at).typed))
    (sym (no_elements c.args.es.now (sym c.in-None.ensures.value))) c.empty_array.ensures.typed

pub array_of-returns-in-None-clause-found : goal.array_of-returns-in-None-clause-found
unfolding check
array_of-returns-in-None-clause-found t c =
    subst (λ y. OnOk c.empty_array.result (c.empty_array.new.found ≡ keep_all c.args.found.now (check (x.Array c.args.at y) c.args.site.now.scope.now c.args.site.now.need.now c.args.site.now.at).faults))
    (sym (no_elements c.args.es.now (sym c.in-None.ensures.value))) c.empty_array.ensures.found

pub array_of-returns-in_ok-made-in-Some-clause-typed : goal.array_of-returns-in_ok-made-in-Some-clause-typed
array_of-returns-in_ok-made-in-Some-clause-typed t c =
    subst (λ k. IfOk c.elements.result (λ m. m ≡ k))
    (array_typed c.args.es.now c.in-Some.head.now c.args.site.now.scope.now c.args.site.now.need.now c.args.site.now.at c.args.at _ _ _ _ _
    c.in-Some.ensures.value c.in_ok-wanted-in-Some.ensures c.in_ok-need-in-Some.ensures c.in_ok-head-in-Some.ensures.typed c.in_ok-need-in-Some-2.ensures c.in_ok-made-in-Some.ensures.all)
    c.elements.ensures.typed

pub array_of-returns-in_ok-made-in-Some-clause-found : goal.array_of-returns-in_ok-made-in-Some-clause-found
array_of-returns-in_ok-made-in-Some-clause-found t c =
    subst (λ k. OnOk c.elements.result (c.elements.new.found ≡ k))
    (array_kept c.args.es.now c.in-Some.head.now c.args.site.now.scope.now c.args.site.now.need.now c.args.site.now.at c.args.at _ _ _ _ _ c.args.found.now _ _
    c.in-Some.ensures.value c.in_ok-wanted-in-Some.ensures c.in_ok-need-in-Some.ensures c.in_ok-head-in-Some.ensures.typed c.in_ok-need-in-Some-2.ensures c.in_ok-made-in-Some.ensures.all
    c.in_ok-head-in-Some.ensures.found c.in_ok-made-in-Some.ensures.found)
    c.elements.ensures.found

pub called-returns-in_ok-standing-in-Implicit-clause-found : goal.called-returns-in_ok-standing-in-Implicit-clause-found
called-returns-in_ok-standing-in-Implicit-clause-found t c =
    let scope = c.args.site.now.scope.now in
    let n = c.args.site.now.need.now in
    let labels = argument_labels c.args.list.now.1 in
    let here = c.args.list.now.0 in
    let told = ap (λ y. keep_all c.args.found.now (told_callee (expr_of y) scope n labels here).faults) c.in-Implicit.is
    ∙ ap (λ y. keep_all c.args.found.now (told_callee y scope n labels here).faults) (of_implicit c.in-Implicit.dot c.in-Implicit.name) in
    let kept = on_kept scope c.in_ok-standing-in-Implicit.standing (implicit_told n c.in-Implicit.dot) c.in-Implicit.name _ c.args.list.now.1 _ here c.args.found.now _
    c.in_ok-standing-in-Implicit.ensures.standing c.in_ok-standing-in-Implicit.ensures.found c.get-in-Implicit.ensures c.as_slice-arguments.ensures in
    subst (λ k. OnOk c.called_member.result (c.called_member.new.found ≡ k)) (kept ∙ sym told) c.called_member.ensures.found

pub called-returns-in_ok-standing-in-Member-clause-found : goal.called-returns-in_ok-standing-in-Member-clause-found
called-returns-in_ok-standing-in-Member-clause-found t c =
    let scope = c.args.site.now.scope.now in
    let n = c.args.site.now.need.now in
    let labels = argument_labels c.args.list.now.1 in
    let here = c.args.list.now.0 in
    let base = c.get-in-Member.result.now in
    let told = ap (λ y. keep_all c.args.found.now (told_callee (expr_of y) scope n labels here).faults) c.in-Member.is
    ∙ ap (λ y. keep_all c.args.found.now (told_callee y scope n labels here).faults) (of_member c.in-Member.base c.in-Member.name)
    ∙ ap (λ y. keep_all c.args.found.now (told_on scope (told_standing scope (expr_of y) (check (expr_of y) scope Free (first (expr_of y)))) c.in-Member.name labels here).faults) (sym c.get-in-Member.ensures) in
    let kept = on_kept scope c.in_ok-standing-in-Member.standing (told_standing scope (expr_of base) (check (expr_of base) scope Free (first (expr_of base)))) c.in-Member.name _ c.args.list.now.1 _ here c.args.found.now _
    c.in_ok-standing-in-Member.ensures.standing c.in_ok-standing-in-Member.ensures.found c.get-in-Member-2.ensures c.as_slice-arguments.ensures in
    subst (λ k. OnOk c.called_member-in-Member.result (c.called_member-in-Member.new.found ≡ k)) (kept ∙ sym told) c.called_member-in-Member.ensures.found

pub called-returns-in_ok-value-in_default : goal.called-returns-in_ok-value-in_default
called-returns-in_ok-value-in_default t c =
    let scope = c.args.site.now.scope.now in
    let labels = argument_labels c.args.list.now.1 in
    let here = c.args.list.now.0 in
    let told = is_value c.args.callee.now c.in_default.not-Name c.in_default.not-Implicit c.in_default.not-Member scope c.args.site.now.need.now labels here in
    let value = c.in_ok-value-in_default.value in
    let same : value_called value ≡ (told_callee (expr_of c.args.callee.now) scope c.args.site.now.need.now labels here).called =
    ap value_called c.in_ok-value-in_default.ensures.typed ∙ ap (λ t. t.called) (sym told) in
    let kept : keep_all c.placed.new.found (value_call_broken value here) ≡ keep_all c.args.found.now (told_callee (expr_of c.args.callee.now) scope c.args.site.now.need.now labels here).faults =
    ap (λ t. keep_all c.placed.new.found (value_call_broken t here)) c.in_ok-value-in_default.ensures.typed
    ∙ then_kept c.args.found.now c.placed.new.found _ _ _ c.in_ok-value-in_default.ensures.found refl ∙ ap (λ t. keep_all c.args.found.now t.faults) (sym told) in
    record {
      made = subst (λ k. IfOk c.called_value.result (λ m. m ≡ k)) same c.called_value.ensures.made;
      found = subst (λ k. OnOk c.called_value.result (c.called_value.new.found ≡ k)) kept c.called_value.ensures.found;
    }

pub constant-returns-in_ok-made-in-String-clause-found : goal.constant-returns-in_ok-made-in-String-clause-found
constant-returns-in_ok-made-in-String-clause-found t c =
    subst (λ k. OnOk c.string.result (c.string.new.found ≡ k))
    (string_kept c.args.value.now c.in-String.text _ c.in-String.list _ c.in_ok-made-in-String.made c.args.site.now.scope.now c.args.site.now.need.now c.args.site.now.at c.args.at c.args.found.now _
    c.in-String.is c.get-in-String.ensures c.get.ensures c.in_ok-made-in-String.ensures.all c.in_ok-made-in-String.ensures.found)
    c.string.ensures.found

pub expr-returns-in_ok-condition-in-Ternary-clause-found : goal.expr-returns-in_ok-condition-in-Ternary-clause-found
expr-returns-in_ok-condition-in-Ternary-clause-found t c =
    subst (λ k. OnOk c.branched.result (c.branched.new.found ≡ k))
    (ternary_kept c.args.e.now c.in-Ternary.condition _ c.in-Ternary.branches _ c.args.site.now.scope.now c.args.site.now.need.now c.args.site.now.at _ c.in_ok-condition-in-Ternary.condition c.args.found.now _
    c.in-Ternary.is c.get-in-Ternary.ensures c.get-in-Ternary-2.ensures c.bare.ensures c.in_ok-condition-in-Ternary.ensures.found)
    c.branched.ensures.found

pub expr-returns-in_ok-e-in-Prefix-clause-found : goal.expr-returns-in_ok-e-in-Prefix-clause-found
expr-returns-in_ok-e-in-Prefix-clause-found t c =
    subst (λ k. OnOk c.sign.result (c.sign.new.found ≡ k))
    (prefix_kept c.args.e.now c.in-Prefix.e _ c.in-Prefix.operator c.in-Prefix.at c.args.site.now.scope.now c.args.site.now.need.now c.args.site.now.at _ c.args.found.now _
    c.in-Prefix.is c.get-in-Prefix.ensures c.in_ok-e-in-Prefix.ensures.typed c.in_ok-e-in-Prefix.ensures.found)
    c.sign.ensures.found

pub expr-returns-in_ok-e-in-Force-clause-found : goal.expr-returns-in_ok-e-in-Force-clause-found
expr-returns-in_ok-e-in-Force-clause-found t c =
    subst (λ k. OnOk c.force.result (c.force.new.found ≡ k))
    (force_kept c.args.e.now c.in-Force.e _ c.in-Force.at c.args.site.now.scope.now c.args.site.now.need.now c.args.site.now.at _ c.args.found.now _
    c.in-Force.is c.get-in-Force.ensures c.in_ok-e-in-Force.ensures.typed c.in_ok-e-in-Force.ensures.found)
    c.force.ensures.found

pub expr-returns-in_ok-base-in-Index-clause-found : goal.expr-returns-in_ok-base-in-Index-clause-found
expr-returns-in_ok-base-in-Index-clause-found t c =
    subst (λ k. OnOk c.at_index.result (c.at_index.new.found ≡ k))
    (index_kept c.args.e.now c.in-Index.base _ c.in-Index.index _ c.args.site.now.scope.now c.args.site.now.need.now c.args.site.now.at _ c.args.found.now _
    c.in-Index.is c.get-in-Index.ensures c.get-in-Index-2.ensures c.in_ok-base-in-Index.ensures.typed c.in_ok-base-in-Index.ensures.found)
    c.at_index.ensures.found

pub expr-returns-in_ok-made-in-Member-clause-found : goal.expr-returns-in_ok-made-in-Member-clause-found
expr-returns-in_ok-made-in-Member-clause-found t c =
    subst (λ k. OnOk c.conclude.result (c.conclude.new.found ≡ k))
    (member_kept c.args.e.now c.in-Member.base _ c.in-Member.name _ c.args.site.now.scope.now c.args.site.now.need.now c.args.site.now.at _ _ c.args.found.now _ _
    c.in-Member.is c.get-in-Member.ensures c.in_ok-standing-in-Member.ensures.standing c.in_ok-standing-in-Member.ensures.found c.get-in-Member-2.ensures
    c.in_ok-made-in-Member.ensures.typed c.in_ok-made-in-Member.ensures.found)
    c.conclude.ensures.found

pub expr-returns-in_ok-made-in-Implicit-clause-found : goal.expr-returns-in_ok-made-in-Implicit-clause-found
expr-returns-in_ok-made-in-Implicit-clause-found t c =
    subst (λ k. OnOk c.conclude-in-Implicit.result (c.conclude-in-Implicit.new.found ≡ k))
    (implicit_kept c.args.e.now c.in-Implicit.dot c.in-Implicit.name _ c.args.site.now.scope.now c.args.site.now.need.now c.args.site.now.at _ _ c.args.found.now _ _
    c.in-Implicit.is c.in_ok-standing-in-Implicit.ensures.standing c.in_ok-standing-in-Implicit.ensures.found c.get-in-Implicit.ensures
    c.in_ok-made-in-Implicit.ensures.typed c.in_ok-made-in-Implicit.ensures.found)
    c.conclude-in-Implicit.ensures.found

pub expr-returns-in_ok-called-in-Call-clause-typed : goal.expr-returns-in_ok-called-in-Call-clause-typed
expr-returns-in_ok-called-in-Call-clause-typed t c =
    subst (λ k. IfOk c.call_of.result (λ m. m ≡ k))
    (call_typed c.args.e.now c.in-Call.callee _ c.in-Call.list _ _ c.args.site.now.scope.now c.args.site.now.need.now c.args.site.now.at _
    c.in-Call.is c.get-in-Call.ensures c.get-in-Call-2.ensures c.get-in-Call-3.ensures c.in_ok-called-in-Call.ensures.made)
    c.call_of.ensures.typed

pub expr-returns-in_ok-called-in-Call-clause-found : goal.expr-returns-in_ok-called-in-Call-clause-found
expr-returns-in_ok-called-in-Call-clause-found t c =
    subst (λ k. OnOk c.call_of.result (c.call_of.new.found ≡ k))
    (call_kept c.args.e.now c.in-Call.callee _ c.in-Call.list _ _ c.args.site.now.scope.now c.args.site.now.need.now c.args.site.now.at _ c.args.found.now _
    c.in-Call.is c.get-in-Call.ensures c.get-in-Call-2.ensures c.get-in-Call-3.ensures c.in_ok-called-in-Call.ensures.made c.in_ok-called-in-Call.ensures.found)
    c.call_of.ensures.found

pub pieces-loop-piece-preserved : goal.pieces-loop-piece-preserved
pieces-loop-piece-preserved t c =
    let h : c.loop-piece.piece-index < length c.args.list.now = grind (arith, c.loop-piece-test.true, c.as_slice-piece-items.ensures) in
    let is : c.piece-item.result ≡ get_or c.args.list.now c.loop-piece.piece-index c.piece-item.result =
    c.piece-item.is ∙ ap (λ xs. get_or xs c.loop-piece.piece-index c.piece-item.result) c.as_slice-piece-items.ensures in
    let pushed : c.push.new.self ≡ c.loop-piece.made ++ piece c.in_ok-value.value c.piece-item.result.text ∷ [] =
    c.in_ok-push.ensures.ok ∙ ap (λ t. c.loop-piece.made ++ piece c.in_ok-value.value t ∷ []) c.in_ok-text.ensures in
    let told : c.report.new.self ≡ keep_all c.placed.new.found (when (is_unprintable c.args.scope.now.known.now c.in_ok-value.value.ty) rule.E10 c.in_ok-value.value.first) =
    c.report.ensures ∙ ap (λ b. keep_all c.placed.new.found (when b rule.E10 c.in_ok-value.value.first)) c.is_unprintable.ensures in (
      piece_more c.args.list.now c.loop-piece.piece-index c.piece-item.result c.args.scope.now _ _ _ _ h is c.in_ok-value.ensures.typed pushed c.loop-piece.invariant.0,
      piece_kept c.args.list.now c.loop-piece.piece-index c.piece-item.result c.args.scope.now _ _ _ _ _ h is c.in_ok-value.ensures.typed c.in_ok-value.ensures.found told c.loop-piece.invariant.1,
    )

pub pieces-returns-clause-found : goal.pieces-returns-clause-found
pieces-returns-clause-found t c =
    let h : length c.args.list.now ≤ c.loop-piece.piece-index = grind (arith, c.loop-piece-test.false, c.as_slice-piece-items.ensures) in
    pieces_kept c.args.list.now c.loop-piece.piece-index c.args.scope.now _ _ h c.loop-piece.invariant.1

pub arguments-loop-position-preserved : goal.arguments-loop-position-preserved
arguments-loop-position-preserved t c =
    let h : c.loop-position.position < length c.args.list.now.1 = grind (arith, c.loop-position-test.true, c.as_slice-argument-items.ensures) in
    let is : c.argument-item.result ≡ get_or c.args.list.now.1 c.loop-position.position c.argument-item.result =
    c.argument-item.is ∙ ap (λ xs. get_or xs c.loop-position.position c.argument-item.result) c.as_slice-argument-items.ensures in (
      arg_more c.args.list.now.1 c.loop-position.position c.argument-item.result c.args.scope.now c.args.needs.now _ _ _ _ _ h is c.need_at-need.ensures c.in_ok-placed.ensures.typed c.in_ok-push.ensures.ok c.loop-position.invariant.0,
      arg_kept c.args.list.now.1 c.loop-position.position c.argument-item.result c.args.scope.now c.args.needs.now _ _ _ _ h is c.need_at-need.ensures c.in_ok-placed.ensures.found c.loop-position.invariant.1,
    )

pub arguments-returns-clause-found : goal.arguments-returns-clause-found
arguments-returns-clause-found t c =
    let h : length c.args.list.now.1 ≤ c.loop-position.position = grind (arith, c.loop-position-test.false, c.as_slice-argument-items.ensures) in
    args_kept c.args.list.now.1 c.loop-position.position c.args.scope.now c.args.needs.now _ _ h c.loop-position.invariant.1

pub other_elements-loop-i-preserved : goal.other_elements-loop-i-preserved
other_elements-loop-i-preserved t c =
    let h : c.loop-i.i < length c.args.es.now = grind (arith, c.loop-i-test.true, c.len-i-end.ensures) in
    let is : c.index-as_slice-i.result ≡ get_or c.args.es.now c.loop-i.i c.index-as_slice-i.result =
    c.index-as_slice-i.is ∙ ap (λ xs. get_or xs c.loop-i.i c.index-as_slice-i.result) c.as_slice.ensures in (
      element_more c.args.es.now c.loop-i.i c.index-as_slice-i.result c.args.scope.now c.args.need.now _ _ _ _ h is c.in_ok-placed.ensures.typed c.in_ok-push-2.ensures.ok c.loop-i.invariant.0,
      element_kept c.args.es.now c.loop-i.i c.index-as_slice-i.result c.args.scope.now c.args.need.now _ _ _ h is c.in_ok-placed.ensures.found c.loop-i.invariant.1,
    )

pub other_elements-returns-clause-found : goal.other_elements-returns-clause-found
other_elements-returns-clause-found t c =
    let h : length c.args.es.now ≤ c.loop-i.i = grind (arith, c.loop-i-test.false, c.len-i-end.ensures) in
    elements_kept c.args.es.now c.loop-i.i c.args.scope.now c.args.need.now _ _ h c.loop-i.invariant.1
