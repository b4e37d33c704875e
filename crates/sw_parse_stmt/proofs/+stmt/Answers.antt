use Rattle.std.proofs.Common.{arith, drop, sym, ap, true, ◌-◌, [], ◌∷◌, ◌++◌, ◌∙◌}
use Rattle.std.proofs.lemmas.Result.{err_from_is_err_and}
use Rattle.sw_lex.specs.declared.token.TokenKind.TheVariants as k
use Rattle.sw_syntax.specs.Bodies.{body_from, branches_from, catches_from}
use Rattle.sw_syntax.specs.Nonterminals as nonterminal
use Rattle.sw_syntax.specs.Tests.{is, is_else, is_else_if}
use Rattle.sw_syntax.specs.declared.view.Stop.TheVariants.{Refused}
use Rattle.sw_syntax.proofs.BodyEquations as body
use Rattle.sw_syntax.proofs.Exits.{after, gives_going, passes}
use Rattle.sw_syntax.proofs.IfEquations as branch
use Rattle.sw_syntax.proofs.StmtEquations as stmt
use Rattle.sw_parse_stmt.proofs.Exits.{arm_then, arms_begin, ended_whole, goes_over, going_passes, is_so, no_else}
use Rattle.sw_parse_stmt.specs.Statements.{after_arms, ended, goes_on, stepped}
use Rattle.sw_parse_stmt.specs.declared.bodies.ReadBody.{ReadBody}
use Rattle.sw_parse_stmt.specs.declared.steps.Step.{Step}
use Rattle.sw_parse_stmt.proofs.+stmt.Goals as goal

pub bodies::block-returns-then-not-is-clause-gives : goal.bodies::block-returns-then-not-is-clause-gives
bodies::block-returns-then-not-is-clause-gives t c = stmt.block_none _ _ _ _ _ (sym c.is.ensures.value ∙ c.if-not-is.true)

pub bodies::block-returns-then-budget-eq0-clause-gives : goal.bodies::block-returns-then-budget-eq0-clause-gives
bodies::block-returns-then-budget-eq0-clause-gives t c = stmt.block_deep _ _ _ _ _ (sym c.is.ensures.value ∙ c.if-not-is.false) c.if-budget-eq0.true

pub bodies::block-returns-in_err-read_body-clause-gives : goal.bodies::block-returns-in_err-read_body-clause-gives
bodies::block-returns-in_err-read_body-clause-gives t c =
    let p = err_from_is_err_and c.from_residual.result c.from_residual.ensures.1 in
    rw (p.1, p.2) (going_passes {A = ReadBody} (ended c.args.lenient nonterminal.InBlock (c.args.budget.brackets - 1) c.args.budget.limit) _ _ _ _ _ (stmt.block_open _ _ _ _ _ _ _ c.if-budget-eq0.false (c.take-next.ensures.taken (is k.LeftBrace) (sym c.is.ensures.value ∙ c.if-not-is.false))) (c.in_err-read_body.ensures.gives nonterminal.InBlock))

pub bodies::block-returns-in_err-after-clause-gives : goal.bodies::block-returns-in_err-after-clause-gives
bodies::block-returns-in_err-after-clause-gives t c =
    let p = err_from_is_err_and c.from_residual-in_err-after.result c.from_residual-in_err-after.ensures.1 in
    rw (p.1, p.2) (passes _ _ _ _ _ (after _ _ _ _ _ _ (stmt.block_open _ _ _ _ _ _ _ c.if-budget-eq0.false (c.take-next.ensures.taken (is k.LeftBrace) (sym c.is.ensures.value ∙ c.if-not-is.false))) (c.in_ok-read_body.ensures.gives nonterminal.InBlock)) (c.in_err-after.ensures.gives c.in_ok-read_body.left))

pub bodies::block-returns-clause-gives : goal.bodies::block-returns-clause-gives
bodies::block-returns-clause-gives t c = rw (c.in_ok-kept.ensures) (after _ _ _ _ _ _ (after _ _ _ _ _ _ (stmt.block_open _ _ _ _ _ _ _ c.if-budget-eq0.false (c.take-next.ensures.taken (is k.LeftBrace) (sym c.is.ensures.value ∙ c.if-not-is.false))) (c.in_ok-read_body.ensures.gives nonterminal.InBlock)) (c.in_ok-after.ensures.gives c.in_ok-read_body.left))

pub bodies::body-statements-init : goal.bodies::body-statements-init
bodies::body-statements-init t c = record {
  so_far = λ context. ap (λ l. body_from c.args.lenient context c.args.budget.brackets c.args.budget.limit c.args.budget.left l (drop c.args.at c.args.view.now)) (sym c.new-block.ensures);
  moves = omega arith;
  inside = c.requires;
}

pub bodies::body-returns-in_err-step-clause-gives : goal.bodies::body-returns-in_err-step-clause-gives
bodies::body-returns-in_err-step-clause-gives t c =
    let p = err_from_is_err_and c.from_residual.result c.from_residual.ensures.1 in
    rw (p.1, p.2) (λ context. goes_over {A = Step} {C = ReadBody} (stepped c.args.lenient context c.args.budget.brackets c.args.budget.limit c.statements.block) (ended c.args.lenient context c.args.budget.brackets c.args.budget.limit) _ _ _ _ (c.statements.invariant.so_far context) (c.in_err-step.ensures.gives context c.statements.block))

pub bodies::body-statements-preserved : goal.bodies::body-statements-preserved
bodies::body-statements-preserved t c = record {
  so_far = λ context. c.statements.invariant.so_far context ∙ c.in_ok-step.ensures.gives context c.statements.block ∙ ap (λ b. goes_on c.args.lenient context c.args.budget.brackets c.args.budget.limit c.in_ok-step.step_left (c.statements.block ++ c.in_ok-step.step.statement ∷ []) b (drop c.in_ok-step.step_end c.args.view.now)) (is_so _ c.if-not-step.false) ∙ ap (λ l. body_from c.args.lenient context c.args.budget.brackets c.args.budget.limit c.in_ok-step.step_left l (drop c.in_ok-step.step_end c.args.view.now)) (sym c.in_ok-push.ensures.ok);
  moves = omega (arith, c.in_ok-step.ensures.moves, c.statements.invariant.moves);
  inside = c.in_ok-step.ensures.inside;
}

pub bodies::body-returns-clause-gives : goal.bodies::body-returns-clause-gives
bodies::body-returns-clause-gives t c = λ context. c.statements.invariant.so_far context ∙ ended_whole c.args.lenient context _ _ _ _ _ _ (sym c.stands.ensures.value ∙ c.statements-test.false) c.stands-before_arm.ensures.value

pub bodies::statement-returns-in_err-statement-clause-gives : goal.bodies::statement-returns-in_err-statement-clause-gives
bodies::statement-returns-in_err-statement-clause-gives t c =
    let p = err_from_is_err_and c.from_residual.result c.from_residual.ensures.1 in
    rw (p.1, p.2) (λ context xs. gives_going {A = Step} (stepped c.args.lenient context c.args.budget.brackets c.args.budget.limit xs) _ _ _ _ _ (body.body_open _ context _ _ _ xs _ (sym c.stands.ensures.value ∙ c.if-stands.true)) (c.in_err-statement.ensures.gives))

pub bodies::statement-returns-then-stands-clause-gives : goal.bodies::statement-returns-then-stands-clause-gives
bodies::statement-returns-then-stands-clause-gives t c = λ context xs. after _ _ _ _ _ _ (body.body_open _ context _ _ _ xs _ (sym c.stands.ensures.value ∙ c.if-stands.true)) (c.in_ok-statement.ensures.gives) ∙ c.separator-goes_on.ensures.gives c.args.lenient context nonterminal.Open c.args.budget.brackets c.args.budget.limit c.in_ok-statement.left xs c.in_ok-statement.statement c.stands-is_below.ensures.value

pub bodies::statement-returns-in_err-statement-2-clause-gives : goal.bodies::statement-returns-in_err-statement-2-clause-gives
bodies::statement-returns-in_err-statement-2-clause-gives t c =
    let p = err_from_is_err_and c.from_residual-in_err-statement-2.result c.from_residual-in_err-statement-2.ensures.1 in
    rw (p.1, p.2) (λ context xs. gives_going {A = Step} (stepped c.args.lenient context c.args.budget.brackets c.args.budget.limit xs) _ _ _ _ _ (body.body_closed _ context _ _ _ xs _ (sym c.stands.ensures.value ∙ c.if-stands.false) (sym c.stands-2.ensures.value ∙ c.if-stands-2.true)) (c.in_err-statement-2.ensures.gives))

pub bodies::statement-returns-then-stands-2-clause-gives : goal.bodies::statement-returns-then-stands-2-clause-gives
bodies::statement-returns-then-stands-2-clause-gives t c = λ context xs. after _ _ _ _ _ _ (body.body_closed _ context _ _ _ xs _ (sym c.stands.ensures.value ∙ c.if-stands.false) (sym c.stands-2.ensures.value ∙ c.if-stands-2.true)) (c.in_ok-statement-2.ensures.gives) ∙ c.separator-goes_on-then-stands-2.ensures.gives c.args.lenient context nonterminal.Closed c.args.budget.brackets c.args.budget.limit c.in_ok-statement-2.left xs c.in_ok-statement-2.statement c.stands-is_below-then-stands-2.ensures.value

pub branches::branch-returns-in_err-token-clause-gives : goal.branches::branch-returns-in_err-token-clause-gives
branches::branch-returns-in_err-token-clause-gives t c =
    let p = err_from_is_err_and c.from_residual.result c.from_residual.ensures.1 in
    rw (p.1, p.2) (passes _ _ _ _ _ (branch.branch_if _ _ _ _ _) (c.in_err-token.ensures.gives c.args.budget.left))

pub branches::branch-returns-in_err-conditions-clause-gives : goal.branches::branch-returns-in_err-conditions-clause-gives
branches::branch-returns-in_err-conditions-clause-gives t c =
    let p = err_from_is_err_and c.from_residual-in_err-conditions.result c.from_residual-in_err-conditions.ensures.1 in
    rw (p.1, p.2) (passes _ _ _ _ _ (after _ _ _ _ _ _ (branch.branch_if _ _ _ _ _) (c.in_ok-token.ensures.gives c.args.budget.left)) (c.in_err-conditions.ensures.gives))

pub branches::branch-returns-in_err-body-clause-gives : goal.branches::branch-returns-in_err-body-clause-gives
branches::branch-returns-in_err-body-clause-gives t c =
    let p = err_from_is_err_and c.from_residual-in_err-body.result c.from_residual-in_err-body.ensures.1 in
    rw (p.1, p.2) (passes _ _ _ _ _ (after _ _ _ _ _ _ (after _ _ _ _ _ _ (branch.branch_if _ _ _ _ _) (c.in_ok-token.ensures.gives c.args.budget.left)) (c.in_ok-conditions.ensures.gives)) (c.in_err-body.ensures.gives))

pub branches::branch-returns-clause-gives : goal.branches::branch-returns-clause-gives
branches::branch-returns-clause-gives t c = after _ _ _ _ _ _ (after _ _ _ _ _ _ (after _ _ _ _ _ _ (branch.branch_if _ _ _ _ _) (c.in_ok-token.ensures.gives c.args.budget.left)) (c.in_ok-conditions.ensures.gives)) (c.in_ok-body.ensures.gives)

pub branches::if_statement-returns-in_err-first-clause-gives : goal.branches::if_statement-returns-in_err-first-clause-gives
branches::if_statement-returns-in_err-first-clause-gives t c =
    let p = err_from_is_err_and c.from_residual.result c.from_residual.ensures.1 in
    rw (p.1, p.2) (passes _ _ _ _ _ (stmt.closed_if _ _ _ _ _ c.requires) (passes _ _ _ _ _ (branch.if_first _ _ _ _ _) (c.in_err-first.ensures.gives)))

pub branches::if_statement-branches-init : goal.branches::if_statement-branches-init
branches::if_statement-branches-init t c = record {
  so_far = after _ _ _ _ _ _ (branch.if_first _ _ _ _ _) (c.in_ok-first.ensures.gives) ∙ ap (λ l. branches_from c.args.lenient c.args.budget.brackets c.args.budget.limit c.in_ok-first.left c.in_ok-first.first l (drop c.in_ok-first.end c.args.view.now)) (sym c.new-others.ensures);
  moves = omega (arith, c.in_ok-first.ensures.moves);
  inside = c.in_ok-first.ensures.inside;
}

pub branches::if_statement-returns-then-left-eq0-clause-gives : goal.branches::if_statement-returns-then-left-eq0-clause-gives
branches::if_statement-returns-then-left-eq0-clause-gives t c = passes c.args.view.now (Refused c.branches.end true) _ _ _ (stmt.closed_if _ _ _ _ _ c.requires) (c.branches.invariant.so_far ∙ branch.branches_over_budget _ _ _ _ _ _ _ (no_else _ (sym c.stands.ensures.value ∙ c.branches-test.true)) (sym c.stands.ensures.value ∙ c.branches-test.true) c.if-left-eq0.true)

pub branches::if_statement-returns-in_err-other-clause-gives : goal.branches::if_statement-returns-in_err-other-clause-gives
branches::if_statement-returns-in_err-other-clause-gives t c =
    let p = err_from_is_err_and c.from_residual-in_err-other.result c.from_residual-in_err-other.ensures.1 in
    rw (p.1, p.2) (passes _ _ _ _ _ (stmt.closed_if _ _ _ _ _ c.requires) (passes _ _ _ _ _ (c.branches.invariant.so_far ∙ branch.branches_more _ _ _ _ _ _ _ _ _ (no_else _ (sym c.stands.ensures.value ∙ c.branches-test.true)) (sym c.stands.ensures.value ∙ c.branches-test.true) c.if-left-eq0.false (c.take-next.ensures.taken is_else_if (sym c.stands.ensures.value ∙ c.branches-test.true))) (c.in_err-other.ensures.gives)))

pub branches::if_statement-branches-preserved : goal.branches::if_statement-branches-preserved
branches::if_statement-branches-preserved t c = record {
  so_far = after _ _ _ _ _ _ (c.branches.invariant.so_far ∙ branch.branches_more _ _ _ _ _ _ _ _ _ (no_else _ (sym c.stands.ensures.value ∙ c.branches-test.true)) (sym c.stands.ensures.value ∙ c.branches-test.true) c.if-left-eq0.false (c.take-next.ensures.taken is_else_if (sym c.stands.ensures.value ∙ c.branches-test.true))) (c.in_ok-other.ensures.gives) ∙ ap (λ l. branches_from c.args.lenient c.args.budget.brackets c.args.budget.limit c.in_ok-other.other_left c.in_ok-first.first l (drop c.in_ok-other.other_end c.args.view.now)) (sym c.in_ok-push.ensures.ok);
  moves = omega (arith, c.in_ok-other.ensures.moves);
  inside = c.in_ok-other.ensures.inside;
}

pub branches::if_statement-returns-then-not-stands-clause-gives : goal.branches::if_statement-returns-then-not-stands-clause-gives
branches::if_statement-returns-then-not-stands-clause-gives t c = rw (c.in_ok-kept.ensures) (after _ _ _ _ _ _ (stmt.closed_if _ _ _ _ _ c.requires) (c.branches.invariant.so_far ∙ branch.branches_none _ _ _ _ _ _ _ (sym c.stands-2.ensures.value ∙ c.if-not-stands.true) (sym c.stands.ensures.value ∙ c.branches-test.false)))

pub branches::if_statement-returns-in_err-body-clause-gives : goal.branches::if_statement-returns-in_err-body-clause-gives
branches::if_statement-returns-in_err-body-clause-gives t c =
    let p = err_from_is_err_and c.from_residual-in_err-body.result c.from_residual-in_err-body.ensures.1 in
    rw (p.1, p.2) (passes _ _ _ _ _ (stmt.closed_if _ _ _ _ _ c.requires) (passes _ _ _ _ _ (c.branches.invariant.so_far ∙ branch.branches_else _ _ _ _ _ _ _ _ _ (sym c.stands-2.ensures.value ∙ c.if-not-stands.false) (c.take-next-2.ensures.taken is_else (sym c.stands-2.ensures.value ∙ c.if-not-stands.false))) (c.in_err-body.ensures.gives)))

pub branches::if_statement-returns-clause-gives : goal.branches::if_statement-returns-clause-gives
branches::if_statement-returns-clause-gives t c = rw (c.in_ok-kept-2.ensures) (after _ _ _ _ _ _ (stmt.closed_if _ _ _ _ _ c.requires) (after _ _ _ _ _ _ (c.branches.invariant.so_far ∙ branch.branches_else _ _ _ _ _ _ _ _ _ (sym c.stands-2.ensures.value ∙ c.if-not-stands.false) (c.take-next-2.ensures.taken is_else (sym c.stands-2.ensures.value ∙ c.if-not-stands.false))) (c.in_ok-body.ensures.gives)))

pub nested::guard_statement-returns-in_err-conditions-clause-gives : goal.nested::guard_statement-returns-in_err-conditions-clause-gives
nested::guard_statement-returns-in_err-conditions-clause-gives t c =
    let p = err_from_is_err_and c.from_residual.result c.from_residual.ensures.1 in
    rw (p.1, p.2) (passes _ _ _ _ _ (stmt.closed_guard _ _ _ _ _ _ _ c.requires.0 c.requires.1 (c.take-next.ensures.taken (is k.Guard) c.requires.1)) (c.in_err-conditions.ensures.gives))

pub nested::guard_statement-returns-in_err-block_at-clause-gives : goal.nested::guard_statement-returns-in_err-block_at-clause-gives
nested::guard_statement-returns-in_err-block_at-clause-gives t c =
    let p = err_from_is_err_and c.from_residual-in_err-block_at.result c.from_residual-in_err-block_at.ensures.1 in
    rw (p.1, p.2) (passes _ _ _ _ _ (after _ _ _ _ _ _ (stmt.closed_guard _ _ _ _ _ _ _ c.requires.0 c.requires.1 (c.take-next.ensures.taken (is k.Guard) c.requires.1)) (c.in_ok-conditions.ensures.gives)) (c.in_err-block_at.ensures.gives c.in_ok-conditions.left))

pub nested::guard_statement-returns-in_err-body-clause-gives : goal.nested::guard_statement-returns-in_err-body-clause-gives
nested::guard_statement-returns-in_err-body-clause-gives t c =
    let p = err_from_is_err_and c.from_residual-in_err-body.result c.from_residual-in_err-body.ensures.1 in
    rw (p.1, p.2) (passes _ _ _ _ _ (after _ _ _ _ _ _ (after _ _ _ _ _ _ (stmt.closed_guard _ _ _ _ _ _ _ c.requires.0 c.requires.1 (c.take-next.ensures.taken (is k.Guard) c.requires.1)) (c.in_ok-conditions.ensures.gives)) (c.in_ok-block_at.ensures.gives c.in_ok-conditions.left)) (c.in_err-body.ensures.gives))

pub nested::guard_statement-returns-clause-gives : goal.nested::guard_statement-returns-clause-gives
nested::guard_statement-returns-clause-gives t c = after _ _ _ _ _ _ (after _ _ _ _ _ _ (after _ _ _ _ _ _ (stmt.closed_guard _ _ _ _ _ _ _ c.requires.0 c.requires.1 (c.take-next.ensures.taken (is k.Guard) c.requires.1)) (c.in_ok-conditions.ensures.gives)) (c.in_ok-block_at.ensures.gives c.in_ok-conditions.left)) (c.in_ok-body.ensures.gives)

pub nested::while_statement-returns-in_err-conditions-clause-gives : goal.nested::while_statement-returns-in_err-conditions-clause-gives
nested::while_statement-returns-in_err-conditions-clause-gives t c =
    let p = err_from_is_err_and c.from_residual.result c.from_residual.ensures.1 in
    rw (p.1, p.2) (passes _ _ _ _ _ (stmt.closed_while _ _ _ _ _ _ _ c.requires.0 c.requires.1 c.requires.2 (c.take-next.ensures.taken (is k.While) c.requires.2)) (c.in_err-conditions.ensures.gives))

pub nested::while_statement-returns-in_err-body-clause-gives : goal.nested::while_statement-returns-in_err-body-clause-gives
nested::while_statement-returns-in_err-body-clause-gives t c =
    let p = err_from_is_err_and c.from_residual-in_err-body.result c.from_residual-in_err-body.ensures.1 in
    rw (p.1, p.2) (passes _ _ _ _ _ (after _ _ _ _ _ _ (stmt.closed_while _ _ _ _ _ _ _ c.requires.0 c.requires.1 c.requires.2 (c.take-next.ensures.taken (is k.While) c.requires.2)) (c.in_ok-conditions.ensures.gives)) (c.in_err-body.ensures.gives))

pub nested::while_statement-returns-clause-gives : goal.nested::while_statement-returns-clause-gives
nested::while_statement-returns-clause-gives t c = after _ _ _ _ _ _ (after _ _ _ _ _ _ (stmt.closed_while _ _ _ _ _ _ _ c.requires.0 c.requires.1 c.requires.2 (c.take-next.ensures.taken (is k.While) c.requires.2)) (c.in_ok-conditions.ensures.gives)) (c.in_ok-body.ensures.gives)

pub nested::for_statement-returns-in_err-name-clause-gives : goal.nested::for_statement-returns-in_err-name-clause-gives
nested::for_statement-returns-in_err-name-clause-gives t c =
    let p = err_from_is_err_and c.from_residual.result c.from_residual.ensures.1 in
    rw (p.1, p.2) (passes _ _ _ _ _ (stmt.closed_for _ _ _ _ _ _ _ c.requires.0 c.requires.1 (c.take-next.ensures.taken (is k.For) c.requires.1)) (c.in_err-name.ensures.gives))

pub nested::for_statement-returns-in_err-start_at-clause-gives : goal.nested::for_statement-returns-in_err-start_at-clause-gives
nested::for_statement-returns-in_err-start_at-clause-gives t c =
    let p = err_from_is_err_and c.from_residual-in_err-start_at.result c.from_residual-in_err-start_at.ensures.1 in
    rw (p.1, p.2) (passes _ _ _ _ _ (after _ _ _ _ _ _ (stmt.closed_for _ _ _ _ _ _ _ c.requires.0 c.requires.1 (c.take-next.ensures.taken (is k.For) c.requires.1)) (c.in_ok-name.ensures.gives)) (c.in_err-start_at.ensures.gives c.in_ok-name.left))

pub nested::for_statement-returns-in_err-start-clause-gives : goal.nested::for_statement-returns-in_err-start-clause-gives
nested::for_statement-returns-in_err-start-clause-gives t c =
    let p = err_from_is_err_and c.from_residual-in_err-start.result c.from_residual-in_err-start.ensures.1 in
    rw (p.1, p.2) (passes _ _ _ _ _ (after _ _ _ _ _ _ (after _ _ _ _ _ _ (stmt.closed_for _ _ _ _ _ _ _ c.requires.0 c.requires.1 (c.take-next.ensures.taken (is k.For) c.requires.1)) (c.in_ok-name.ensures.gives)) (c.in_ok-start_at.ensures.gives c.in_ok-name.left)) (c.in_err-start.ensures.gives))

pub nested::for_statement-returns-in_err-range-clause-gives : goal.nested::for_statement-returns-in_err-range-clause-gives
nested::for_statement-returns-in_err-range-clause-gives t c =
    let p = err_from_is_err_and c.from_residual-in_err-range.result c.from_residual-in_err-range.ensures.1 in
    rw (p.1, p.2) (passes _ _ _ _ _ (after _ _ _ _ _ _ (after _ _ _ _ _ _ (after _ _ _ _ _ _ (stmt.closed_for _ _ _ _ _ _ _ c.requires.0 c.requires.1 (c.take-next.ensures.taken (is k.For) c.requires.1)) (c.in_ok-name.ensures.gives)) (c.in_ok-start_at.ensures.gives c.in_ok-name.left)) (c.in_ok-start.ensures.gives)) (c.in_err-range.ensures.gives))

pub nested::for_statement-returns-in_err-body-clause-gives : goal.nested::for_statement-returns-in_err-body-clause-gives
nested::for_statement-returns-in_err-body-clause-gives t c =
    let p = err_from_is_err_and c.from_residual-in_err-body.result c.from_residual-in_err-body.ensures.1 in
    rw (p.1, p.2) (passes _ _ _ _ _ (after _ _ _ _ _ _ (after _ _ _ _ _ _ (after _ _ _ _ _ _ (after _ _ _ _ _ _ (stmt.closed_for _ _ _ _ _ _ _ c.requires.0 c.requires.1 (c.take-next.ensures.taken (is k.For) c.requires.1)) (c.in_ok-name.ensures.gives)) (c.in_ok-start_at.ensures.gives c.in_ok-name.left)) (c.in_ok-start.ensures.gives)) (c.in_ok-range.ensures.gives)) (c.in_err-body.ensures.gives))

pub nested::for_statement-returns-clause-gives : goal.nested::for_statement-returns-clause-gives
nested::for_statement-returns-clause-gives t c = after _ _ _ _ _ _ (after _ _ _ _ _ _ (after _ _ _ _ _ _ (after _ _ _ _ _ _ (after _ _ _ _ _ _ (stmt.closed_for _ _ _ _ _ _ _ c.requires.0 c.requires.1 (c.take-next.ensures.taken (is k.For) c.requires.1)) (c.in_ok-name.ensures.gives)) (c.in_ok-start_at.ensures.gives c.in_ok-name.left)) (c.in_ok-start.ensures.gives)) (c.in_ok-range.ensures.gives)) (c.in_ok-body.ensures.gives)

pub nested::catches-catches-init : goal.nested::catches-catches-init
nested::catches-catches-init t c = record {
  so_far = ap (λ l. catches_from c.args.lenient c.args.budget.brackets c.args.budget.limit c.args.budget.left l (drop c.args.at c.args.view.now)) (sym c.new-xs.ensures);
  moves = omega arith;
  inside = c.requires;
}

pub nested::catches-returns-in_err-pattern-clause-gives : goal.nested::catches-returns-in_err-pattern-clause-gives
nested::catches-returns-in_err-pattern-clause-gives t c =
    let p = err_from_is_err_and c.from_residual.result c.from_residual.ensures.1 in
    rw (p.1, p.2) (passes _ _ _ _ _ (c.catches.invariant.so_far ∙ stmt.catches_more _ _ _ _ _ _ _ _ (sym c.is.ensures.value ∙ c.catches-test.true) (c.take-next.ensures.taken (is k.Catch) (sym c.is.ensures.value ∙ c.catches-test.true))) (c.in_err-pattern.ensures.gives))

pub nested::catches-returns-in_err-body-clause-gives : goal.nested::catches-returns-in_err-body-clause-gives
nested::catches-returns-in_err-body-clause-gives t c =
    let p = err_from_is_err_and c.from_residual-in_err-body.result c.from_residual-in_err-body.ensures.1 in
    rw (p.1, p.2) (passes _ _ _ _ _ (after _ _ _ _ _ _ (c.catches.invariant.so_far ∙ stmt.catches_more _ _ _ _ _ _ _ _ (sym c.is.ensures.value ∙ c.catches-test.true) (c.take-next.ensures.taken (is k.Catch) (sym c.is.ensures.value ∙ c.catches-test.true))) (c.in_ok-pattern.ensures.gives)) (c.in_err-body.ensures.gives))

pub nested::catches-catches-preserved : goal.nested::catches-catches-preserved
nested::catches-catches-preserved t c = record {
  so_far = after _ _ _ _ _ _ (after _ _ _ _ _ _ (c.catches.invariant.so_far ∙ stmt.catches_more _ _ _ _ _ _ _ _ (sym c.is.ensures.value ∙ c.catches-test.true) (c.take-next.ensures.taken (is k.Catch) (sym c.is.ensures.value ∙ c.catches-test.true))) (c.in_ok-pattern.ensures.gives)) (c.in_ok-body.ensures.gives) ∙ ap (λ l. catches_from c.args.lenient c.args.budget.brackets c.args.budget.limit c.in_ok-body.body_left l (drop c.in_ok-body.body_end c.args.view.now)) (sym c.in_ok-push.ensures.ok);
  moves = omega (arith, c.in_ok-body.ensures.moves, c.in_ok-pattern.ensures.stays, c.catches.invariant.moves);
  inside = c.in_ok-body.ensures.inside;
}

pub nested::catches-returns-clause-gives : goal.nested::catches-returns-clause-gives
nested::catches-returns-clause-gives t c = rw (c.in_ok-kept.ensures) (c.catches.invariant.so_far ∙ stmt.catches_end _ _ _ _ _ _ (sym c.is.ensures.value ∙ c.catches-test.false))

pub nested::do_statement-returns-in_err-body-clause-gives : goal.nested::do_statement-returns-in_err-body-clause-gives
nested::do_statement-returns-in_err-body-clause-gives t c =
    let p = err_from_is_err_and c.from_residual.result c.from_residual.ensures.1 in
    rw (p.1, p.2) (passes _ _ _ _ _ (stmt.closed_do _ _ _ _ _ _ _ c.requires.0 c.requires.1 c.requires.2 c.requires.3 (c.take-next.ensures.taken (is k.Do) c.requires.3)) (c.in_err-body.ensures.gives))

pub nested::do_statement-returns-in_err-handlers-clause-gives : goal.nested::do_statement-returns-in_err-handlers-clause-gives
nested::do_statement-returns-in_err-handlers-clause-gives t c =
    let p = err_from_is_err_and c.from_residual-in_err-handlers.result c.from_residual-in_err-handlers.ensures.1 in
    rw (p.1, p.2) (passes _ _ _ _ _ (after _ _ _ _ _ _ (stmt.closed_do _ _ _ _ _ _ _ c.requires.0 c.requires.1 c.requires.2 c.requires.3 (c.take-next.ensures.taken (is k.Do) c.requires.3)) (c.in_ok-body.ensures.gives)) (c.in_err-handlers.ensures.gives))

pub nested::do_statement-returns-clause-gives : goal.nested::do_statement-returns-clause-gives
nested::do_statement-returns-clause-gives t c = after _ _ _ _ _ _ (after _ _ _ _ _ _ (stmt.closed_do _ _ _ _ _ _ _ c.requires.0 c.requires.1 c.requires.2 c.requires.3 (c.take-next.ensures.taken (is k.Do) c.requires.3)) (c.in_ok-body.ensures.gives)) (c.in_ok-handlers.ensures.gives)

pub switches::arms-arms-init : goal.switches::arms-arms-init
switches::arms-arms-init t c = record {
  so_far = arms_begin _ _ _ _ _ _ c.stands-before_arm.ensures.value ∙ ap (λ l. after_arms c.args.lenient c.args.budget.brackets c.args.budget.limit c.args.budget.left l c.stands-before_arm.result (drop c.args.at c.args.view.now)) (sym c.new-xs.ensures);
  moves = omega arith;
  inside = c.requires;
}

pub switches::arms-returns-in_err-label-clause-gives : goal.switches::arms-returns-in_err-label-clause-gives
switches::arms-returns-in_err-label-clause-gives t c =
    let p = err_from_is_err_and c.from_residual.result c.from_residual.ensures.1 in
    rw (p.1, p.2) (passes _ _ _ _ _ (c.arms.invariant.so_far ∙ ap (λ b. after_arms c.args.lenient c.args.budget.brackets c.args.budget.limit c.arms.left c.arms.xs b (drop c.arms.end c.args.view.now)) c.arms-test.true ∙ stmt.arms_label _ _ _ _ _ _) (c.in_err-label.ensures.gives))

pub switches::arms-returns-in_err-next-clause-gives : goal.switches::arms-returns-in_err-next-clause-gives
switches::arms-returns-in_err-next-clause-gives t c =
    let p = err_from_is_err_and c.from_residual-in_err-next.result c.from_residual-in_err-next.ensures.1 in
    rw (p.1, p.2) (passes _ _ _ _ _ (after _ _ _ _ _ _ (c.arms.invariant.so_far ∙ ap (λ b. after_arms c.args.lenient c.args.budget.brackets c.args.budget.limit c.arms.left c.arms.xs b (drop c.arms.end c.args.view.now)) c.arms-test.true ∙ stmt.arms_label _ _ _ _ _ _) (c.in_ok-label.ensures.gives)) (c.in_err-next.ensures.gives c.in_ok-label.label_left))

pub switches::arms-returns-in_err-read_body-clause-gives : goal.switches::arms-returns-in_err-read_body-clause-gives
switches::arms-returns-in_err-read_body-clause-gives t c =
    let p = err_from_is_err_and c.from_residual-in_err-read_body.result c.from_residual-in_err-read_body.ensures.1 in
    rw (p.1, p.2) (going_passes {A = ReadBody} (ended c.args.lenient nonterminal.InArm c.args.budget.brackets c.args.budget.limit) _ _ _ _ _ (after _ _ _ _ _ _ (after _ _ _ _ _ _ (c.arms.invariant.so_far ∙ ap (λ b. after_arms c.args.lenient c.args.budget.brackets c.args.budget.limit c.arms.left c.arms.xs b (drop c.arms.end c.args.view.now)) c.arms-test.true ∙ stmt.arms_label _ _ _ _ _ _) (c.in_ok-label.ensures.gives)) (c.in_ok-next.ensures.gives c.in_ok-label.label_left)) (c.in_err-read_body.ensures.gives nonterminal.InArm))

pub switches::arms-arms-preserved : goal.switches::arms-arms-preserved
switches::arms-arms-preserved t c = record {
  so_far = after _ _ _ _ _ _ (after _ _ _ _ _ _ (c.arms.invariant.so_far ∙ ap (λ b. after_arms c.args.lenient c.args.budget.brackets c.args.budget.limit c.arms.left c.arms.xs b (drop c.arms.end c.args.view.now)) c.arms-test.true ∙ stmt.arms_label _ _ _ _ _ _) (c.in_ok-label.ensures.gives)) (c.in_ok-next.ensures.gives c.in_ok-label.label_left) ∙ arm_then _ _ _ _ _ _ _ _ _ _ (c.in_ok-read_body.ensures.gives nonterminal.InArm) ∙ ap (λ l. after_arms c.args.lenient c.args.budget.brackets c.args.budget.limit c.in_ok-read_body.body_left l c.in_ok-read_body.read_body.before_arm (drop c.in_ok-read_body.body_end c.args.view.now)) (ap (λ b. c.arms.xs ++ record { label = c.in_ok-label.label; body = b } ∷ []) (sym c.in_ok-body.ensures) ∙ sym c.in_ok-push.ensures.ok);
  moves = omega (arith, c.in_ok-read_body.ensures.stays, c.in_ok-next.ensures.moves, c.in_ok-label.ensures.moves, c.arms.invariant.moves);
  inside = c.in_ok-read_body.ensures.inside;
}

pub switches::arms-returns-clause-gives : goal.switches::arms-returns-clause-gives
switches::arms-returns-clause-gives t c = rw (c.in_ok-kept.ensures) (c.arms.invariant.so_far ∙ ap (λ b. after_arms c.args.lenient c.args.budget.brackets c.args.budget.limit c.arms.left c.arms.xs b (drop c.arms.end c.args.view.now)) c.arms-test.false)

pub switches::arm_block-returns-then-not-is-clause-gives : goal.switches::arm_block-returns-then-not-is-clause-gives
switches::arm_block-returns-then-not-is-clause-gives t c = stmt.switch_none _ _ _ _ _ (sym c.is.ensures.value ∙ c.if-not-is.true)

pub switches::arm_block-returns-then-budget-eq0-clause-gives : goal.switches::arm_block-returns-then-budget-eq0-clause-gives
switches::arm_block-returns-then-budget-eq0-clause-gives t c = stmt.switch_deep _ _ _ _ _ (sym c.is.ensures.value ∙ c.if-not-is.false) c.if-budget-eq0.true

pub switches::arm_block-returns-in_err-xs-clause-gives : goal.switches::arm_block-returns-in_err-xs-clause-gives
switches::arm_block-returns-in_err-xs-clause-gives t c =
    let p = err_from_is_err_and c.from_residual.result c.from_residual.ensures.1 in
    rw (p.1, p.2) (passes _ _ _ _ _ (stmt.switch_open _ _ _ _ _ _ _ c.if-budget-eq0.false (c.take-next.ensures.taken (is k.LeftBrace) (sym c.is.ensures.value ∙ c.if-not-is.false))) (c.in_err-xs.ensures.gives))

pub switches::arm_block-returns-in_err-after-clause-gives : goal.switches::arm_block-returns-in_err-after-clause-gives
switches::arm_block-returns-in_err-after-clause-gives t c =
    let p = err_from_is_err_and c.from_residual-in_err-after.result c.from_residual-in_err-after.ensures.1 in
    rw (p.1, p.2) (passes _ _ _ _ _ (after _ _ _ _ _ _ (stmt.switch_open _ _ _ _ _ _ _ c.if-budget-eq0.false (c.take-next.ensures.taken (is k.LeftBrace) (sym c.is.ensures.value ∙ c.if-not-is.false))) (c.in_ok-xs.ensures.gives)) (c.in_err-after.ensures.gives c.in_ok-xs.left))

pub switches::arm_block-returns-clause-gives : goal.switches::arm_block-returns-clause-gives
switches::arm_block-returns-clause-gives t c = after _ _ _ _ _ _ (after _ _ _ _ _ _ (stmt.switch_open _ _ _ _ _ _ _ c.if-budget-eq0.false (c.take-next.ensures.taken (is k.LeftBrace) (sym c.is.ensures.value ∙ c.if-not-is.false))) (c.in_ok-xs.ensures.gives)) (c.in_ok-after.ensures.gives c.in_ok-xs.left)

pub switches::switch_statement-returns-in_err-x-clause-gives : goal.switches::switch_statement-returns-in_err-x-clause-gives
switches::switch_statement-returns-in_err-x-clause-gives t c =
    let p = err_from_is_err_and c.from_residual.result c.from_residual.ensures.1 in
    rw (p.1, p.2) (passes _ _ _ _ _ (stmt.closed_switch _ _ _ _ _ _ _ c.requires.0 c.requires.1 c.requires.2 (c.take-next.ensures.taken (is k.Switch) c.requires.2)) (c.in_err-x.ensures.gives))

pub switches::switch_statement-returns-in_err-xs-clause-gives : goal.switches::switch_statement-returns-in_err-xs-clause-gives
switches::switch_statement-returns-in_err-xs-clause-gives t c =
    let p = err_from_is_err_and c.from_residual-in_err-xs.result c.from_residual-in_err-xs.ensures.1 in
    rw (p.1, p.2) (passes _ _ _ _ _ (after _ _ _ _ _ _ (stmt.closed_switch _ _ _ _ _ _ _ c.requires.0 c.requires.1 c.requires.2 (c.take-next.ensures.taken (is k.Switch) c.requires.2)) (c.in_ok-x.ensures.gives)) (c.in_err-xs.ensures.gives))

pub switches::switch_statement-returns-clause-gives : goal.switches::switch_statement-returns-clause-gives
switches::switch_statement-returns-clause-gives t c = after _ _ _ _ _ _ (after _ _ _ _ _ _ (stmt.closed_switch _ _ _ _ _ _ _ c.requires.0 c.requires.1 c.requires.2 (c.take-next.ensures.taken (is k.Switch) c.requires.2)) (c.in_ok-x.ensures.gives)) (c.in_ok-xs.ensures.gives)
