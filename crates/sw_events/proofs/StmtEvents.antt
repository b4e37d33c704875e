-- The events of each form of statement.
use Rattle.std.proofs.Common.{◌≡◌, List, [], ◌∷◌, ◌++◌, map, refl, sym, ap, ◌∙◌, append_assoc, Option, Some, None}
use Rattle.sw_base.specs.declared.ids.Span.{Span}
use Rattle.sw_tree.specs.declared.expr.Name.{Name}
use Rattle.sw_tree.specs.declared.expr.Binding.{Binding}
use Rattle.sw_tree.specs.declared.expr.Expr.{Expr}
use Rattle.sw_tree.specs.declared.types.«Type».{«Type» as TypeTree}
use Rattle.sw_tree.specs.declared.stmt.AssignOperator.{AssignOperator}
use Rattle.sw_tree.specs.declared.stmt.Condition.{Condition}
use Rattle.sw_tree.specs.declared.stmt.RangeEnd.{RangeEnd}
use Rattle.sw_tree.specs.declared.stmt.Branch.{Branch}
use Rattle.sw_tree.specs.declared.stmt.Catch.{Catch}
use Rattle.sw_tree.specs.declared.stmt.SwitchArm.{SwitchArm}
use Rattle.sw_tree.specs.declared.stmt.Stmt.{Stmt, roll-Stmt, map-Stmt}
use Rattle.sw_tree.specs.declared.stmt.Stmt.TheFolds.{fold-Branch, fold-Catch, fold-SwitchArm, fold-roll-Stmt, fold_out-Branch, fold_out-Catch, fold_out-SwitchArm}
use Rattle.sw_tree.specs.declared.stmt.Stmt.TheOpen.{Stmt-F}
use Rattle.sw_tree.specs.declared.stmt.Stmt.TheVariants as s
use Rattle.sw_scope.specs.Events.{Event, binds, scope, in_turn, each, perhaps}
use Rattle.sw_events.proofs.Runs.{run_append, run_cons, run_none, each_map, turn_alike}
use Rattle.sw_scope.specs.Around.{Around}
use Rattle.sw_scope.specs.declared.seen.Seen.{Seen}
use Rattle.sw_scope.specs.Walk.{run}
use Rattle.sw_events.specs.Bodies.{type_events, expr_events, condition_events, stmt_level, branch_level, catch_level, arm_level, stmt_events, block_events, branch_events, catch_events, switch_arm_events}

abbrev Es : Type 0
Es = List Event

branch_fold : Branch → Es
branch_fold = fold-Branch Es Es Es Es stmt_level branch_level catch_level arm_level

catch_fold : Catch → Es
catch_fold = fold-Catch Es Es Es Es stmt_level branch_level catch_level arm_level

arm_fold : SwitchArm → Es
arm_fold = fold-SwitchArm Es Es Es Es stmt_level branch_level catch_level arm_level

branch_same : (x : Branch) → branch_fold x ≡ branch_events x
unfolding branch_fold
branch_same x = fold_out-Branch Es Es Es Es stmt_level branch_level catch_level arm_level x

catch_same : (x : Catch) → catch_fold x ≡ catch_events x
unfolding catch_fold
catch_same x = fold_out-Catch Es Es Es Es stmt_level branch_level catch_level arm_level x

arm_same : (x : SwitchArm) → arm_fold x ≡ switch_arm_events x
unfolding arm_fold
arm_same x = fold_out-SwitchArm Es Es Es Es stmt_level branch_level catch_level arm_level x

rolled : (layer : Stmt-F Stmt Branch Catch SwitchArm) {x : Stmt} → roll-Stmt layer ≡ x
    → stmt_events x ≡ stmt_level (map-Stmt Stmt Branch Catch SwitchArm Es Es Es Es stmt_events branch_fold catch_fold arm_fold layer)
unfolding branch_fold catch_fold arm_fold
rolled layer h = ap stmt_events (sym h) ∙ fold-roll-Stmt Es Es Es Es stmt_level branch_level catch_level arm_level layer

pub of_local : (span : Span) (binding : Binding) (name : Name) (declared : Option TypeTree) (value : Expr) → stmt_events (s.Local span binding name declared value) ≡ perhaps type_events declared ++ (expr_events value ++ binds name ∷ [])
of_local span binding name declared value = rolled _ (s.rolls-Local span binding name declared value)

pub of_assign : (to : Expr) (operator : AssignOperator) (span : Span) (value : Expr) → stmt_events (s.Assign to operator span value) ≡ expr_events to ++ expr_events value
of_assign to operator span value = rolled _ (s.rolls-Assign to operator span value)

pub of_discard : (span : Span) (value : Expr) → stmt_events (s.Discard span value) ≡ expr_events value
of_discard span value = rolled _ (s.rolls-Discard span value)

pub of_expr : (x : Expr) → stmt_events (s.Expr x) ≡ expr_events x
of_expr x = rolled _ (s.rolls-Expr x)

of_if_fold : (first : Branch) (others : List Branch) (otherwise : Option (List Stmt))
    → stmt_events (s.If first others otherwise) ≡ branch_fold first ++ (in_turn (map branch_fold others) ++ perhaps block_events otherwise)
of_if_fold first others None = rolled _ (s.rolls-If first others None)
of_if_fold first others (Some body) = rolled _ (s.rolls-If first others (Some body))

pub of_if : (first : Branch) (others : List Branch) (otherwise : Option (List Stmt)) → stmt_events (s.If first others otherwise) ≡ branch_events first ++ (each branch_events others ++ perhaps block_events otherwise)
of_if first others otherwise =
    of_if_fold first others otherwise
    ∙ ap (λ w. w ++ (in_turn (map branch_fold others) ++ perhaps block_events otherwise)) (branch_same first)
    ∙ ap (λ w. branch_events first ++ (w ++ perhaps block_events otherwise)) (turn_alike branch_fold branch_events branch_same others)

pub of_guard : (span : Span) (conditions : List Condition) (body : List Stmt) → stmt_events (s.Guard span conditions body) ≡ block_events body ++ each condition_events conditions
of_guard span conditions body = rolled _ (s.rolls-Guard span conditions body)

pub of_while : (span : Span) (conditions : List Condition) (body : List Stmt) → stmt_events (s.While span conditions body) ≡ scope (each condition_events conditions ++ block_events body)
of_while span conditions body = rolled _ (s.rolls-While span conditions body)

pub of_for : (span : Span) (name : Option Name) (first : Expr) (last : Option RangeEnd) (body : List Stmt) → stmt_events (s.For span name first last body) ≡ expr_events first ++ (perhaps (λ end. expr_events end.value) last ++ scope (perhaps (λ name. binds name ∷ []) name ++ block_events body))
of_for span name first last body = rolled _ (s.rolls-For span name first last body)

of_switch_fold : (span : Span) (subject : Expr) (arms : List SwitchArm) → stmt_events (s.Switch span subject arms) ≡ expr_events subject ++ in_turn (map arm_fold arms)
of_switch_fold span subject arms = rolled _ (s.rolls-Switch span subject arms)

pub of_switch : (span : Span) (subject : Expr) (arms : List SwitchArm) → stmt_events (s.Switch span subject arms) ≡ expr_events subject ++ each switch_arm_events arms
of_switch span subject arms = of_switch_fold span subject arms ∙ ap (λ w. expr_events subject ++ w) (turn_alike arm_fold switch_arm_events arm_same arms)

of_do_fold : (span : Span) (body : List Stmt) (catches : List Catch) → stmt_events (s.Do span body catches) ≡ block_events body ++ in_turn (map catch_fold catches)
of_do_fold span body catches = rolled _ (s.rolls-Do span body catches)

pub of_do : (span : Span) (body : List Stmt) (catches : List Catch) → stmt_events (s.Do span body catches) ≡ block_events body ++ each catch_events catches
of_do span body catches = of_do_fold span body catches ∙ ap (λ w. block_events body ++ w) (turn_alike catch_fold catch_events catch_same catches)

pub of_return : (span : Span) (value : Option Expr) → stmt_events (s.Return span value) ≡ perhaps expr_events value
of_return span value = rolled _ (s.rolls-Return span value)

pub of_throw : (span : Span) (value : Expr) → stmt_events (s.Throw span value) ≡ expr_events value
of_throw span value = rolled _ (s.rolls-Throw span value)

pub of_break : (span : Span) → stmt_events (s.Break span) ≡ []
of_break span = rolled _ (s.rolls-Break span)

pub of_continue : (span : Span) → stmt_events (s.Continue span) ≡ []
of_continue span = rolled _ (s.rolls-Continue span)

-- An `if` whose first branch and whose other branches are walked.
pub if_rest : (around : Around) (x : Stmt) (first : Branch) (others : List Branch) (otherwise : Option (List Stmt)) (start mid near : Seen) → x ≡ s.If first others otherwise
    → mid ≡ run around (branch_events first) start → near ≡ run around (each branch_events others) mid → run around (perhaps block_events otherwise) near ≡ run around (stmt_events x) start
if_rest around x first others otherwise start mid near is p q =
    ap (run around (perhaps block_events otherwise)) (q ∙ ap (run around (each branch_events others)) p)
    ∙ sym (run_append around (each branch_events others) (perhaps block_events otherwise) (run around (branch_events first) start))
    ∙ sym (run_append around (branch_events first) (each branch_events others ++ perhaps block_events otherwise) start)
    ∙ ap (λ es. run around es start) (sym (of_if first others otherwise)) ∙ ap (λ y. run around (stmt_events y) start) (sym is)

pub if_none : (around : Around) (otherwise : Option (List Stmt)) (near : Seen) → otherwise ≡ None → near ≡ run around (perhaps block_events otherwise) near
if_none around otherwise near e = sym (run_none around near) ∙ ap (λ o. run around (perhaps block_events o) near) (sym e)

-- for the functions that walk over statements, and blocks
pub ruleset stmt_rules = (append_assoc, run_append, run_cons, run_none, of_local, of_assign, of_discard, of_expr, of_if, of_guard, of_while, of_for, of_switch, of_do, of_return, of_throw, of_break, of_continue)

pub of_block : (body : List Stmt) → block_events body ≡ scope (each stmt_events body)
of_block body = ap scope (each_map stmt_events body)

pub ruleset block_rules = (append_assoc, run_append, run_cons, run_none, of_block)
