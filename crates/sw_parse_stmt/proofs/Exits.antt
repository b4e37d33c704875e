-- Nodes as the reader gives them, and how what a function returned follows from what it called.
use Rattle.std.proofs.Common.{◌≡◌, ℕ, Bool, true, false, not, Option, Some, List, [], ◌∷◌, ◌++◌, refl, sym, ap, ◌∙◌, Err}
use Rattle.sw_lex.specs.declared.token.TokenKind.TheVariants as k
use Rattle.sw_grammar.specs.Reading.{Out, got, ◌>>=◌, at_first}
use Rattle.sw_tree.specs.declared.expr.Name.{Name}
use Rattle.sw_tree.specs.declared.stmt.ArmLabel.{ArmLabel}
use Rattle.sw_tree.specs.declared.stmt.RangeEnd.{RangeEnd}
use Rattle.sw_base.specs.declared.ids.Span.{Span}
use Rattle.sw_tree.specs.declared.stmt.RangeOperator.{RangeOperator}
use Rattle.sw_tree.specs.declared.stmt.Stmt.{Stmt}
use Rattle.sw_tree.specs.declared.stmt.SwitchArm.{SwitchArm}
use Rattle.sw_tree.specs.declared.expr.Expr.{Expr}
use Rattle.sw_syntax.specs.declared.view.Stop.{Stop}
use Rattle.sw_syntax.specs.declared.view.Stop.TheVariants.{Refused, NoMemory}
use Rattle.sw_syntax.specs.declared.class.Class.{Class}
use Rattle.sw_syntax.specs.declared.class.Class.TheVariants.{Is, ElseIf}
use Rattle.sw_syntax.specs.Tokens.{Sighted}
use Rattle.sw_syntax.specs.Tests.{is, is_of, is_else, is_else_if, is_else_if_class}
use Rattle.sw_syntax.specs.Nonterminals.{Context, InBlock, InArm, Ending}
use Rattle.sw_syntax.specs.Tables.{starts_arm, starts_stmt}
use Rattle.sw_syntax.specs.Grammar.{begins_below}
use Rattle.sw_syntax.specs.ReadResults.{Gives, GoesOn}
use Rattle.sw_syntax.specs.Bodies.{arm_from, arm_list, after_body, after_stmt, body_from}
use Rattle.sw_syntax.proofs.BodyEquations.{arm_end, arm_next, after_last, line_after, block_end}
use Rattle.sw_syntax.proofs.StmtEquations.{arm_list_none, arm_list_some, arm_then_arm, arm_then_end}
use Rattle.sw_parse_stmt.specs.declared.bodies.ReadBody.{ReadBody}
use Rattle.sw_parse_stmt.specs.Statements.{after_arms, ended, goes_on, statement_list}

-- ---- how an answer is passed on by a function that goes on from what was read

pub goes_over : {A B C : Type 0} (going : ℕ → A → List Sighted → Out Sighted B) (going' : ℕ → C → List Sighted → Out Sighted B) (ts : List Sighted) (stop : Stop) (out o : Out Sighted B) → out ≡ o → GoesOn {A = A} going ts (Err stop) o → GoesOn {A = C} going' ts (Err stop) out
goes_over going going' ts (Refused at is_over_budget) out o e h = e ∙ h
goes_over going going' ts NoMemory out o e h = tt

pub going_passes : {A B C : Type 0} (going : ℕ → A → List Sighted → Out Sighted B) (ts : List Sighted) (stop : Stop) (out : Out Sighted C) (o : Out Sighted B) (k : B → ℕ → List Sighted → Out Sighted C) → out ≡ (o >>= k) → GoesOn {A = A} going ts (Err stop) o → Gives {A = C} ts (Err stop) out
going_passes going ts (Refused at is_over_budget) out o k e h = e ∙ ap (λ o. o >>= k) h
going_passes going ts NoMemory out o k e h = tt

-- ---- nodes

pub some_name : (x y : Name) (c : ℕ) (r : List Sighted) → y ≡ x → ◌≡◌ {A = Out Sighted (Option Name)} (got (Some x) c r) (got (Some y) c r)
some_name x y c r e = ap (λ n. got (Some n) c r) (sym e)

pub range_end : (at : Span) (o o' : RangeOperator) (x : Expr) (c : ℕ) (r : List Sighted) → o' ≡ o
    → ◌≡◌ {A = Out Sighted (Option RangeEnd)} (got (Some (record { span = at; operator = o; value = x })) c r) (got (Some (record { span = at; operator = o'; value = x })) c r)
range_end at o o' x c r e = ap (λ o. got (Some (record { span = at; operator = o; value = x })) c r) (sym e)

-- ---- bodies

pub is_so : (b : Bool) → not b ≡ false → b ≡ true
is_so true h = refl
is_so false h = absurd cc

-- after a statement without `;`
pub after_other : (lenient : Bool) (at : Context) (ending : Ending) (d l c : ℕ) (xs : List Stmt) (x : Stmt) (ts : List Sighted) (below : Bool) → at_first (is k.Semicolon) ts ≡ false → below ≡ at_first (begins_below ending) ts
    → after_stmt lenient at ending d l c xs x ts ≡ goes_on lenient at d l c (xs ++ x ∷ []) below ts
after_other lenient at ending d l c xs x ts true h e = line_after lenient at ending d l c xs x ts h (sym e)
after_other lenient at ending d l c xs x ts false h e = after_last lenient at ending d l c xs x ts h (sym e)

-- where no statement begins
pub ended_whole : (lenient : Bool) (at : Context) (d l c : ℕ) (xs : List Stmt) (ts : List Sighted) (before_arm : Bool) → at_first starts_stmt ts ≡ false → before_arm ≡ at_first starts_arm ts
    → body_from lenient at d l c xs ts ≡ ended lenient at d l c (record { block = xs; before_arm = before_arm }) ts
ended_whole lenient InBlock d l c xs ts before_arm h e = block_end lenient d l c xs ts h
ended_whole lenient InArm d l c xs ts true h e = arm_next lenient d l c xs ts h (sym e)
ended_whole lenient InArm d l c xs ts false h e = arm_end lenient d l c xs ts h (sym e)

pub list_of_body : (lenient : Bool) (d l c : ℕ) (ts : List Sighted) → statement_list lenient d l c ts ≡ (body_from lenient InBlock d l c [] ts >>= (λ body c' r. got body.0 c' r))
unfolding statement_list
list_of_body lenient d l c ts = refl

-- ---- `else`

none_of : (class : Class) → is_else_if_class class ≡ true → is_of k.Else class ≡ false
none_of (Is kind) h = absurd cc
none_of ElseIf h = refl
none_of class h = absurd cc

-- an `else` before `if` is none before anything else
pub no_else : (ts : List Sighted) → at_first is_else_if ts ≡ true → at_first is_else ts ≡ false
no_else [] h = refl
no_else (t ∷ ts) h = none_of t.sight.class h

-- ---- arms

pub arms_begin : (lenient : Bool) (d l c : ℕ) (ts : List Sighted) (before_arm : Bool) → before_arm ≡ at_first starts_arm ts → arm_list lenient d l c ts ≡ after_arms lenient d l c [] before_arm ts
arms_begin lenient d l c ts true e = arm_list_some lenient d l c ts (sym e)
arms_begin lenient d l c ts false e = arm_list_none lenient d l c ts (sym e)

-- after the statements of an arm: another arm, or nothing more
pub arm_then : (lenient : Bool) (d l c : ℕ) (arms : List SwitchArm) (label : ArmLabel) (ts : List Sighted) (c' : ℕ) (read_body : ReadBody) (r : List Sighted) → body_from lenient InArm d l c [] ts ≡ ended lenient InArm d l c' read_body r
    → arm_from lenient d l c arms label ts ≡ after_arms lenient d l c' (arms ++ record { label = label; body = read_body.block } ∷ []) read_body.before_arm r
arm_then lenient d l c arms label ts c' read_body r h = go read_body.before_arm h
  where
    go : (b : Bool) → body_from lenient InArm d l c [] ts ≡ after_body lenient d l c' read_body.block b r → arm_from lenient d l c arms label ts ≡ after_arms lenient d l c' (arms ++ record { label = label; body = read_body.block } ∷ []) b r
    go true h = arm_then_arm lenient d l c arms label read_body.block ts c' r h
    go false h = arm_then_end lenient d l c arms label read_body.block ts c' r h
