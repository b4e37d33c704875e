-- What is told of each expression: what it means, with its type, and each rule that is broken in it.
use Rattle.std.specs.Prelude.{ℕ, ℤ, Bool, true, false, ◌&&◌, not, cond, Option, Some, None, List, [], ◌∷◌, ◌++◌}
use Rattle.sw_base.specs.declared.ids.Span.{Span}
use Rattle.sw_rules.specs.declared.Refusal.{Refusal}
use Rattle.sw_rules.specs.declared.Rule.TheVariants as rule
use Rattle.sw_findings.specs.Found.{when}
use Rattle.sw_tree.specs.declared.expr.TryForm.TheVariants as tries
use Rattle.sw_tree.specs.declared.expr.Name.{Name}
use Rattle.sw_tree.specs.declared.expr.BinaryOperator.{BinaryOperator}
use Rattle.sw_value.specs.declared.ty.Ty.{Ty}
use Rattle.sw_typed.specs.declared.expr.Typed.{Typed}
use Rattle.sw_typed.specs.declared.expr.TypedPiece.{TypedPiece}
use Rattle.sw_declared.specs.Members.{Label}
use Rattle.sw_typed.specs.Syntax as x
use Rattle.sw_locals.specs.InBody.{local_named}
use Rattle.sw_typing.specs.declared.need.Need.{Need}
use Rattle.sw_typing.specs.declared.need.Need.TheVariants.{Free, Needed}
use Rattle.sw_typing.specs.Needs.{element_wanted, first_branch, first_element, implicit_wanted, index_need, like, nil_wanted, other_element, second_branch, within_try}
use Rattle.sw_typing.specs.Operators.{bool}
use Rattle.sw_resolve.specs.declared.scope.Scope.{Scope}
use Rattle.sw_resolve.specs.declared.standing.Standing.{Standing}
use Rattle.sw_resolve.specs.declared.standing.Standing.TheVariants.{Value}
use Rattle.sw_resolve.specs.declared.callee.Called.{Called}
use Rattle.sw_resolve.specs.Standings.{member, member_broken}
use Rattle.sw_resolve.specs.Names.{name_broken, named}
use Rattle.sw_resolve.specs.Callees as callees
use Rattle.sw_resolve.specs.Callees.{called_there, name_call_broken, name_called, value_call_broken, value_called}
use Rattle.sw_check_expr.specs.Syntax.{asks, first, is_nil, labels}
use Rattle.sw_check_expr.specs.Forms.{Told, call_broken, concluded, e6, first_need, force_broken, implicit_at, index_broken, is_unprintable, needs_of, of_await, of_branches, of_call, of_elements, of_empty, of_force, of_index, of_integer, of_issue, of_nil, of_operands, of_paren, of_self, of_sign, of_string, of_truth, of_try, of_waited, operands_broken, piece, rest_needs, right_need, sign_broken, type_before}

-- of several expressions, and of what stands in strings
pub record AllTold (A : Type 0) : Type 0 where
  pub all : List A
  pub faults : List Refusal

pub record ToldStanding : Type 0 where
  pub standing : Standing
  pub faults : List Refusal

pub record ToldCalled : Type 0 where
  pub called : Called
  pub faults : List Refusal

abbrev pub told : Typed → List Refusal → Told
told e faults = record { typed = e; faults = faults }

abbrev pub all_told : {A : Type 0} → List A → List Refusal → AllTold A
all_told es faults = record { all = es; faults = faults }

abbrev pub standing_told : Standing → List Refusal → ToldStanding
standing_told s faults = record { standing = s; faults = faults }

abbrev pub called_told : Called → List Refusal → ToldCalled
called_told c faults = record { called = c; faults = faults }

-- ---- of each form, from what is told of its parts

-- what stands round an expression at the place of both
abbrev pub round_told : (Typed → Typed) → Told → Told
round_told f t = told (f t.typed) t.faults

abbrev pub told_operands : Scope → Need → Span → BinaryOperator → Span → Typed → Typed → List Refusal → Told
told_operands scope n at operator here a b faults =
    concluded scope n at (of_operands scope operator here a b) (faults ++ operands_broken scope operator here a b)

abbrev pub told_name : Scope → Need → Span → Name → Told
told_name scope n at name = concluded scope n at (named scope name) (name_broken scope name)

unfoldable pub type_or_value : Option Standing → Told → ToldStanding
type_or_value None t = standing_told (Value t.typed) t.faults
type_or_value (Some s) t = standing_told s []

-- before a `.`
abbrev pub told_standing : Scope → x.Expr → Told → ToldStanding
told_standing scope e t = type_or_value (type_before scope e) t

-- of the type that the place tells of
abbrev pub implicit_told : Need → Span → ToldStanding
implicit_told n dot = standing_told (implicit_at n dot) (e6 n (implicit_wanted n) dot)

abbrev pub told_member : Scope → Need → Span → ToldStanding → Name → Told
told_member scope n at s name = concluded scope n at (member scope s.standing name) (s.faults ++ member_broken scope s.standing name)

-- before the `(` that stands here
abbrev pub told_by_name : Scope → Name → List Label → Span → ToldCalled
told_by_name scope name labels here = called_told (name_called scope name labels) (name_call_broken scope name labels here)

abbrev pub told_on : Scope → ToldStanding → Name → List Label → Span → ToldCalled
told_on scope s name labels here =
    called_told (called_there scope s.standing name labels) (s.faults ++ callees.call_broken scope s.standing name labels here)

abbrev pub told_on_value : Told → Span → ToldCalled
told_on_value t here = called_told (value_called t.typed) (t.faults ++ value_call_broken t.typed here)

abbrev pub told_call : Scope → Need → Span → ToldCalled → AllTold Typed → Told
told_call scope n at c args =
    concluded scope n at (of_call scope c.called args.all) (c.faults ++ (args.faults ++ call_broken scope c.called args.all))

-- ---- of each expression, at a place with this need, where the whole expression there begins with this token

unfoldable mutual
  pub check : x.Expr → Scope → Need → Span → Told
  check (x.Try tries.Plain here e) scope n at = round_told (of_try tries.Plain here) (check e scope n at)
  check (x.Try tries.Optional here e) scope n at =
      let t = check e scope (within_try n) (first e) in concluded scope n at (of_try tries.Optional here t.typed) t.faults
  check (x.Await here e) scope n at = round_told (of_await here) (check e scope n at)
  check (x.Paren here e) scope n at = round_told (of_paren here) (check e scope n at)
  check (x.Issue here e) scope n at = round_told (of_issue here) (check e scope n at)
  check (x.Ternary c a b) scope n at =
      let t = check c scope (Needed bool) (first c) in
      let l = check a scope (first_branch n) (first a) in
      let r = check b scope (second_branch n l.typed.ty) (first b) in
      told (of_branches t.typed l.typed r.typed) (t.faults ++ (l.faults ++ r.faults))
  check (x.Binary operator here a b) scope n at = cond (asks a && not (asks b))
      (let r = check b scope Free (first b) in
      let l = check a scope (like r.typed.ty) (first a) in
      told_operands scope n at operator here l.typed r.typed (r.faults ++ l.faults))
      (let l = check a scope Free (first a) in
      let r = check b scope (right_need operator (is_nil b) (asks b) l.typed.ty) (first b) in
      told_operands scope n at operator here l.typed r.typed (l.faults ++ r.faults))
  check (x.Prefix operator here e) scope n at =
      let t = check e scope Free (first e) in
      concluded scope n at (of_sign operator here t.typed) (t.faults ++ sign_broken operator here t.typed)
  check (x.Member e name) scope n at = told_member scope n at (told_standing scope e (check e scope Free (first e))) name
  check (x.Call (x.Named name) here args) scope n at =
      let c = told_by_name scope name (labels args) here in told_call scope n at c (check_args args scope (needs_of c.called))
  check (x.Call (x.Implicit dot name) here args) scope n at =
      let c = told_on scope (implicit_told n dot) name (labels args) here in
      told_call scope n at c (check_args args scope (needs_of c.called))
  check (x.Call (x.Member e name) here args) scope n at =
      let c = told_on scope (told_standing scope e (check e scope Free (first e))) name (labels args) here in
      told_call scope n at c (check_args args scope (needs_of c.called))
  check (x.Call e here args) scope n at =
      let c = told_on_value (check e scope Free (first e)) here in told_call scope n at c (check_args args scope (needs_of c.called))
  check (x.Index e here i) scope n at =
      let l = check e scope Free (first e) in
      let r = check i scope (index_need l.typed.ty) (first i) in
      concluded scope n at (of_index here l.typed r.typed) (l.faults ++ (r.faults ++ index_broken here l.typed))
  check (x.Force e here) scope n at =
      let t = check e scope Free (first e) in
      concluded scope n at (of_force here t.typed) (t.faults ++ force_broken here t.typed)
  check (x.Literal here c) scope n at = check_constant c scope n at here
  check (x.Nil here) scope n at = concluded scope n at (of_nil n here) (e6 n (nil_wanted n) here)
  check (x.Named name) scope n at = told_name scope n at name
  check (x.SelfValue here) scope n at = concluded scope n at (of_self scope here) []
  check (x.Implicit dot name) scope n at = told_member scope n at (implicit_told n dot) name
  check (x.Array here x.no_expr) scope n at = concluded scope n at (of_empty n here) (e6 n (element_wanted n) here)
  check (x.Array here (x.expr e es)) scope n at =
      let t = check e scope (first_element n (element_wanted n)) (first e) in
      let r = check_all es scope (other_element (element_wanted n) t.typed.ty) in
      concluded scope n at (of_elements here (t.typed ∷ r.all)) (t.faults ++ r.faults)
  check (x.Wait name) scope n at = concluded scope n at (of_waited name.span (local_named name.text scope.locals.now)) []

  pub check_constant : x.Constant → Scope → Need → Span → Span → Told
  check_constant (x.Integer i) scope n at here = concluded scope n at (of_integer here i) []
  check_constant (x.Truth b) scope n at here = concluded scope n at (of_truth here b) []
  check_constant (x.String text pieces) scope n at here =
      let t = check_pieces pieces scope in concluded scope n at (of_string scope here text t.all) t.faults

  pub check_all : x.Exprs → Scope → Need → AllTold Typed
  check_all x.no_expr scope n = all_told [] []
  check_all (x.expr e es) scope n =
      let t = check e scope n (first e) in
      let r = check_all es scope n in
      all_told (t.typed ∷ r.all) (t.faults ++ r.faults)

  -- arguments, with what each needs
  pub check_args : x.Args → Scope → List Need → AllTold Typed
  check_args x.no_arg scope ns = all_told [] []
  check_args (x.arg label e args) scope ns =
      let t = check e scope (first_need ns) (first e) in
      let r = check_args args scope (rest_needs ns) in
      all_told (t.typed ∷ r.all) (t.faults ++ r.faults)

  -- E10 stands at the first token of what is not printable.
  pub check_pieces : x.Pieces → Scope → AllTold TypedPiece
  check_pieces x.no_piece scope = all_told [] []
  check_pieces (x.piece e text pieces) scope =
      let t = check e scope Free (first e) in
      let r = check_pieces pieces scope in
      all_told (piece t.typed text ∷ r.all)
      (t.faults ++ (when (is_unprintable scope.known.now t.typed.ty) rule.E10 t.typed.first ++ r.faults))

-- ---- the same, in the steps in which parts are told

-- a call, behind what it calls
abbrev pub told_callee : x.Expr → Scope → Need → List Label → Span → ToldCalled
told_callee (x.Named name) scope n labels here = told_by_name scope name labels here
told_callee (x.Implicit dot name) scope n labels here = told_on scope (implicit_told n dot) name labels here
told_callee (x.Member e name) scope n labels here = told_on scope (told_standing scope e (check e scope Free (first e))) name labels here
told_callee e scope n labels here = told_on_value (check e scope Free (first e)) here

abbrev pub told_arguments : Scope → Need → Span → Called → x.Args → Told
told_arguments scope n at c args = told_call scope n at (called_told c []) (check_args args scope (needs_of c))

-- a ternary behind its condition, and an array behind it
abbrev pub told_branches : Scope → Need → Typed → x.Expr → x.Expr → Told
told_branches scope n condition a b =
    let l = check a scope (first_branch n) (first a) in
    let r = check b scope (second_branch n l.typed.ty) (first b) in
    told (of_branches condition l.typed r.typed) (l.faults ++ r.faults)

abbrev pub told_index : Scope → Need → Span → Typed → Span → x.Expr → Told
told_index scope n at base here i =
    let r = check i scope (index_need base.ty) (first i) in
    concluded scope n at (of_index here base r.typed) (r.faults ++ index_broken here base)

-- ---- an expression that stands in no other

unfoldable pub need_of : Option Ty → Need
need_of None = Free
need_of (Some t) = Needed t

abbrev pub checked : Scope → x.Expr → Need → Told
checked scope e n = check e scope n (first e)
