-- What an expression of each form is by itself, of what its parts are.
use Rattle.std.specs.Prelude.{ℕ, ℤ, Bool, true, false, ◌||◌, ◌&&◌, not, cond, Option, Some, None, is_none, is_some, List, [], ◌∷◌, ◌++◌}
use Rattle.std.specs.List.{list_all}
use Rattle.std.specs.Option.{option_map, option_and_then}
use Rattle.sw_base.specs.declared.ids.Span.{Span}
use Rattle.sw_rules.specs.declared.Refusal.{Refusal}
use Rattle.sw_rules.specs.declared.Rule.TheVariants as rule
use Rattle.sw_findings.specs.Found.{when}
use Rattle.sw_tree.specs.declared.expr.Name.{Name}
use Rattle.sw_tree.specs.declared.expr.TryForm.{TryForm}
use Rattle.sw_tree.specs.declared.expr.TryForm.TheVariants as tries
use Rattle.sw_tree.specs.declared.expr.PrefixOperator.{PrefixOperator}
use Rattle.sw_tree.specs.declared.expr.BinaryOperator.{BinaryOperator}
use Rattle.sw_tree.specs.declared.expr.BinaryOperator.TheVariants as binary
use Rattle.sw_value.specs.declared.ty.Ty.{Ty}
use Rattle.sw_typed.specs.Syntax as x
use Rattle.sw_typed.specs.declared.entity.Entity.{Entity}
use Rattle.sw_typed.specs.declared.entity.Entity.TheVariants as entity
use Rattle.sw_typed.specs.declared.entity.BuiltIn.TheVariants as built_in
use Rattle.sw_typed.specs.declared.expr.Typed.{Typed}
use Rattle.sw_typed.specs.declared.expr.TypedPiece.{TypedPiece}
use Rattle.sw_typed.specs.declared.expr.Form.{Form}
use Rattle.sw_typed.specs.declared.expr.Form.TheVariants as form
use Rattle.sw_locals.specs.declared.local.Local.{Local}
use Rattle.sw_typing.specs.declared.facts.Facts.{Facts}
use Rattle.sw_typing.specs.declared.need.Need.{Need}
use Rattle.sw_typing.specs.declared.need.Need.TheVariants.{Free, Like, Lost}
use Rattle.sw_typing.specs.Types.{array, element, optional, wrapped}
use Rattle.sw_typing.specs.Facts.{is_printable}
use Rattle.sw_typing.specs.Needs.{is_lost, less_optional, nil_wanted, element_wanted, implicit_wanted}
use Rattle.sw_typing.specs.Conversions.{typed, fitted, e1}
use Rattle.sw_typing.specs.Operators.{bool, coalescing_of, int, is_incomparable, is_meaningless, is_meaningless_sign, operation_type, signed_type, string}
use Rattle.sw_resolve.specs.declared.scope.Scope.{Scope}
use Rattle.sw_resolve.specs.declared.standing.Standing.{Standing}
use Rattle.sw_resolve.specs.declared.standing.Standing.TheVariants.{Value, «Type», Lost as Nowhere}
use Rattle.sw_resolve.specs.declared.callee.Callee.{Callee}
use Rattle.sw_resolve.specs.declared.callee.Called.{Called}
use Rattle.sw_resolve.specs.declared.callee.Called.TheVariants as called
use Rattle.sw_resolve.specs.Scopes.{names_type, own_type, type_named}
use Rattle.sw_resolve.specs.Standings.{unresolved}

-- what is told of an expression: what it means, and each rule that is broken in it
pub record Told : Type 0 where
  pub typed : Typed
  pub faults : List Refusal

-- What stands at a place, of what an expression is by itself and what is broken in it.
abbrev pub concluded : Scope → Need → Span → Typed → List Refusal → Told
concluded scope n at e faults = record { typed = fitted scope.known.now n e; faults = faults ++ e1 scope.known.now n at e }

-- ---- forms round one expression

unfoldable pub try_type : TryForm → Option Ty → Option Ty
try_type tries.Plain t = t
try_type tries.Optional t = option_map (λ u. optional u) t

abbrev pub of_try : TryForm → Span → Typed → Typed
of_try tries at e = typed (try_type tries e.ty) at (form.Try tries at e)

abbrev pub of_await : Span → Typed → Typed
of_await at e = typed e.ty at (form.Await at e)

abbrev pub of_paren : Span → Typed → Typed
of_paren at e = typed e.ty at (form.Paren e)

abbrev pub of_issue : Span → Typed → Typed
of_issue at e = typed e.ty at (form.Issue at e)

-- E4 at the sign, where it has no meaning for the operand
abbrev pub of_sign : PrefixOperator → Span → Typed → Typed
of_sign operator at e = typed (signed_type operator e.ty) at (form.Prefix operator at e)

abbrev pub sign_broken : PrefixOperator → Span → Typed → List Refusal
sign_broken operator at e = when (is_meaningless_sign operator e.ty) rule.E4 at

abbrev pub of_force : Span → Typed → Typed
of_force at e = typed (option_and_then (λ t. wrapped t) e.ty) e.first (form.Force at e)

unfoldable pub is_not_optional : Option Ty → Bool
is_not_optional None = false
is_not_optional (Some t) = is_none (wrapped t)

-- E11 at `!`, of what has a type that is no optional
abbrev pub force_broken : Span → Typed → List Refusal
force_broken at e = when (is_not_optional e.ty) rule.E11 at

-- ---- forms of two and three

unfoldable pub is_coalesce : BinaryOperator → Bool
is_coalesce binary.Coalesce = true
is_coalesce operator = false

unfoldable pub taken_from : Bool → Option Ty → Need
taken_from unwraps None = Lost
taken_from unwraps (Some t) = Like (cond unwraps (less_optional t) t)

-- What the right operand needs where the left one is told first. One that asks takes the type of the left; right of `??`
-- `.name` and `[]` take what that wraps.
unfoldable pub right_need : BinaryOperator → Bool → Bool → Option Ty → Need
right_need operator is_nil asks left = cond asks (taken_from (is_coalesce operator && not is_nil) left) Free

unfoldable pub binary_form : BinaryOperator → Span → Typed → Typed → Form
binary_form binary.Coalesce at a b = form.Coalesce (coalescing_of a.ty b.ty) at (a, b)
binary_form operator at a b = form.Binary operator at (a, b)

abbrev pub of_operands : Scope → BinaryOperator → Span → Typed → Typed → Typed
of_operands scope operator at a b = typed (operation_type scope.known.now operator a.ty b.ty) a.first (binary_form operator at a b)

-- E4 and E9 at the operator
abbrev pub operands_broken : Scope → BinaryOperator → Span → Typed → Typed → List Refusal
operands_broken scope operator at a b =
    when (is_meaningless operator a.ty b.ty) rule.E4 at ++ when (is_incomparable scope.known.now operator a.ty b.ty) rule.E9 at

-- Each branch is of the needed type, or, where none is needed, the second of that of the first.
unfoldable pub ternary_type : Option Ty → Option Ty → Option Ty → Option Ty
ternary_type condition a None = None
ternary_type None a (Some u) = None
ternary_type (Some t) a (Some u) = a

abbrev pub of_branches : Typed → Typed → Typed → Typed
of_branches condition a b = typed (ternary_type condition.ty a.ty b.ty) condition.first (form.Ternary condition (a, b))

unfoldable pub indexed_type : Option Ty → Option Ty → Option Ty
indexed_type a None = None
indexed_type a (Some t) = option_and_then (λ u. element u) a

abbrev pub of_index : Span → Typed → Typed → Typed
of_index at a i = typed (indexed_type a.ty i.ty) a.first (form.Index at (a, i))

unfoldable pub is_no_array : Option Ty → Bool
is_no_array None = false
is_no_array (Some t) = is_none (element t)

-- E5 at `[`, of what has a type that is no array
abbrev pub index_broken : Span → Typed → List Refusal
index_broken at a = when (is_no_array a.ty) rule.E5 at

-- ---- forms of any number

abbrev pub all_typed : List Typed → Bool
all_typed es = list_all (λ e. is_some e.ty) es

unfoldable pub array_type : List Typed → Option Ty
array_type [] = None
array_type (e ∷ es) = cond (all_typed es) (option_map (λ t. array t) e.ty) None

abbrev pub of_elements : Span → List Typed → Typed
of_elements at es = typed (array_type es) at (form.Array es)

-- a value that has a type, of which none can be printed
unfoldable pub is_unprintable : Facts → Option Ty → Bool
is_unprintable known None = false
is_unprintable known (Some t) = not (is_printable known t)

unfoldable pub is_printed : Facts → Option Ty → Bool
is_printed known None = false
is_printed known (Some t) = is_printable known t

abbrev pub piece : Typed → List ℕ → TypedPiece
piece e text = record { value = e; text = text }

abbrev pub all_printed : Facts → List TypedPiece → Bool
all_printed known pieces = list_all (λ p. is_printed known p.value.ty) pieces

unfoldable pub string_type : Facts → List TypedPiece → Option Ty
string_type known pieces = cond (all_printed known pieces) (Some string) None

abbrev pub of_string : Scope → Span → List ℕ → List TypedPiece → Typed
of_string scope at text pieces = typed (string_type scope.known.now pieces) at (form.Text text pieces)

-- ---- calls

unfoldable pub prints_unprintable : Facts → Entity → List Typed → Bool
prints_unprintable known (entity.BuiltIn built_in.Print) (e ∷ []) = is_unprintable known e.ty
prints_unprintable known entity es = false

unfoldable pub call_type : Facts → Callee → List Typed → Option Ty
call_type known callee es = cond (all_typed es && not (prints_unprintable known callee.entity es)) callee.gives None

unfoldable pub of_call : Scope → Called → List Typed → Typed
of_call scope (called.Callee callee) es =
    typed (call_type scope.known.now callee es) callee.first (form.Call callee.entity callee.receiver callee.at es)
of_call scope (called.Nothing at parts) es = unresolved at (parts ++ es)

unfoldable pub e10_of : Facts → Entity → List Typed → List Refusal
e10_of known (entity.BuiltIn built_in.Print) (e ∷ []) = when (is_unprintable known e.ty) rule.E10 e.first
e10_of known entity es = []

-- E10 at the argument of `print`
unfoldable pub call_broken : Scope → Called → List Typed → List Refusal
call_broken scope (called.Callee callee) es = e10_of scope.known.now callee.entity es
call_broken scope (called.Nothing at parts) es = []

-- what the arguments need; nothing that is there where nothing is called that can be
unfoldable pub needs_of : Called → List Need
needs_of (called.Callee callee) = callee.needs
needs_of (called.Nothing at parts) = []

unfoldable pub first_need : List Need → Need
first_need [] = Lost
first_need (n ∷ ns) = n

abbrev pub rest_needs : List Need → List Need
rest_needs [] = []
rest_needs (n ∷ ns) = ns

-- ---- forms without parts

abbrev pub of_integer : Span → ℤ → Typed
of_integer at n = typed (Some int) at (form.Integer n)

abbrev pub of_truth : Span → Bool → Typed
of_truth at b = typed (Some bool) at (form.Bool b)

abbrev pub of_nil : Need → Span → Typed
of_nil n at = typed (nil_wanted n) at form.Nil

-- E6 at the first token, where the place does not tell the type
unfoldable pub is_untold : Need → Option Ty → Bool
is_untold n t = is_none t && not (is_lost n)

abbrev pub e6 : Need → Option Ty → Span → List Refusal
e6 n t at = when (is_untold n t) rule.E6 at

abbrev pub of_empty : Need → Span → Typed
of_empty n at = typed (option_map (λ t. array t) (element_wanted n)) at (form.Array [])

abbrev pub of_self : Scope → Span → Typed
of_self scope at = typed (own_type scope) at form.SelfValue

unfoldable pub of_waited : Span → Option Local → Typed
of_waited at None = unresolved at []
of_waited at (Some local) = typed local.ty at (form.Wait local.variable)

-- ---- what stands before the name of a member

-- `.name`, of the type that the place tells of
unfoldable pub implicit_standing : Span → Option Ty → Standing
implicit_standing dot None = Nowhere dot
implicit_standing dot (Some t) = «Type» (Some t.base) dot

abbrev pub implicit_at : Need → Span → Standing
implicit_at n dot = implicit_standing dot (implicit_wanted n)

abbrev pub type_standing : Scope → Name → Standing
type_standing scope name = «Type» (type_named scope name.text) name.span

unfoldable pub type_by_name : Scope → Name → Option Standing
type_by_name scope name = cond (names_type scope name.text) (Some (type_standing scope name)) None

-- the type that an expression names before a `.`
abbrev pub type_before : Scope → x.Expr → Option Standing
type_before scope (x.Named name) = type_by_name scope name
type_before scope e = None
