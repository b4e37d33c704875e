-- What stands before the name of a member, and what the name means there: a value, or what can be called.
use Rattle.std.specs.Prelude.{Bool, true, false, ◌&&◌, not, cond, Option, Some, None, is_none, is_some, List, [], ◌∷◌, ◌++◌}
use Rattle.std.specs.Option.{option_and_then}
use Rattle.sw_base.specs.declared.ids.Span.{Span}
use Rattle.sw_rules.specs.declared.Refusal.{Refusal}
use Rattle.sw_rules.specs.declared.Rule.TheVariants as rule
use Rattle.sw_findings.specs.Found.{when}
use Rattle.sw_sight.specs.InSight.{Text}
use Rattle.sw_tree.specs.declared.expr.Name.{Name}
use Rattle.sw_value.specs.declared.ty.Ty.{Ty}
use Rattle.sw_typed.specs.declared.expr.Typed.{Typed}
use Rattle.sw_typed.specs.declared.expr.Form.TheVariants as form
use Rattle.sw_typed.specs.declared.expr.Receiver.{Receiver}
use Rattle.sw_typed.specs.declared.expr.Receiver.TheVariants as on
use Rattle.sw_members.specs.declared.declaration.Declaration.{Declaration}
use Rattle.sw_members.specs.declared.declaration.Side.{Side}
use Rattle.sw_members.specs.declared.declaration.Side.TheVariants.{Instance, Static}
use Rattle.sw_members.specs.Found.{any_named, value_named}
use Rattle.sw_typing.specs.declared.facts.Facts.{Facts}
use Rattle.sw_typing.specs.Facts as known
use Rattle.sw_typing.specs.Conversions.{typed}
use Rattle.sw_resolve.specs.declared.scope.Scope.{Scope}
use Rattle.sw_resolve.specs.declared.standing.Standing.{Standing}
use Rattle.sw_resolve.specs.declared.standing.Standing.TheVariants.{Value, «Type», Lost, Own}
use Rattle.sw_resolve.specs.Scopes.{members_at, own_members, own_side}

-- ---- what stands there

unfoldable pub members_of : Facts → Option Ty → List Declaration
members_of facts None = []
members_of facts (Some t) = known.members facts t

unfoldable pub members : Scope → Standing → List Declaration
members scope (Value e) = members_of scope.known.now e.ty
members scope («Type» b at) = members_at scope.known.now b
members scope (Lost at) = []
members scope (Own at) = own_members scope

-- A type has its static members and its cases, and a value has the others.
unfoldable pub side : Scope → Standing → Side
side scope (Value e) = Instance
side scope («Type» b at) = Static
side scope (Lost at) = Static
side scope (Own at) = own_side scope

-- the type of a value
unfoldable pub owner : Standing → Option Ty
owner (Value e) = e.ty
owner («Type» b at) = None
owner (Lost at) = None
owner (Own at) = None

-- there is a type whose member is meant
unfoldable pub has_owner : Standing → Bool
has_owner (Value e) = is_some e.ty
has_owner («Type» b at) = true
has_owner (Lost at) = false
has_owner (Own at) = false

-- the first token
unfoldable pub first : Standing → Span
first (Value e) = e.first
first («Type» b at) = at
first (Lost at) = at
first (Own at) = at

unfoldable pub parts : Standing → List Typed
parts (Value e) = e ∷ []
parts («Type» b at) = []
parts (Lost at) = []
parts (Own at) = []

unfoldable pub unwritten : Bool → Receiver
unwritten is_static = cond is_static on.Nothing on.Own

-- on what a member is used that is static, or is not
unfoldable pub receiver : Standing → Bool → Receiver
receiver (Value e) is_static = on.Value e
receiver («Type» b at) is_static = on.Nothing
receiver (Lost at) is_static = on.Nothing
receiver (Own at) is_static = unwritten is_static

-- ---- a name that stands as a value there

-- what names nothing, as its parts
abbrev pub unresolved : Span → List Typed → Typed
unresolved at es = typed None at (form.Unresolved es)

abbrev pub value_of : Standing → Span → Declaration → Typed
value_of s at d = typed d.gives (first s) (form.Member d.entity (receiver s d.is_static) at)

unfoldable pub value_or_parts : Standing → Span → Option Declaration → Typed
value_or_parts s at None = unresolved (first s) (parts s)
value_or_parts s at (Some d) = value_of s at d

abbrev pub value_there : Scope → Standing → Text → Option Declaration
value_there scope s x = value_named (side scope s) x (members scope s)

-- the member of this name
unfoldable pub member : Scope → Standing → Name → Typed
member scope s name = value_or_parts s name.span (value_there scope s name.text)

-- E2: there is a type, and it has no such member.
unfoldable pub lacks : Scope → Standing → Text → Bool
lacks scope s x = has_owner s && not (any_named (side scope s) x (members scope s))

-- E5: a func, or a case with a payload, stands as a value.
unfoldable pub is_bare_func : Scope → Standing → Text → Bool
is_bare_func scope s x = any_named (side scope s) x (members scope s) && is_none (value_there scope s x)

-- both at the name
abbrev pub member_broken : Scope → Standing → Name → List Refusal
member_broken scope s name =
    when (lacks scope s name.text) rule.E2 name.span ++ when (is_bare_func scope s name.text) rule.E5 name.span
