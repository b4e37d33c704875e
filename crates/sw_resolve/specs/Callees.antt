-- What a call calls, and the rules that it breaks by what it calls.
use Rattle.std.specs.Prelude.{Bool, true, false, ◌||◌, ◌&&◌, not, cond, Option, Some, None, is_none, is_some, List, [], ◌∷◌, ◌++◌, map, codes}
use Rattle.std.specs.Option.{option_and_then}
use Rattle.sw_base.specs.declared.ids.Span.{Span}
use Rattle.sw_rules.specs.declared.Refusal.{Refusal}
use Rattle.sw_rules.specs.declared.Rule.TheVariants as rule
use Rattle.sw_findings.specs.Found.{when}
use Rattle.sw_sight.specs.InSight.{Text}
use Rattle.sw_tree.specs.declared.expr.Name.{Name}
use Rattle.sw_value.specs.declared.ty.Ty.{Ty}
use Rattle.sw_declared.specs.Members.{Label}
use Rattle.sw_typed.specs.declared.entity.Entity.{Entity}
use Rattle.sw_typed.specs.declared.entity.Entity.TheVariants as entity
use Rattle.sw_typed.specs.declared.entity.BuiltIn.TheVariants as built_in
use Rattle.sw_typed.specs.declared.expr.Typed.{Typed}
use Rattle.sw_typed.specs.declared.expr.Receiver.{Receiver}
use Rattle.sw_typed.specs.declared.expr.Receiver.TheVariants as on
use Rattle.sw_typed.specs.ElaboratedOf.{receiver_of}
use Rattle.sw_members.specs.declared.declaration.Declaration.{Declaration}
use Rattle.sw_members.specs.declared.declaration.Side.TheVariants.{Both}
use Rattle.sw_members.specs.Found.{any_callable, any_named, fitting}
use Rattle.sw_locals.specs.declared.local.Local.{Local}
use Rattle.sw_locals.specs.InBody.{local_named}
use Rattle.sw_typing.specs.declared.need.Need.{Need}
use Rattle.sw_typing.specs.declared.need.Need.TheVariants.{Free}
use Rattle.sw_typing.specs.Types.{element}
use Rattle.sw_typing.specs.Needs.{needing}
use Rattle.sw_resolve.specs.declared.scope.Scope.{Scope}
use Rattle.sw_resolve.specs.declared.standing.Standing.{Standing}
use Rattle.sw_resolve.specs.declared.standing.Standing.TheVariants.{Own}
use Rattle.sw_resolve.specs.declared.callee.Callee.{Callee}
use Rattle.sw_resolve.specs.declared.callee.Called.{Called}
use Rattle.sw_resolve.specs.declared.callee.Called.TheVariants as called
use Rattle.sw_resolve.specs.Scopes.{is_own, is_type, is_declared, members_at, type_named}
use Rattle.sw_resolve.specs.Standings.{members, side, owner, first, parts, receiver, value_there, value_of, lacks}
use Rattle.sw_resolve.specs.Names.{variable}
use Rattle.sw_resolve.specs.Changes.{may_change}

-- ---- what the arguments need

-- What is printed may be of any type, and what is appended to an array is of the type of its elements.
unfoldable pub needs_for : Option Ty → Entity → List (Option Ty) → List Need
needs_for of (entity.BuiltIn built_in.Print) takes = Free ∷ []
needs_for of (entity.BuiltIn built_in.Append) takes = needing (option_and_then element of) ∷ []
needs_for of entity takes = map needing takes

-- ---- a declaration as what is called

-- E8: a mutating func is called on what is no variable.
unfoldable pub is_unchangeable : Scope → Bool → Receiver → Bool
is_unchangeable scope is_mutating r = is_mutating && not (may_change scope (receiver_of r))

-- A declaration, called on this at the called name, where a value of that type stands before it. Where the call breaks E8 it
-- gives nothing.
abbrev pub callee_of : Span → Receiver → Option Ty → Span → Bool → Declaration → Callee
callee_of begins r of at is_broken d = record {
  first = begins;
  entity = d.entity;
  receiver = r;
  at = at;
  needs = needs_for of d.entity d.takes;
  gives = cond is_broken None d.gives;
}

-- ---- a call of a member

-- the first of this name that takes these labels
abbrev pub fitting_there : Scope → Standing → Text → List Label → Option Declaration
fitting_there scope s x labels = fitting (side scope s) x labels (members scope s)

abbrev pub callable_there : Scope → Standing → Text → Bool
callable_there scope s x = any_callable (side scope s) x (members scope s)

unfoldable pub value_parts : Standing → Span → Option Declaration → List Typed
value_parts s at None = parts s
value_parts s at (Some d) = value_of s at d ∷ []

-- Where nothing takes the labels, what stands there is no callee: the value of the name, where nothing of the name can be
-- called, or else what stands before it.
unfoldable pub no_callee : Scope → Standing → Name → List Typed
no_callee scope s name = cond (callable_there scope s name.text) (parts s) (value_parts s name.span (value_there scope s name.text))

abbrev pub changes_constant : Scope → Standing → Declaration → Bool
changes_constant scope s d = is_unchangeable scope d.is_mutating (receiver s d.is_static)

abbrev pub member_callee : Scope → Standing → Span → Declaration → Callee
member_callee scope s at d = callee_of (first s) (receiver s d.is_static) (owner s) at (changes_constant scope s d) d

unfoldable pub callee_or_parts : Scope → Standing → Name → Option Declaration → Called
callee_or_parts scope s name None = called.Nothing (first s) (no_callee scope s name)
callee_or_parts scope s name (Some d) = called.Callee (member_callee scope s name.span d)

unfoldable pub called_there : Scope → Standing → Name → List Label → Called
called_there scope s name labels = callee_or_parts scope s name (fitting_there scope s name.text labels)

-- E3: members of the name can be called, and none takes these labels in this order.
unfoldable pub fits_none : Scope → Standing → Text → List Label → Bool
fits_none scope s x labels = callable_there scope s x && is_none (fitting_there scope s x labels)

abbrev pub has_type : Option Declaration → Bool
has_type None = false
has_type (Some d) = is_some d.gives

-- E5 at `(`: a value that has a type is called, and nothing of its name can be.
unfoldable pub calls_value : Scope → Standing → Text → Bool
calls_value scope s x = not (callable_there scope s x) && has_type (value_there scope s x)

-- E8 at the name, of the declaration that is called
unfoldable pub e8 : Scope → Standing → Span → Option Declaration → List Refusal
e8 scope s at None = []
e8 scope s at (Some d) = when (changes_constant scope s d) rule.E8 at

-- E2, E3 and E8 at the name; E5 at `(`
abbrev pub call_broken : Scope → Standing → Name → List Label → Span → List Refusal
call_broken scope s name labels paren =
    when (lacks scope s name.text) rule.E2 name.span
    ++ (when (fits_none scope s name.text labels) rule.E3 name.span
    ++ (when (calls_value scope s name.text) rule.E5 paren
    ++ e8 scope s name.span (fitting_there scope s name.text labels)))

-- ---- a call of a name that stands alone

unfoldable pub or_else : Option Declaration → Option Declaration → Option Declaration
or_else None other = other
or_else (Some d) other = Some d

-- What the file declares by a name hides what is built in.
unfoldable pub built_in_fitting : Scope → Text → List Label → Option Declaration
built_in_fitting scope x labels =
    cond (any_named Both x scope.known.now.funcs || is_type scope x) None (fitting Both x labels scope.known.now.built_in)

-- a func of the file, or else an initialiser of the type of this name, or else what is built in
unfoldable pub file_fitting : Scope → Text → List Label → Option Declaration
file_fitting scope x labels =
    or_else (fitting Both x labels scope.known.now.funcs)
    (or_else (fitting Both (codes "init") labels (members_at scope.known.now (type_named scope x)))
    (built_in_fitting scope x labels))

unfoldable pub file_callee : Span → Option Declaration → Called
file_callee at None = called.Nothing at []
file_callee at (Some d) = called.Callee (callee_of at on.Nothing None at false d)

unfoldable pub file_called : Scope → Name → List Label → Called
file_called scope name labels = file_callee name.span (file_fitting scope name.text labels)

-- E3: something has the name, and nothing takes the labels.
abbrev pub file_broken : Scope → Name → List Label → List Refusal
file_broken scope name labels = when (is_declared scope name.text && is_none (file_fitting scope name.text labels)) rule.E3 name.span

unfoldable pub member_or_file : Scope → Name → List Label → Called
member_or_file scope name labels = cond (is_own scope name.text) (called_there scope (Own name.span) name labels) (file_called scope name labels)

unfoldable pub member_or_file_broken : Scope → Name → List Label → Span → List Refusal
member_or_file_broken scope name labels paren =
    cond (is_own scope name.text) (call_broken scope (Own name.span) name labels paren) (file_broken scope name labels)

unfoldable pub name_or_variable : Scope → Name → List Label → Option Local → Called
name_or_variable scope name labels None = member_or_file scope name labels
name_or_variable scope name labels (Some local) = called.Nothing name.span (variable name.span local ∷ [])

unfoldable pub name_or_variable_broken : Scope → Name → List Label → Span → Option Local → List Refusal
name_or_variable_broken scope name labels paren None = member_or_file_broken scope name labels paren
name_or_variable_broken scope name labels paren (Some local) = when (is_some local.ty) rule.E5 paren

-- A variable of the name hides the members of the own type, and these what the file declares.
unfoldable pub name_called : Scope → Name → List Label → Called
name_called scope name labels = name_or_variable scope name labels (local_named name.text scope.locals.now)

unfoldable pub name_call_broken : Scope → Name → List Label → Span → List Refusal
name_call_broken scope name labels paren = name_or_variable_broken scope name labels paren (local_named name.text scope.locals.now)

-- ---- a call of a value

unfoldable pub value_called : Typed → Called
value_called e = called.Nothing e.first (e ∷ [])

-- E5 at `(`
abbrev pub value_call_broken : Typed → Span → List Refusal
value_call_broken e paren = when (is_some e.ty) rule.E5 paren
