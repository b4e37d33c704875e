-- What a name that stands alone means: a variable, or else a member of the own type.
use Rattle.std.specs.Prelude.{Bool, ◌&&◌, not, Option, Some, None, is_none, List}
use Rattle.sw_base.specs.declared.ids.Span.{Span}
use Rattle.sw_rules.specs.declared.Refusal.{Refusal}
use Rattle.sw_rules.specs.declared.Rule.TheVariants as rule
use Rattle.sw_findings.specs.Found.{when}
use Rattle.sw_sight.specs.InSight.{Text}
use Rattle.sw_tree.specs.declared.expr.Name.{Name}
use Rattle.sw_typed.specs.declared.expr.Typed.{Typed}
use Rattle.sw_typed.specs.declared.expr.Form.TheVariants as form
use Rattle.sw_locals.specs.declared.local.Local.{Local}
use Rattle.sw_locals.specs.InBody.{local_named}
use Rattle.sw_typing.specs.Conversions.{typed}
use Rattle.sw_resolve.specs.declared.scope.Scope.{Scope}
use Rattle.sw_resolve.specs.declared.standing.Standing.TheVariants.{Own}
use Rattle.sw_resolve.specs.Scopes.{is_local, is_declared}
use Rattle.sw_resolve.specs.Standings.{member, value_there}

abbrev pub variable : Span → Local → Typed
variable at local = typed local.ty at (form.Variable local.variable)

unfoldable pub variable_or_member : Scope → Name → Option Local → Typed
variable_or_member scope name (Some local) = variable name.span local
variable_or_member scope name None = member scope (Own name.span) name

-- the variable of this name, or else the member
unfoldable pub named : Scope → Name → Typed
named scope name = variable_or_member scope name (local_named name.text scope.locals.now)

-- E5: something has the name, and no value has: a func, a case with a payload, or a type stands as a value.
unfoldable pub is_no_value : Scope → Name → Bool
is_no_value scope name =
    not (is_local scope name.text)
    && (is_none (value_there scope (Own name.span) name.text) && is_declared scope name.text)

abbrev pub name_broken : Scope → Name → List Refusal
name_broken scope name = when (is_no_value scope name) rule.E5 name.span
