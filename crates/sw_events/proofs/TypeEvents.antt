-- The events of each form of type.
use Rattle.std.proofs.Common.{◌≡◌, List, [], ◌∷◌, sym, ap, ◌∙◌, append_assoc}
use Rattle.sw_base.specs.declared.ids.Span.{Span}
use Rattle.sw_tree.specs.declared.expr.Name.{Name}
use Rattle.sw_tree.specs.declared.types.«Type».{«Type» as TypeTree, fold-roll-Type, roll-Type, map-Type}
use Rattle.sw_tree.specs.declared.types.«Type».TheOpen.{Type-F}
use Rattle.sw_tree.specs.declared.types.«Type».TheVariants as t
use Rattle.sw_scope.specs.Events.{Event, types, inner}
use Rattle.sw_events.proofs.Runs.{run_append, run_none}
use Rattle.sw_events.specs.Bodies.{type_level, type_events}

rolled : (layer : Type-F TypeTree) {x : TypeTree} → roll-Type layer ≡ x → type_events x ≡ type_level (map-Type TypeTree (List Event) type_events layer)
rolled layer h = ap type_events (sym h) ∙ fold-roll-Type (List Event) type_level layer

pub of_type_name : (name : Name) → type_events (t.Name name) ≡ types name ∷ []
of_type_name name = rolled _ (t.rolls-Name name)

pub of_type_member : (outer : Name) (name : Name) → type_events (t.Member outer name) ≡ inner outer name ∷ []
of_type_member outer name = rolled _ (t.rolls-Member outer name)

pub of_type_array : (span : Span) (x : TypeTree) → type_events (t.Array span x) ≡ type_events x
of_type_array span x = rolled _ (t.rolls-Array span x)

pub of_type_any : (span : Span) (name : Name) → type_events (t.Any span name) ≡ types name ∷ []
of_type_any span name = rolled _ (t.rolls-Any span name)

pub of_type_void : (span : Span) → type_events (t.Void span) ≡ []
of_type_void span = rolled _ (t.rolls-Void span)

pub of_type_optional : (x : TypeTree) → type_events (t.Optional x) ≡ type_events x
of_type_optional x = rolled _ (t.rolls-Optional x)

pub ruleset type_rules = (append_assoc, run_append, run_none, of_type_name, of_type_member, of_type_array, of_type_any, of_type_void, of_type_optional)
