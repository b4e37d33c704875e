-- What stands after the `:` of a heading: T1, and T6 where the form of the type breaks it.
use Rattle.std.specs.Prelude.{Bool, true, false, ◌||◌, ◌&&◌, not, Option, Some, None, List, [], codes}
use Rattle.std.specs.List.{flat_map}
use Rattle.sw_rules.specs.declared.Refusal.{Refusal}
use Rattle.sw_rules.specs.declared.Rule.TheVariants.{T1, T6}
use Rattle.sw_findings.specs.Found.{when}
use Rattle.sw_sight.specs.InSight.{Text}
use Rattle.sw_tree.specs.declared.expr.Name.{Name}
use Rattle.sw_tree.specs.declared.decl.Heading.{Heading}
use Rattle.sw_tree.specs.declared.decl.Decl.{Decl}
use Rattle.sw_tree.specs.declared.decl.Decl.TheVariants as d
use Rattle.sw_declared.specs.declared.names.Form.{Form}
use Rattle.sw_declared.specs.declared.names.Form.TheVariants.{Struct, Enum, Protocol, Actor, DistributedActor}
use Rattle.sw_declared.specs.declared.names.Member.{Member}
use Rattle.sw_declared.specs.declared.names.Names.{Names}
use Rattle.sw_type_table.specs.Written.{is_hidden}
use Rattle.sw_type_table.specs.Table.{conforms_to}
use Rattle.sw_check_decl.specs.Protocols.{form_named, is_built_in_protocol, is_error}

-- ---- T1: a name after `:` is no protocol, or a declared protocol or `Error` stands on an actor; at the name

-- by the declared type that has the name, where there is one; on an actor or not
abbrev pub is_misplaced : Bool → Text → Option Form → Bool
is_misplaced on_actor x (Some Struct) = true
is_misplaced on_actor x (Some Enum) = true
is_misplaced on_actor x (Some Protocol) = on_actor
is_misplaced on_actor x (Some Actor) = true
is_misplaced on_actor x (Some DistributedActor) = true
is_misplaced on_actor x None = not (is_built_in_protocol x || (is_error x && not on_actor))

-- A name that nothing has is refused as an unknown type (N2) by an earlier pass; that it breaks T1 too does not matter.
abbrev pub conformance_broken : Names → List Member → Bool → Name → List Refusal
conformance_broken names own on_actor name =
    when (is_hidden names own name.text || is_misplaced on_actor name.text (form_named names name.text)) T1 name.span

abbrev pub heading_broken : Names → List Member → Bool → Heading → List Refusal
heading_broken names own on_actor heading = flat_map (conformance_broken names own on_actor) heading.conformances

abbrev pub conformances_broken : Names → List Member → Decl → List Refusal
conformances_broken names own (d.Import at name) = []
conformances_broken names own (d.Typealias x) = []
conformances_broken names own (d.Struct heading members) = heading_broken names own false heading
conformances_broken names own (d.Enum heading items) = heading_broken names own false heading
conformances_broken names own (d.Protocol heading requirements) = heading_broken names own false heading
conformances_broken names own (d.Actor heading members) = heading_broken names own true heading
conformances_broken names own (d.Func x) = []

-- ---- T6, by the form: `Error` on a type that is no enum; at the type's name

abbrev pub error_broken : Names → List Member → Heading → List Refusal
error_broken names own heading = when (conforms_to names own (codes "Error") heading.conformances) T6 heading.name.span

abbrev pub errors_broken : Names → List Member → Decl → List Refusal
errors_broken names own (d.Import at name) = []
errors_broken names own (d.Typealias x) = []
errors_broken names own (d.Struct heading members) = error_broken names own heading
errors_broken names own (d.Enum heading items) = []
errors_broken names own (d.Protocol heading requirements) = error_broken names own heading
errors_broken names own (d.Actor heading members) = error_broken names own heading
errors_broken names own (d.Func x) = []
