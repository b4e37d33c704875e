-- T9: a declaration of a form that is left out; at its name.
use Rattle.std.specs.Prelude.{Bool, true, false, ◌||◌, ◌&&◌, is_none, is_some, List, [], ◌++◌, if◌then◌else◌}
use Rattle.std.specs.List.{list_any, flat_map}
use Rattle.sw_rules.specs.declared.Refusal.{Refusal}
use Rattle.sw_rules.specs.declared.Rule.TheVariants.{T9}
use Rattle.sw_findings.specs.Found.{when}
use Rattle.sw_tree.specs.declared.decl.ModifierKind.{ModifierKind}
use Rattle.sw_tree.specs.declared.decl.ModifierKind.TheVariants as modifier
use Rattle.sw_tree.specs.declared.decl.Modifier.{Modifier}
use Rattle.sw_tree.specs.declared.decl.Parameter.{Parameter}
use Rattle.sw_tree.specs.declared.decl.Signature.{Signature}
use Rattle.sw_tree.specs.declared.decl.StoredProperty.{StoredProperty}
use Rattle.sw_tree.specs.declared.decl.Member.{Member}
use Rattle.sw_tree.specs.declared.decl.Member.TheVariants as m
use Rattle.sw_tree.specs.declared.decl.EnumItem.{EnumItem}
use Rattle.sw_tree.specs.declared.decl.EnumItem.TheVariants as item
use Rattle.sw_tree.specs.declared.decl.Requirement.{Requirement}
use Rattle.sw_tree.specs.declared.decl.Requirement.TheVariants as r
use Rattle.sw_tree.specs.declared.decl.Decl.{Decl}
use Rattle.sw_tree.specs.declared.decl.Decl.TheVariants as d
use Rattle.sw_declared.specs.Declarations.{has_modifier}

-- ---- modifiers

abbrev pub is_static : List Modifier → Bool
is_static modifiers = has_modifier modifier.Static modifiers

abbrev pub is_distributed : List Modifier → Bool
is_distributed modifiers = has_modifier modifier.Distributed modifiers

abbrev pub is_nonisolated_word : ModifierKind → Bool
is_nonisolated_word modifier.Nonisolated = true
is_nonisolated_word kind = false

abbrev pub is_nonisolated : List Modifier → Bool
is_nonisolated modifiers = list_any (λ m. is_nonisolated_word m.kind) modifiers

-- ---- `inout` or `...` on a parameter, at its inner name; in a distributed func it breaks another rule (I8)

abbrev pub parameter_form : Parameter → List Refusal
parameter_form x = when (is_some x.inout || is_some x.variadic) T9 x.name.span

abbrev pub func_parameters : Signature → List Refusal
func_parameters x = if is_distributed x.modifiers then [] else flat_map parameter_form x.parameters

-- ---- members

-- a stored property that is `static` or `nonisolated`, or has neither type nor initial value
abbrev pub stored_form : StoredProperty → List Refusal
stored_form x =
    when ((is_static x.modifiers || is_nonisolated x.modifiers) || (is_none x.declared && is_none x.initial)) T9 x.name.span

-- an async func of a struct or an enum
abbrev pub value_func_form : Signature → List Refusal
value_func_form x = when x.is_async T9 x.name.span ++ func_parameters x

-- an async func of an actor that is `nonisolated` or static
abbrev pub actor_func_form : Signature → List Refusal
actor_func_form x = when (x.is_async && (is_nonisolated x.modifiers || is_static x.modifiers)) T9 x.name.span ++ func_parameters x

abbrev pub struct_member_form : Member → List Refusal
struct_member_form (m.Stored x) = stored_form x
struct_member_form (m.Computed x) = []
struct_member_form (m.Func x) = value_func_form x.signature
struct_member_form (m.Initializer x) = flat_map parameter_form x.parameters
struct_member_form (m.Typealias x) = []

-- In an enum each stored property and each initialiser is left out.
abbrev pub enum_member_form : Member → List Refusal
enum_member_form (m.Stored x) = when true T9 x.name.span
enum_member_form (m.Computed x) = []
enum_member_form (m.Func x) = value_func_form x.signature
enum_member_form (m.Initializer x) = when true T9 x.span ++ flat_map parameter_form x.parameters
enum_member_form (m.Typealias x) = []

abbrev pub actor_member_form : Member → List Refusal
actor_member_form (m.Stored x) = stored_form x
actor_member_form (m.Computed x) = []
actor_member_form (m.Func x) = actor_func_form x.signature
actor_member_form (m.Initializer x) = flat_map parameter_form x.parameters
actor_member_form (m.Typealias x) = []

abbrev pub item_form : EnumItem → List Refusal
item_form (item.Cases cases) = []
item_form (item.Member x) = enum_member_form x

-- An async requirement breaks nothing.
abbrev pub requirement_form : Requirement → List Refusal
requirement_form (r.Func x) = flat_map parameter_form x.parameters
requirement_form (r.Property name declared) = []

abbrev pub forms_broken : Decl → List Refusal
forms_broken (d.Import at name) = []
forms_broken (d.Typealias x) = []
forms_broken (d.Struct heading members) = flat_map struct_member_form members
forms_broken (d.Enum heading items) = flat_map item_form items
forms_broken (d.Protocol heading requirements) = flat_map requirement_form requirements
forms_broken (d.Actor heading members) = flat_map actor_member_form members
forms_broken (d.Func x) = func_parameters x.signature
