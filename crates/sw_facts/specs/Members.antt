-- The members of a declared type as declarations, and the funcs of a file: what each takes and gives, and which entity it is.
use Rattle.std.specs.Prelude.{ℕ, ◌+◌, Bool, true, false, ◌&&◌, ◌||◌, not, if◌then◌else◌, Option, Some, None, List, [], ◌∷◌, ◌++◌, map, length, codes}
use Rattle.std.specs.List.{flat_map, list_any}
use Rattle.std.specs.Option.{option_map}
use Rattle.sw_base.specs.declared.ids.TypeNo.{TypeNo}
use Rattle.sw_base.specs.declared.ids.FuncNo.{FuncNo}
use Rattle.sw_sight.specs.InSight.{Text}
use Rattle.sw_tree.specs.declared.expr.Binding.{Binding}
use Rattle.sw_tree.specs.declared.expr.Binding.TheVariants as binding
use Rattle.sw_tree.specs.declared.decl.Modifier.{Modifier}
use Rattle.sw_tree.specs.declared.decl.ModifierKind.TheVariants as modifier
use Rattle.sw_tree.specs.declared.decl.Parameter.{Parameter}
use Rattle.sw_tree.specs.declared.decl.Func.{Func}
use Rattle.sw_tree.specs.declared.decl.Decl.{Decl}
use Rattle.sw_tree.specs.declared.decl.Decl.TheVariants as d
use Rattle.sw_tree.specs.declared.decl.Member.{Member as TreeMember}
use Rattle.sw_tree.specs.declared.decl.Member.TheVariants as m
use Rattle.sw_tree.specs.declared.decl.EnumItem.{EnumItem}
use Rattle.sw_tree.specs.declared.decl.EnumItem.TheVariants as item
use Rattle.sw_value.specs.declared.ty.Base.{Base}
use Rattle.sw_value.specs.declared.ty.Base.TheVariants as base
use Rattle.sw_value.specs.declared.ty.Ty.{Ty}
use Rattle.sw_typed.specs.declared.entity.Entity.TheVariants as entity
use Rattle.sw_declared.specs.Members.{Label, Called}
use Rattle.sw_declared.specs.Declarations.{has_modifier, parameter_labels, is_initializer, is_uninitialized, member_funcs, item_funcs}
use Rattle.sw_declared.specs.declared.names.Form.{Form}
use Rattle.sw_declared.specs.declared.names.Form.TheVariants as form
use Rattle.sw_declared.specs.declared.names.Member.{Member}
use Rattle.sw_declared.specs.declared.names.Names.{Names}
use Rattle.sw_type_table.specs.declared.entry.WrittenType.{WrittenType}
use Rattle.sw_type_table.specs.declared.entry.WrittenType.TheVariants.{Absent, NoType, Known}
use Rattle.sw_type_table.specs.declared.entry.Property.{Property}
use Rattle.sw_type_table.specs.declared.entry.CaseEntry.{CaseEntry}
use Rattle.sw_type_table.specs.declared.entry.Requirement.{Requirement}
use Rattle.sw_type_table.specs.declared.entry.Requirement.TheVariants as requirement
use Rattle.sw_type_table.specs.declared.entry.TypeEntry.{TypeEntry}
use Rattle.sw_type_table.specs.Written.{written, declared_base}
use Rattle.sw_type_table.specs.Table.{result_type}
use Rattle.sw_members.specs.declared.declaration.Declaration.{Declaration}
use Rattle.sw_typing.specs.Types.{bare}
use Rattle.sw_facts.specs.Numbers.{any_owner, counted}
use Rattle.sw_facts.specs.BuiltIns.{value, callable}

-- ---- stored properties, cases and requirements

abbrev pub is_variable : Binding → Bool
is_variable binding.Var = true
is_variable binding.Let = false

-- the type that is written, where there is one
abbrev pub written_type : WrittenType → Option Ty
written_type Absent = None
written_type NoType = None
written_type (Known t) = Some t

abbrev pub property : TypeNo → ℕ → Property → Declaration
property owner number x =
    value x.name x.is_static (entity.Stored owner number x.binding) (written_type x.declared) (is_variable x.binding)

-- A case without a payload stands as a value.
abbrev pub case_labels : List Label → Called
case_labels [] = None
case_labels (label ∷ labels) = Some (label ∷ labels)

abbrev pub case_of : TypeNo → ℕ → CaseEntry → Declaration
case_of owner number x = record {
  name = x.name;
  labels = case_labels x.labels;
  is_static = true;
  entity = entity.Case owner number;
  takes = x.types;
  gives = Some (bare (base.Enum owner));
  is_mutating = false;
  is_var = false;
}

-- A static func changes no value, whatever its modifiers say.
abbrev pub changes : Bool → Bool → Bool
changes is_mutating is_static = is_mutating && not is_static

abbrev pub requirement_of : TypeNo → ℕ → Requirement → Declaration
requirement_of owner number (requirement.Func x) =
    callable x.name x.is_static (entity.Requirement owner number) x.labels x.types x.result (changes x.is_mutating x.is_static)
requirement_of owner number (requirement.Property name t) = value name false (entity.Requirement owner number) t false

-- ---- funcs, getters and initialisers

abbrev pub parameter_types : Names → List Member → List Parameter → List (Option Ty)
parameter_types names own parameters = map (λ p. written names own p.declared) parameters

abbrev pub is_static : List Modifier → Bool
is_static modifiers = has_modifier modifier.Static modifiers

abbrev pub func : Names → List Member → ℕ → Func → Declaration
func names own number x =
    callable x.signature.name.text (is_static x.signature.modifiers) (entity.Func (record { 0 = number }))
    (parameter_labels x.signature.parameters) (parameter_types names own x.signature.parameters)
    (result_type names own x.signature.result)
    (changes (has_modifier modifier.Mutating x.signature.modifiers) (is_static x.signature.modifiers))

-- An initialiser is called by the type's name, and gives a value of the type.
abbrev pub initializer : Option Base → ℕ → List Label → List (Option Ty) → Declaration
initializer gives number labels takes =
    callable (codes "init") true (entity.Initializer (record { 0 = number })) labels takes (option_map bare gives) false

-- what a member is that takes a number among the funcs
abbrev pub member_func : Names → List Member → Option Base → ℕ → TreeMember → List Declaration
member_func names own type number (m.Stored x) = []
member_func names own type number (m.Computed x) =
    value x.name.text (is_static x.modifiers) (entity.Getter (record { 0 = number })) (written names own x.declared) false ∷ []
member_func names own type number (m.Func x) = func names own number x ∷ []
member_func names own type number (m.Initializer x) =
    initializer type number (parameter_labels x.parameters) (parameter_types names own x.parameters) ∷ []
member_func names own type number (m.Typealias x) = []

abbrev pub item_func : Names → List Member → Option Base → ℕ → EnumItem → List Declaration
item_func names own type number (item.Cases cases) = []
item_func names own type number (item.Member x) = member_func names own type number x

-- ---- the initialiser that a type has without writing one

abbrev pub unset_label : Property → List Label
unset_label x = if x.has_initial then [] else Some x.name ∷ []

abbrev pub unset_type : Property → List (Option Ty)
unset_type x = if x.has_initial then [] else written_type x.declared ∷ []

-- of a struct, by its stored properties without an initial value
abbrev pub memberwise : Option Base → ℕ → List Property → Declaration
memberwise type number properties = initializer type number (flat_map unset_label properties) (flat_map unset_type properties)

-- of an actor; that of a distributed actor takes its actor system
abbrev pub actor_initializer : Option Base → ℕ → Form → Declaration
actor_initializer type number form.DistributedActor =
    initializer type number (Some (codes "actorSystem") ∷ []) (Some (bare base.System) ∷ [])
actor_initializer type number form = initializer type number [] []

abbrev pub synthesized : Option Base → ℕ → Decl → TypeEntry → List Declaration
synthesized type number (d.Struct heading members) entry =
    if list_any is_initializer members then [] else memberwise type number entry.properties ∷ []
synthesized type number (d.Actor heading members) entry =
    if list_any is_initializer members || list_any is_uninitialized members then []
    else actor_initializer type number entry.form ∷ []
synthesized type number decl entry = []

-- ---- all that take a number, from the first number of the declaration on; what is synthesised comes first

abbrev pub written_funcs : Names → Option Base → ℕ → Decl → List Member → List Declaration
written_funcs names type number (d.Struct heading members) own =
    counted (member_funcs any_owner) (member_func names own type) number members
written_funcs names type number (d.Enum heading items) own =
    counted (item_funcs any_owner) (item_func names own type) number items
written_funcs names type number (d.Actor heading members) own =
    counted (member_funcs any_owner) (member_func names own type) number members
written_funcs names type number decl own = []

abbrev pub funcs_of : Names → List Member → TypeNo → ℕ → Decl → TypeEntry → List Declaration
funcs_of names own owner number decl entry =
    synthesized (declared_base owner entry.form) number decl entry
    ++ written_funcs names (declared_base owner entry.form)
    (number + length (synthesized (declared_base owner entry.form) number decl entry)) decl own
