-- What a tree declares: its types with their members, its aliases, and its funcs, each in the order of the source.
use Rattle.std.specs.Prelude.{◌+◌, ℕ, zero, suc, Bool, true, false, ◌||◌, if◌then◌else◌, Option, Some, None, is_none, List, [], ◌∷◌, ◌++◌, map, codes}
use Rattle.std.specs.List.{list_any, flat_map}
use Rattle.sw_base.specs.declared.ids.TypeNo.{TypeNo}
use Rattle.sw_sight.specs.InSight.{Text, same}
use Rattle.sw_tree.specs.declared.expr.Name.{Name}
use Rattle.sw_tree.specs.declared.expr.Argument.{Argument}
use Rattle.sw_tree.specs.declared.types.«Type».{«Type» as TypeTree, out-Type}
use Rattle.sw_tree.specs.declared.types.«Type».TheOpen.{Type-F}
use Rattle.sw_tree.specs.declared.decl.Tree.{Tree}
use Rattle.sw_tree.specs.declared.decl.Typealias.{Typealias}
use Rattle.sw_tree.specs.declared.decl.Heading.{Heading}
use Rattle.sw_tree.specs.declared.decl.Modifier.{Modifier}
use Rattle.sw_tree.specs.declared.decl.ModifierKind.{ModifierKind}
use Rattle.sw_tree.specs.declared.decl.ModifierKind.TheVariants as modifier
use Rattle.sw_tree.specs.declared.decl.Parameter.{Parameter}
use Rattle.sw_tree.specs.declared.decl.ParameterLabel.{ParameterLabel}
use Rattle.sw_tree.specs.declared.decl.ParameterLabel.TheVariants as label
use Rattle.sw_tree.specs.declared.decl.Case.{Case}
use Rattle.sw_tree.specs.declared.decl.Payload.{Payload}
use Rattle.sw_tree.specs.declared.decl.Decl.{Decl}
use Rattle.sw_tree.specs.declared.decl.Decl.TheVariants as d
use Rattle.sw_tree.specs.declared.decl.Member.{Member as TreeMember}
use Rattle.sw_tree.specs.declared.decl.Member.TheVariants as m
use Rattle.sw_tree.specs.declared.decl.EnumItem.{EnumItem}
use Rattle.sw_tree.specs.declared.decl.EnumItem.TheVariants as item
use Rattle.sw_declared.specs.declared.names.Inner.{Inner}
use Rattle.sw_declared.specs.declared.names.Inner.TheVariants.{Nothing, ActorId}
use Rattle.sw_declared.specs.declared.names.Form.{Form}
use Rattle.sw_declared.specs.declared.names.Form.TheVariants as form
use Rattle.sw_declared.specs.declared.names.MemberKind.{MemberKind}
use Rattle.sw_declared.specs.declared.names.MemberKind.TheVariants as kind
use Rattle.sw_declared.specs.declared.names.Member.{Member}
use Rattle.sw_declared.specs.declared.names.DeclaredType.{DeclaredType}
use Rattle.sw_declared.specs.declared.names.Alias.{Alias}
use Rattle.sw_declared.specs.declared.names.FuncKind.{FuncKind}
use Rattle.sw_declared.specs.declared.names.FuncKind.TheVariants.{TopLevel, Method, Getter, Initializer, Synthesized}
use Rattle.sw_declared.specs.declared.names.DeclaredFunc.{DeclaredFunc}
use Rattle.sw_declared.specs.declared.names.Names.{Names}
use Rattle.sw_declared.specs.Members.{Label, Called}

-- ---- modifiers, labels, aliases

abbrev pub same_modifier : ModifierKind → ModifierKind → Bool
same_modifier modifier.Static modifier.Static = true
same_modifier modifier.Distributed modifier.Distributed = true
same_modifier modifier.Mutating modifier.Mutating = true
same_modifier a b = false

-- of `static`, `distributed` and `mutating`: it is one of the modifiers
abbrev pub has_modifier : ModifierKind → List Modifier → Bool
has_modifier kind modifiers = list_any (λ m. same_modifier kind m.kind) modifiers

abbrev pub label_text : Option Name → Label
label_text None = None
label_text (Some name) = Some name.text

-- with what an argument for the parameter is labelled
abbrev pub parameter_label : Parameter → ParameterLabel → Label
parameter_label x label.Own = Some x.name.text
parameter_label x label.Nothing = None
parameter_label x (label.Other name) = Some name.text

abbrev pub parameter_labels : List Parameter → List Label
parameter_labels = map (λ x. parameter_label x x.label)

abbrev pub argument_labels : List Argument → List Label
argument_labels = map (λ a. label_text a.label)

abbrev pub payload_labels : List Payload → List Label
payload_labels = map (λ p. label_text p.label)

abbrev pub names_node_system : Type-F TypeTree → Bool
names_node_system (Type-F.Name name) = same (codes "NodeSystem") name.text
names_node_system layer = false

-- the type is written `NodeSystem`
abbrev pub is_node_system : TypeTree → Bool
is_node_system x = names_node_system (out-Type x)

-- after the name of an alias of `NodeSystem` stands what stands after that
abbrev pub alias_inner : Typealias → Inner
alias_inner x = if is_node_system x.target then ActorId else Nothing

-- ---- the members of a type

abbrev pub member : Text → Called → Bool → MemberKind → Member
member name labels is_static kind = record { name = name; labels = labels; is_static = is_static; kind = kind }

-- An initialiser has no name. An alias is a member of the type and not of its instances.
abbrev pub members_of : TreeMember → List Member
members_of (m.Stored x) = member x.name.text None (has_modifier modifier.Static x.modifiers) kind.Stored ∷ []
members_of (m.Computed x) = member x.name.text None (has_modifier modifier.Static x.modifiers) kind.Computed ∷ []
members_of (m.Func x) =
    member x.signature.name.text (Some (parameter_labels x.signature.parameters)) (has_modifier modifier.Static x.signature.modifiers) kind.Func ∷ []
members_of (m.Initializer x) = []
members_of (m.Typealias x) = member x.name.text None true (kind.Alias (alias_inner x)) ∷ []

-- brackets with nothing between them are no payload
abbrev pub case_call : Option (List Payload) → Called
case_call None = None
case_call (Some []) = None
case_call (Some (p ∷ parts)) = Some (payload_labels (p ∷ parts))

abbrev pub case_member : Case → Member
case_member x = member x.name.text (case_call x.payload) true kind.Case

abbrev pub item_members : EnumItem → List Member
item_members (item.Cases cases) = map case_member cases
item_members (item.Member x) = members_of x

-- what each distributed actor has: `id`, `actorSystem`, and the static `resolve(id:using:)`
abbrev pub distributed_members : List Member
distributed_members =
    member (codes "id") None false kind.BuiltIn
    ∷ member (codes "actorSystem") None false kind.BuiltIn
    ∷ member (codes "resolve") (Some (Some (codes "id") ∷ Some (codes "using") ∷ [])) true kind.BuiltIn
    ∷ []

abbrev pub is_distributed : Heading → Bool
is_distributed heading = has_modifier modifier.Distributed heading.modifiers

-- the members that a body in this declaration sees without a `.`
abbrev pub members_in : Decl → List Member
members_in (d.Struct heading members) = flat_map members_of members
members_in (d.Enum heading items) = flat_map item_members items
members_in (d.Actor heading members) = (if is_distributed heading then distributed_members else []) ++ flat_map members_of members
members_in decl = []

-- ---- the types and aliases of a file

abbrev pub declared_type : Heading → Form → Decl → DeclaredType
declared_type heading form decl = record { name = heading.name.text; form = form; members = members_in decl }

abbrev pub types_in : Decl → List DeclaredType
types_in (d.Struct heading members) = declared_type heading form.Struct (d.Struct heading members) ∷ []
types_in (d.Enum heading items) = declared_type heading form.Enum (d.Enum heading items) ∷ []
types_in (d.Protocol heading requirements) = declared_type heading form.Protocol (d.Protocol heading requirements) ∷ []
types_in (d.Actor heading members) =
    declared_type heading (if is_distributed heading then form.DistributedActor else form.Actor) (d.Actor heading members) ∷ []
types_in decl = []

abbrev pub aliases_in : Decl → List Alias
aliases_in (d.Typealias x) = record { name = x.name.text; inner = alias_inner x } ∷ []
aliases_in decl = []

-- ---- the funcs, getters and initialisers of a file

abbrev pub declared_func : Option TypeNo → FuncKind → Text → List Label → Bool → DeclaredFunc
declared_func owner kind name labels is_static = record { owner = owner; kind = kind; name = name; labels = labels; is_static = is_static }

abbrev pub member_funcs : TypeNo → TreeMember → List DeclaredFunc
member_funcs owner (m.Stored x) = []
member_funcs owner (m.Computed x) = declared_func (Some owner) Getter x.name.text [] (has_modifier modifier.Static x.modifiers) ∷ []
member_funcs owner (m.Func x) =
    declared_func (Some owner) Method x.signature.name.text (parameter_labels x.signature.parameters) (has_modifier modifier.Static x.signature.modifiers) ∷ []
member_funcs owner (m.Initializer x) = declared_func (Some owner) Initializer (codes "init") (parameter_labels x.parameters) false ∷ []
member_funcs owner (m.Typealias x) = []

abbrev pub item_funcs : TypeNo → EnumItem → List DeclaredFunc
item_funcs owner (item.Cases cases) = []
item_funcs owner (item.Member x) = member_funcs owner x

-- a stored property without an initial value
abbrev pub is_uninitialized : TreeMember → Bool
is_uninitialized (m.Stored x) = is_none x.initial
is_uninitialized member = false

-- its name
abbrev pub uninitialized : TreeMember → List Text
uninitialized (m.Stored x) = if is_none x.initial then x.name.text ∷ [] else []
uninitialized member = []

abbrev pub is_initializer : TreeMember → Bool
is_initializer (m.Initializer x) = true
is_initializer member = false

abbrev pub synthesized : TypeNo → List Label → DeclaredFunc
synthesized owner labels = declared_func (Some owner) Synthesized (codes "init") labels false

-- A struct without an initialiser has one of its stored properties without an initial value.
abbrev pub struct_funcs : TypeNo → List TreeMember → List DeclaredFunc
struct_funcs owner members =
    if list_any is_initializer members then [] else synthesized owner (map Some (flat_map uninitialized members)) ∷ []

-- An actor without an initialiser has one where each stored property has an initial value; that of a distributed actor
-- takes its actor system.
abbrev pub actor_funcs : TypeNo → Bool → List TreeMember → List DeclaredFunc
actor_funcs owner distributed members =
    if list_any is_initializer members || list_any is_uninitialized members then []
    else synthesized owner (if distributed then Some (codes "actorSystem") ∷ [] else []) ∷ []

-- The funcs of a declaration; `owner` is the number of its type, where it declares one. A synthesised initialiser comes
-- first.
abbrev pub funcs_in : TypeNo → Decl → List DeclaredFunc
funcs_in owner (d.Import at name) = []
funcs_in owner (d.Typealias x) = []
funcs_in owner (d.Struct heading members) = struct_funcs owner members ++ flat_map (member_funcs owner) members
funcs_in owner (d.Enum heading items) = flat_map (item_funcs owner) items
funcs_in owner (d.Protocol heading requirements) = []
funcs_in owner (d.Actor heading members) = actor_funcs owner (is_distributed heading) members ++ flat_map (member_funcs owner) members
funcs_in owner (d.Func x) = declared_func None TopLevel x.signature.name.text (parameter_labels x.signature.parameters) false ∷ []

-- how many types a declaration declares
abbrev pub count_types : Decl → ℕ
count_types (d.Import at name) = zero
count_types (d.Typealias x) = zero
count_types (d.Struct heading members) = suc zero
count_types (d.Enum heading items) = suc zero
count_types (d.Protocol heading requirements) = suc zero
count_types (d.Actor heading members) = suc zero
count_types (d.Func x) = zero

-- The funcs of declarations, of which the first type has this number.
unfoldable pub funcs_from : ℕ → List Decl → List DeclaredFunc
funcs_from n [] = []
funcs_from n (decl ∷ decls) = funcs_in (record { 0 = n }) decl ++ funcs_from (n + count_types decl) decls

-- ---- the whole

abbrev pub declarations : Tree → Names
declarations tree =
    record { types = flat_map types_in tree.decls; aliases = flat_map aliases_in tree.decls; funcs = funcs_from 1 tree.decls }
