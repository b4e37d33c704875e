-- The parts of a declaration in which names are looked up: its heading, each of its members, items or requirements.
use Rattle.std.specs.Prelude.{Bool, true, false, not, Option, None, List, [], ◌∷◌, ◌++◌, map}
use Rattle.sw_tree.specs.declared.types.«Type».{«Type» as TypeTree}
use Rattle.sw_tree.specs.declared.decl.Heading.{Heading}
use Rattle.sw_tree.specs.declared.decl.Modifier.{Modifier}
use Rattle.sw_tree.specs.declared.decl.ModifierKind.TheVariants as modifier
use Rattle.sw_tree.specs.declared.decl.Func.{Func}
use Rattle.sw_tree.specs.declared.decl.Parameter.{Parameter}
use Rattle.sw_tree.specs.declared.decl.Case.{Case}
use Rattle.sw_tree.specs.declared.decl.Decl.{Decl}
use Rattle.sw_tree.specs.declared.decl.Decl.TheVariants as d
use Rattle.sw_tree.specs.declared.decl.Member.{Member}
use Rattle.sw_tree.specs.declared.decl.Member.TheVariants as m
use Rattle.sw_tree.specs.declared.decl.Accessor.{Accessor}
use Rattle.sw_tree.specs.declared.decl.Accessor.TheVariants as accessor
use Rattle.sw_tree.specs.declared.decl.EnumItem.{EnumItem}
use Rattle.sw_tree.specs.declared.decl.EnumItem.TheVariants as item
use Rattle.sw_tree.specs.declared.decl.Requirement.{Requirement}
use Rattle.sw_tree.specs.declared.decl.Requirement.TheVariants as r
use Rattle.sw_declared.specs.Declarations.{has_modifier}
use Rattle.sw_scope.specs.Events.{Event, binds, types, scope, each, perhaps}
use Rattle.sw_events.specs.Bodies.{type_events, expr_events, block_events}

-- whether there is an instance of the own type, and what the part says of names
pub record Part : Type 0 where
  pub has_instance : Bool
  pub events : List Event

abbrev pub part : Bool → List Event → Part
part has_instance events = record { has_instance = has_instance; events = events }

abbrev pub parameter_events : Parameter → List Event
parameter_events x = type_events x.declared ++ binds x.name ∷ []

-- parameters are a scope round what follows
abbrev pub signature_events : List Parameter → Option TypeTree → List Event → List Event
signature_events parameters result body = scope (each parameter_events parameters ++ (perhaps type_events result ++ body))

abbrev pub accessor_events : Accessor → List Event
accessor_events (accessor.Body body) = block_events body
accessor_events (accessor.Get body) = block_events body

abbrev pub is_instance : List Modifier → Bool
is_instance modifiers = not (has_modifier modifier.Static modifiers)

abbrev pub func_events : Func → List Event
func_events x = signature_events x.signature.parameters x.signature.result (block_events x.body)

-- A static member has no instance.
abbrev pub member_part : Member → Part
member_part (m.Stored x) = part (is_instance x.modifiers) (perhaps type_events x.declared ++ perhaps expr_events x.initial)
member_part (m.Computed x) = part (is_instance x.modifiers) (type_events x.declared ++ accessor_events x.accessor)
member_part (m.Func x) = part (is_instance x.signature.modifiers) (func_events x)
member_part (m.Initializer x) = part true (signature_events x.parameters None (block_events x.body))
member_part (m.Typealias x) = part false (type_events x.target)

abbrev pub case_events : Case → List Event
case_events x = perhaps (each (λ p. type_events p.declared)) x.payload

abbrev pub item_part : EnumItem → Part
item_part (item.Cases cases) = part false (each case_events cases)
item_part (item.Member x) = member_part x

abbrev pub requirement_part : Requirement → Part
requirement_part (r.Func x) = part true (signature_events x.parameters x.result [])
requirement_part (r.Property name declared) = part true (type_events declared)

abbrev pub heading_part : Heading → Part
heading_part x = part false (each (λ name. types name ∷ []) x.conformances)

abbrev pub parts_of : Decl → List Part
parts_of (d.Import at name) = []
parts_of (d.Typealias x) = part false (type_events x.target) ∷ []
parts_of (d.Struct heading members) = heading_part heading ∷ map member_part members
parts_of (d.Enum heading items) = heading_part heading ∷ map item_part items
parts_of (d.Protocol heading requirements) = heading_part heading ∷ map requirement_part requirements
parts_of (d.Actor heading members) = heading_part heading ∷ map member_part members
parts_of (d.Func x) = part false (func_events x) ∷ []
