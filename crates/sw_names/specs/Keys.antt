-- What is declared in a scope of declarations, by name and labels, and which of it is declared twice.
use Rattle.std.specs.Prelude.{◌≡◌, Bool, ◌&&◌, if◌then◌else◌, Option, Some, None, List, [], ◌∷◌, ◌++◌, map, codes}
use Rattle.std.specs.List.{list_any, flat_map}
use Rattle.sw_base.specs.declared.ids.Span.{Span}
use Rattle.sw_rules.specs.declared.Refusal.{Refusal}
use Rattle.sw_rules.specs.declared.Rule.TheVariants.{N1}
use Rattle.sw_findings.specs.Found.{Has, when}
use Rattle.sw_sight.specs.InSight.{Text, same}
use Rattle.sw_tree.specs.declared.expr.Name.{Name}
use Rattle.sw_tree.specs.declared.decl.Case.{Case}
use Rattle.sw_tree.specs.declared.decl.Payload.{Payload}
use Rattle.sw_tree.specs.declared.decl.Decl.{Decl}
use Rattle.sw_tree.specs.declared.decl.Decl.TheVariants as d
use Rattle.sw_tree.specs.declared.decl.Member.{Member}
use Rattle.sw_tree.specs.declared.decl.Member.TheVariants as m
use Rattle.sw_tree.specs.declared.decl.EnumItem.{EnumItem}
use Rattle.sw_tree.specs.declared.decl.EnumItem.TheVariants as item
use Rattle.sw_tree.specs.declared.decl.Requirement.{Requirement}
use Rattle.sw_tree.specs.declared.decl.Requirement.TheVariants as r
use Rattle.sw_declared.specs.Members.{Label, same_labels}
use Rattle.sw_declared.specs.Declarations.{parameter_labels, payload_labels, is_distributed}

-- A declaration in its scope: its name, its labels, and its place. What has no labels has the empty list of them, and so
-- is the same as what is called without arguments.
pub record Key : Type 0 where
  pub name : Text
  pub labels : List Label
  pub at : Span

abbrev pub key : Name → List Label → Key
key name labels = record { name = name.text; labels = labels; at = name.span }

abbrev pub same_key : Key → Key → Bool
same_key a b = same a.name b.name && same_labels a.labels b.labels

-- One of the keys is that of an earlier one, or of one of the built-in ones: N1, at the later.
abbrev pub Repeats : List Key → List Key → Refusal → Type 0
Repeats built_in keys refusal =
    (earlier : List Key) × (second : Key) × (later : List Key)
    × (keys ≡ earlier ++ second ∷ later) × Has (when (list_any (same_key second) (built_in ++ earlier)) N1 second.at) refusal

abbrev pub member_keys : Member → List Key
member_keys (m.Stored x) = key x.name [] ∷ []
member_keys (m.Computed x) = key x.name [] ∷ []
member_keys (m.Func x) = key x.signature.name (parameter_labels x.signature.parameters) ∷ []
member_keys (m.Initializer x) = record { name = codes "init"; labels = parameter_labels x.parameters; at = x.span } ∷ []
member_keys (m.Typealias x) = key x.name [] ∷ []

abbrev pub case_labels : Option (List Payload) → List Label
case_labels None = []
case_labels (Some parts) = payload_labels parts

abbrev pub case_key : Case → Key
case_key x = key x.name (case_labels x.payload)

abbrev pub item_keys : EnumItem → List Key
item_keys (item.Cases cases) = map case_key cases
item_keys (item.Member x) = member_keys x

abbrev pub requirement_keys : Requirement → List Key
requirement_keys (r.Func x) = key x.name (parameter_labels x.parameters) ∷ []
requirement_keys (r.Property name declared) = key name [] ∷ []

-- the keys of the scope that a declaration is
abbrev pub inner_keys : Decl → List Key
inner_keys (d.Struct heading members) = flat_map member_keys members
inner_keys (d.Enum heading items) = flat_map item_keys items
inner_keys (d.Protocol heading requirements) = flat_map requirement_keys requirements
inner_keys (d.Actor heading members) = flat_map member_keys members
inner_keys decl = []

abbrev pub built_in_key : Text → List Label → Key
built_in_key name labels = record { name = name; labels = labels; at = record { line = 0; column = 0 } }

-- what a distributed actor has without a declaration
abbrev pub distributed_keys : List Key
distributed_keys =
    built_in_key (codes "id") []
    ∷ built_in_key (codes "actorSystem") []
    ∷ built_in_key (codes "resolve") (Some (codes "id") ∷ Some (codes "using") ∷ [])
    ∷ []

abbrev pub built_in_keys : Decl → List Key
built_in_keys (d.Actor heading members) = if is_distributed heading then distributed_keys else []
built_in_keys decl = []

-- the key of a declaration in its file
abbrev pub file_keys : Decl → List Key
file_keys (d.Import at name) = []
file_keys (d.Typealias x) = key x.name [] ∷ []
file_keys (d.Struct heading members) = key heading.name [] ∷ []
file_keys (d.Enum heading items) = key heading.name [] ∷ []
file_keys (d.Protocol heading requirements) = key heading.name [] ∷ []
file_keys (d.Actor heading members) = key heading.name [] ∷ []
file_keys (d.Func x) = key x.signature.name (parameter_labels x.signature.parameters) ∷ []
