-- The table of declared types: of each type of a tree, in the order of the source, what it is declared to be.
use Rattle.std.specs.Prelude.{Bool, ◌||◌, ◌&&◌, not, if◌then◌else◌, Option, Some, None, is_some, is_none, List, [], ◌∷◌, map, codes}
use Rattle.std.specs.List.{list_any, flat_map}
use Rattle.sw_base.specs.declared.ids.TypeNo.{TypeNo}
use Rattle.sw_sight.specs.InSight.{Text, same}
use Rattle.sw_tree.specs.declared.expr.Name.{Name}
use Rattle.sw_tree.specs.declared.types.«Type».{«Type» as TypeTree}
use Rattle.sw_tree.specs.declared.decl.Tree.{Tree}
use Rattle.sw_tree.specs.declared.decl.Heading.{Heading}
use Rattle.sw_tree.specs.declared.decl.ModifierKind.TheVariants as modifier
use Rattle.sw_tree.specs.declared.decl.Signature.{Signature as SignatureTree}
use Rattle.sw_tree.specs.declared.decl.Payload.{Payload}
use Rattle.sw_tree.specs.declared.decl.Case.{Case as CaseTree}
use Rattle.sw_tree.specs.declared.decl.Decl.{Decl}
use Rattle.sw_tree.specs.declared.decl.Decl.TheVariants as d
use Rattle.sw_tree.specs.declared.decl.Member.{Member as TreeMember}
use Rattle.sw_tree.specs.declared.decl.Member.TheVariants as m
use Rattle.sw_tree.specs.declared.decl.EnumItem.{EnumItem}
use Rattle.sw_tree.specs.declared.decl.EnumItem.TheVariants as item
use Rattle.sw_tree.specs.declared.decl.Requirement.{Requirement as RequirementTree}
use Rattle.sw_tree.specs.declared.decl.Requirement.TheVariants as r
use Rattle.sw_value.specs.declared.ty.Base.TheVariants as base
use Rattle.sw_value.specs.declared.ty.Ty.{Ty}
use Rattle.sw_declared.specs.declared.names.Form.{Form}
use Rattle.sw_declared.specs.declared.names.Form.TheVariants as form
use Rattle.sw_declared.specs.declared.names.Member.{Member}
use Rattle.sw_declared.specs.declared.names.Names.{Names}
use Rattle.sw_declared.specs.Declarations.{has_modifier, label_text, parameter_labels, is_distributed, members_in}
use Rattle.sw_type_table.specs.declared.entry.WrittenType.{WrittenType}
use Rattle.sw_type_table.specs.declared.entry.WrittenType.TheVariants.{Absent, NoType, Known}
use Rattle.sw_type_table.specs.declared.entry.Property.{Property}
use Rattle.sw_type_table.specs.declared.entry.CaseEntry.{CaseEntry}
use Rattle.sw_type_table.specs.declared.entry.Signature.{Signature}
use Rattle.sw_type_table.specs.declared.entry.Requirement.{Requirement}
use Rattle.sw_type_table.specs.declared.entry.Requirement.TheVariants as requirement
use Rattle.sw_type_table.specs.declared.entry.TypeEntry.{TypeEntry}
use Rattle.sw_type_table.specs.Written.{written, type_named, is_hidden, bare}

-- ---- properties and cases

abbrev pub known : Option Ty → WrittenType
known None = NoType
known (Some t) = Known t

-- the type that a property is declared with, where it is
abbrev pub written_type : Names → List Member → Option TypeTree → WrittenType
written_type names own None = Absent
written_type names own (Some t) = known (written names own t)

abbrev pub stored_properties : Names → List Member → TreeMember → List Property
stored_properties names own (m.Stored x) = record {
  name = x.name.text;
  binding = x.binding;
  is_static = has_modifier modifier.Static x.modifiers;
  declared = written_type names own x.declared;
  has_initial = is_some x.initial;
} ∷ []
stored_properties names own member = []

abbrev pub item_properties : Names → List Member → EnumItem → List Property
item_properties names own (item.Cases cases) = []
item_properties names own (item.Member x) = stored_properties names own x

abbrev pub payload : Option (List Payload) → List Payload
payload None = []
payload (Some parts) = parts

abbrev pub case_entry : Names → List Member → CaseTree → CaseEntry
case_entry names own x = record {
  name = x.name.text;
  labels = map (λ p. label_text p.label) (payload x.payload);
  types = map (λ p. written names own p.declared) (payload x.payload);
}

abbrev pub item_cases : Names → List Member → EnumItem → List CaseEntry
item_cases names own (item.Cases cases) = map (case_entry names own) cases
item_cases names own (item.Member x) = []

-- ---- requirements

-- What a func gives: `Void` where no result is written.
abbrev pub result_type : Names → List Member → Option TypeTree → Option Ty
result_type names own None = Some (bare base.Void)
result_type names own (Some t) = written names own t

abbrev pub signature : Names → List Member → SignatureTree → Signature
signature names own x = record {
  name = x.name.text;
  labels = parameter_labels x.parameters;
  types = map (λ p. written names own p.declared) x.parameters;
  result = result_type names own x.result;
  is_static = has_modifier modifier.Static x.modifiers;
  is_mutating = has_modifier modifier.Mutating x.modifiers;
  is_async = x.is_async;
  throws = x.throws;
}

abbrev pub requirement_entry : Names → List Member → RequirementTree → Requirement
requirement_entry names own (r.Func x) = requirement.Func (signature names own x)
requirement_entry names own (r.Property name t) = requirement.Property name.text (written names own t)

-- ---- what stands after the `:` of a heading

-- a declared protocol
abbrev pub protocol_number : Option (TypeNo × Form) → List TypeNo
protocol_number (Some (number, form.Protocol)) = number ∷ []
protocol_number (Some (number, form)) = []
protocol_number None = []

abbrev pub protocols_in : Names → List Member → Name → List TypeNo
protocols_in names own name = if is_hidden names own name.text then [] else protocol_number (type_named names name.text)

-- one of the names is this built-in one, which nothing hides
abbrev pub conforms_to : Names → List Member → Text → List Name → Bool
conforms_to names own built_in conformances =
    list_any (λ name. same built_in name.text) conformances && (not (is_hidden names own built_in) && is_none (type_named names built_in))

-- ---- the table

-- the entry of a type with these members and this heading
abbrev pub entry : Names → List Member → Heading → Form → List Property → List CaseEntry → List Requirement → TypeEntry
entry names own heading form properties cases requirements = record {
  name = heading.name.text;
  form = form;
  properties = properties;
  cases = cases;
  requirements = requirements;
  protocols = flat_map (protocols_in names own) heading.conformances;
  is_codable = conforms_to names own (codes "Codable") heading.conformances;
  is_equatable =
      conforms_to names own (codes "Equatable") heading.conformances
      || conforms_to names own (codes "Hashable") heading.conformances;
  is_error = conforms_to names own (codes "Error") heading.conformances;
}

abbrev pub actor_form : Heading → Form
actor_form heading = if is_distributed heading then form.DistributedActor else form.Actor

abbrev pub entries_in : Names → Decl → List TypeEntry
entries_in names (d.Struct heading members) =
    entry names (members_in (d.Struct heading members)) heading form.Struct
    (flat_map (stored_properties names (members_in (d.Struct heading members))) members) [] [] ∷ []
entries_in names (d.Enum heading items) =
    entry names (members_in (d.Enum heading items)) heading form.Enum
    (flat_map (item_properties names (members_in (d.Enum heading items))) items)
    (flat_map (item_cases names (members_in (d.Enum heading items))) items) [] ∷ []
entries_in names (d.Protocol heading requirements) =
    entry names [] heading form.Protocol [] [] (map (requirement_entry names []) requirements) ∷ []
entries_in names (d.Actor heading members) =
    entry names (members_in (d.Actor heading members)) heading (actor_form heading)
    (flat_map (stored_properties names (members_in (d.Actor heading members))) members) [] [] ∷ []
entries_in names decl = []

-- The entry of `TypeNo` n stands at n - 1.
abbrev pub table : Names → Tree → List TypeEntry
table names tree = flat_map (entries_in names) tree.decls
