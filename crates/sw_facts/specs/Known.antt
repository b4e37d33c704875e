-- What is known of the types and funcs of a source as they are declared. A property without a written type gives none here.
use Rattle.std.specs.Prelude.{ℕ, ◌+◌, Bool, true, false, ◌&&◌, ◌||◌, Option, Some, None, List, [], ◌∷◌, ◌++◌, length, is_none, nat_eq, cond, slice_get}
use Rattle.std.specs.List.{list_all}
use Rattle.sw_base.specs.declared.ids.TypeNo.{TypeNo}
use Rattle.sw_tree.specs.declared.decl.Tree.{Tree}
use Rattle.sw_tree.specs.declared.decl.Decl.{Decl}
use Rattle.sw_tree.specs.declared.decl.Decl.TheVariants as d
use Rattle.sw_declared.specs.Declarations.{count_types, funcs_in, members_in}
use Rattle.sw_declared.specs.declared.names.Form.{Form}
use Rattle.sw_declared.specs.declared.names.Form.TheVariants as form
use Rattle.sw_declared.specs.declared.names.Member.{Member}
use Rattle.sw_declared.specs.declared.names.Names.{Names}
use Rattle.sw_type_table.specs.declared.entry.CaseEntry.{CaseEntry}
use Rattle.sw_type_table.specs.declared.entry.TypeEntry.{TypeEntry}
use Rattle.sw_members.specs.declared.declaration.Declaration.{Declaration}
use Rattle.sw_typing.specs.declared.facts.TypeFacts.{TypeFacts}
use Rattle.sw_typing.specs.declared.facts.Facts.{Facts}
use Rattle.sw_facts.specs.Numbers.{any_owner, numbered, counted}
use Rattle.sw_facts.specs.BuiltIns as b
use Rattle.sw_facts.specs.Members.{case_labels, property, case_of, requirement_of, funcs_of, func}

-- ---- one type

abbrev pub has_no_payload : CaseEntry → Bool
has_no_payload x = is_none (case_labels x.labels)

abbrev pub is_enum : Form → Bool
is_enum form.Enum = true
is_enum form = false

-- an enum without payloads
abbrev pub is_plain : TypeEntry → Bool
is_plain entry = is_enum entry.form && list_all has_no_payload entry.cases

-- Properties come first, so that the property of a number is the member of that number.
abbrev pub members_of : Names → List Member → TypeNo → ℕ → Decl → TypeEntry → List Declaration
members_of names own owner number decl entry =
    numbered (property owner) 0 entry.properties
    ++ (numbered (case_of owner) 0 entry.cases
    ++ (numbered (requirement_of owner) 0 entry.requirements
    ++ (funcs_of names own owner number decl entry ++ b.of_form owner entry.form)))

-- An enum without payloads can be compared and printed whatever it declares.
abbrev pub type_facts : Names → List Member → TypeNo → ℕ → Decl → TypeEntry → TypeFacts
type_facts names own owner number decl entry = record {
  members = members_of names own owner number decl entry;
  protocols = entry.protocols;
  is_error = is_enum entry.form && entry.is_error;
  is_equatable = is_plain entry || entry.is_equatable;
  is_printable = is_plain entry;
}

-- `DistributedCallError`
abbrev pub call_error : TypeFacts
call_error = record {
  members = numbered (case_of (record { 0 = 0 })) 0 b.call_error_cases;
  protocols = [];
  is_error = true;
  is_equatable = true;
  is_printable = true;
}

-- ---- the types and funcs of a file

-- the entry of the type that a declaration declares, where there are so many types before it
abbrev pub entry_at : List TypeEntry → ℕ → Decl → Option TypeEntry
entry_at table before decl = cond (nat_eq (count_types decl) 0) None (slice_get table before)

abbrev pub known_of : Names → ℕ → ℕ → Decl → Option TypeEntry → List TypeFacts
known_of names before number decl None = []
known_of names before number decl (Some entry) = type_facts names (members_in decl) (record { 0 = before + 1 }) number decl entry ∷ []

-- of declarations, where there are so many types before them, and the first func has this number
unfoldable pub types_from : Names → List TypeEntry → ℕ → ℕ → List Decl → List TypeFacts
types_from names table before number [] = []
types_from names table before number (decl ∷ decls) =
    known_of names before number decl (entry_at table before decl)
    ++ types_from names table (before + count_types decl) (number + length (funcs_in any_owner decl)) decls

abbrev pub file_func : Names → ℕ → Decl → List Declaration
file_func names number (d.Func x) = func names [] number x ∷ []
file_func names number decl = []

-- ---- the whole, by the table of the types that the tree declares

abbrev pub known : Names → List TypeEntry → Tree → Facts
known names table tree = record {
  types = call_error ∷ types_from names table 0 0 tree.decls;
  funcs = counted (funcs_in any_owner) (file_func names) 0 tree.decls;
  built_in = b.built_in_funcs;
  of_int = b.of_int;
  of_string = b.of_string;
  of_array = b.of_array;
  of_id = b.of_id;
  of_system = b.of_system;
}
