-- What a declared type is made of.
use Rattle.std.specs.Prelude.{Bool as Truth, true, false, ℕ, List, [], slice_get, Option, Some, None}
use Rattle.std.specs.List.{flat_map}
use Rattle.sw_value.specs.declared.ty.Ty.{Ty}
use Rattle.sw_value.specs.declared.kinds.Kind.{Kind}
use Rattle.sw_value.specs.declared.kinds.CaseOf.{CaseOf}
use Rattle.sw_value.specs.declared.kinds.Form.{Form}
use Rattle.sw_value.specs.declared.kinds.Form.TheVariants as form

-- the types of the payloads of all cases
abbrev pub types_of_cases : List CaseOf → List Ty
types_of_cases cases = flat_map (λ c. c.types) cases

-- the types of the parts of a struct or an enum; nothing else has parts
abbrev pub parts_in : Form → List Ty
parts_in (form.Struct names types) = types
parts_in (form.Enum cases) = types_of_cases cases
parts_in _ = []

abbrev pub has_parts : Form → Truth
has_parts (form.Struct names types) = true
has_parts (form.Enum cases) = true
has_parts _ = false

abbrev pub parts_of : Option Kind → List Ty
parts_of None = []
parts_of (Some kind) = parts_in kind.form

-- the types of a struct's properties
abbrev pub types_of_form : Form → Option (List Ty)
types_of_form (form.Struct names types) = Some types
types_of_form _ = None

abbrev pub struct_types : Option Kind → Option (List Ty)
struct_types None = None
struct_types (Some kind) = types_of_form kind.form

-- the types of the payload of a case, by its number
abbrev pub types_of_case : Option CaseOf → Option (List Ty)
types_of_case None = None
types_of_case (Some c) = Some c.types

abbrev pub case_of_form : ℕ → Form → Option (List Ty)
case_of_form number (form.Enum cases) = types_of_case (slice_get cases number)
case_of_form number _ = None

abbrev pub case_types : ℕ → Option Kind → Option (List Ty)
case_types number None = None
case_types number (Some kind) = case_of_form number kind.form
