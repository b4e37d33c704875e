-- Which values fit a type. A type is told by its marks, the outermost first, and its base: under `Optional` and `Array` stand the
-- forms of an optional and of an array, under no mark one clause for each other form of a value.
use Rattle.std.specs.Prelude.{ℕ, ℤ, nat_lt, nat_le, nat_eq, ◌&&◌, ◌||◌, not, Bool as Truth, true, false, List, [], ◌∷◌, length, slice_get, Option, Some, None, int_lt, pos, negsuc}
use Rattle.std.specs.List.{list_any}
use Rattle.std.specs.Str.{is_utf8}
use Rattle.sw_base.specs.declared.ids.TypeNo.{TypeNo}
use Rattle.sw_base.specs.declared.ids.ActorId.{ActorId}
use Rattle.sw_base.specs.declared.ids.ActorId.TheVariants.{Numbered, Named}
use Rattle.sw_value.specs.declared.ty.Mark.{Mark}
use Rattle.sw_value.specs.declared.ty.Mark.TheVariants.{Array, Optional}
use Rattle.sw_value.specs.declared.ty.Base.{Base}
use Rattle.sw_value.specs.declared.ty.Base.TheVariants as base
use Rattle.sw_value.specs.declared.ty.Ty.{Ty}
use Rattle.sw_value.specs.declared.kinds.Kind.{Kind}
use Rattle.sw_value.specs.Kinds.{struct_types, case_types}
use Rattle.sw_value.specs.declared.value.Value.{Value}
use Rattle.sw_value.specs.declared.value.Value.TheOpen.{Value-F}
use Rattle.sw_value.specs.declared.value.Value.TheFolds.{fold-Value}

-- the most bytes of a string, and the most elements of an array
abbrev pub most : ℕ
most = 1000000

-- whether a number is an `Int` of 64 bits
abbrev pub is_int : ℤ → Truth
is_int n = not (int_lt n (negsuc 9223372036854775807)) && int_lt n (pos 9223372036854775808)

-- UTF-8 of at most so many bytes as a string may have
abbrev pub is_string : List ℕ → Truth
is_string bytes = is_utf8 bytes && nat_le (length bytes) most

abbrev pub is_name : Option (List ℕ) → Truth
is_name None = true
is_name (Some name) = is_string name

abbrev pub id_fits : ActorId → Truth
id_fits (Numbered node epoch number) = nat_lt node.0 16 && (nat_lt epoch 4294967296 && nat_lt number 18446744073709551616)
id_fits (Named node name) = nat_lt node.0 16 && is_string name

-- ---- the table

abbrev pub kind_at : List Kind → TypeNo → Option Kind
kind_at kinds number = slice_get kinds number.0

abbrev pub lists_protocol : TypeNo → Option Kind → Truth
lists_protocol p None = false
lists_protocol p (Some kind) = list_any (λ q. nat_eq q.0 p.0) kind.protocols

abbrev pub lists_error : Option Kind → Truth
lists_error None = false
lists_error (Some kind) = kind.is_error

-- a struct or enum stands under `any` of a protocol to which it is declared to conform
abbrev pub stands_under : List Kind → TypeNo → Base → Truth
stands_under kinds number (base.Any p) = lists_protocol p (kind_at kinds number)
stands_under kinds number base.AnyError = lists_error (kind_at kinds number)
stands_under kinds number b = false

-- the same base that is no declared type
abbrev pub is_base : Base → Base → Truth
is_base base.Int base.Int = true
is_base base.Bool base.Bool = true
is_base base.Str base.Str = true
is_base base.Void base.Void = true
is_base base.Id base.Id = true
is_base base.System base.System = true
is_base a b = false

abbrev pub is_struct : TypeNo → Base → Truth
is_struct number (base.Struct other) = nat_eq number.0 other.0
is_struct number b = false

abbrev pub is_enum : TypeNo → Base → Truth
is_enum number (base.Enum other) = nat_eq number.0 other.0
is_enum number b = false

abbrev pub is_plain : TypeNo → Base → Truth
is_plain number (base.Plain other) = nat_eq number.0 other.0
is_plain number b = false

abbrev pub is_distributed : TypeNo → Base → Truth
is_distributed number (base.Distributed other) = nat_eq number.0 other.0
is_distributed number b = false

-- ---- values

-- whether a value fits a type, which is told by its marks, the outermost first, and its base
abbrev pub Test : Type 0
Test = List Mark → Base → Truth

abbrev pub each_fits : List Test → Test
each_fits [] marks b = true
each_fits (f ∷ fs) marks b = f marks b && each_fits fs marks b

-- the parts fit these types one by one
abbrev pub parts_fit : List Test → List Ty → Truth
parts_fit [] [] = true
parts_fit (f ∷ fs) (t ∷ ts) = f t.marks t.base && parts_fit fs ts
parts_fit _ _ = false

-- there are such types, and the parts fit them
abbrev pub parts_fit_some : List Test → Option (List Ty) → Truth
parts_fit_some fs None = false
parts_fit_some fs (Some ts) = parts_fit fs ts

abbrev pub fits_optional : Value-F Test → Test
fits_optional Value-F.Absent marks b = true
fits_optional (Value-F.Present f) marks b = f marks b
fits_optional _ marks b = false

abbrev pub fits_array : Value-F Test → Test
fits_array (Value-F.List fs) marks b = nat_le (length fs) most && each_fits fs marks b
fits_array _ marks b = false

abbrev pub fits_bare : List Kind → Value-F Test → Base → Truth
fits_bare kinds (Value-F.Int n) b = is_base base.Int b && is_int n
fits_bare kinds (Value-F.Bool x) b = is_base base.Bool b
fits_bare kinds (Value-F.Str text) b = is_base base.Str b && is_string text
fits_bare kinds (Value-F.Made number parts) b = (is_struct number b || stands_under kinds number b) && parts_fit_some parts (struct_types (kind_at kinds number))
fits_bare kinds (Value-F.Case number c parts) b = (is_enum number b || stands_under kinds number b) && parts_fit_some parts (case_types c (kind_at kinds number))
fits_bare kinds (Value-F.Plain number act) b = is_plain number b && nat_lt act.0 18446744073709551616
fits_bare kinds (Value-F.Remote number id) b = is_distributed number b && id_fits id
fits_bare kinds (Value-F.Id id) b = is_base base.Id b && id_fits id
fits_bare kinds (Value-F.System node name) b = is_base base.System b && (nat_lt node.0 16 && is_name name)
fits_bare kinds Value-F.Void b = is_base base.Void b
fits_bare kinds _ b = false

abbrev pub level : List Kind → Value-F Test → Test
level kinds v (Optional ∷ marks) b = fits_optional v marks b
level kinds v (Array ∷ marks) b = fits_array v marks b
level kinds v [] b = fits_bare kinds v b

abbrev pub value_fits : List Kind → Value → Test
value_fits kinds = fold-Value Test (level kinds)
