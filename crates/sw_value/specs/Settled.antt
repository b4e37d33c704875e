-- What a table of declared types keeps, once no rule of declarations is broken: what holds a type lies above it, and the parts of
-- what crosses between nodes may cross.
use Rattle.std.specs.Prelude.{◌≡◌, ℕ, ◌&&◌, ◌||◌, not, nat_lt, nat_le, Bool as Truth, true, List, slice_get, Option, Some, None, unwrap_or}
use Rattle.std.specs.List.{list_all}
use Rattle.sw_base.specs.declared.ids.TypeNo.{TypeNo}
use Rattle.sw_value.specs.declared.ty.Base.{Base}
use Rattle.sw_value.specs.declared.ty.Base.TheVariants as base
use Rattle.sw_value.specs.declared.ty.Ty.{Ty}
use Rattle.sw_value.specs.declared.kinds.Kind.{Kind}
use Rattle.sw_value.specs.Kinds.{has_parts, parts_in}
use Rattle.sw_value.specs.Codable.{declares_codable, all_among}

-- the level of a type by its number, and 0 where none is listed
abbrev pub level_at : List ℕ → TypeNo → ℕ
level_at levels number = unwrap_or (slice_get levels number.0) 0

-- A declared struct or enum has a level below this one, and so has a protocol of which a part may be any. All else holds nothing.
abbrev pub base_below : List ℕ → ℕ → Base → Truth
base_below levels level (base.Struct number) = nat_lt (level_at levels number) level
base_below levels level (base.Enum number) = nat_lt (level_at levels number) level
base_below levels level (base.Any protocol) = nat_lt (level_at levels protocol) level
base_below levels level _ = true

abbrev pub parts_below : List ℕ → ℕ → List Ty → Truth
parts_below levels level ts = list_all (λ t. base_below levels level t.base) ts

-- each protocol to which a type of this level conforms has at least its level
abbrev pub protocols_above : List ℕ → ℕ → List TypeNo → Truth
protocols_above levels level protocols = list_all (λ p. nat_le level (level_at levels p)) protocols

-- the structs and enums that are declared `Codable`
abbrev pub declared : List Kind → ℕ → Truth
declared kinds number = declares_codable (slice_get kinds number)

-- values of the type are sent: it is declared `Codable`, or an error
abbrev pub crosses : Kind → Truth
crosses kind = declares_codable (Some kind) || kind.is_error

-- a struct or an enum whose level is this one
abbrev pub holder_at : List Kind → List ℕ → ℕ → Kind → Truth
holder_at kinds levels level kind =
    parts_below levels level (parts_in kind.form) && (protocols_above levels level kind.protocols && (not (crosses kind) || all_among (declared kinds) (parts_in kind.form)))

-- a type whose level is this one; nothing but a struct or an enum holds another
abbrev pub is_settled : List Kind → List ℕ → ℕ → Kind → Truth
is_settled kinds levels level kind = not (has_parts kind.form) || holder_at kinds levels level kind

abbrev pub settled_at : List Kind → List ℕ → ℕ → Option Kind → Truth
settled_at kinds levels level None = true
settled_at kinds levels level (Some kind) = is_settled kinds levels level kind

-- By these levels each type lies above those that it holds, directly or as any of a protocol. The parts of each struct and enum that is
-- declared `Codable`, and of each error, are plain, distributed actors, or declared `Codable`, perhaps in arrays and optionals.
abbrev pub IsSettled : List Kind → List ℕ → Type 0
IsSettled kinds levels = (t : ℕ) → settled_at kinds levels (unwrap_or (slice_get levels t) 0) (slice_get kinds t) ≡ true
