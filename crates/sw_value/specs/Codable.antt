-- The types whose values may cross between nodes: the least set with `Int`, `Bool`, `String`, `ActorID` and the distributed actor
-- types that is closed under arrays, optionals, and structs and enums declared `Codable` whose parts are members. The marks of a
-- type are arrays and optionals, so it is a member where its base is.
use Rattle.std.specs.Prelude.{◌≡◌, ℕ, ◌&&◌, Bool as Truth, true, false, List, slice_get, All, Option, Some, None}
use Rattle.std.specs.List.{list_all}
use Rattle.sw_value.specs.declared.ty.Base.{Base}
use Rattle.sw_value.specs.declared.ty.Base.TheVariants as base
use Rattle.sw_value.specs.declared.ty.Ty.{Ty}
use Rattle.sw_value.specs.declared.kinds.Kind.{Kind}
use Rattle.sw_value.specs.Kinds.{has_parts, parts_of}

-- a struct or an enum that is declared `Codable`
abbrev pub declares_codable : Option Kind → Truth
declares_codable None = false
declares_codable (Some kind) = has_parts kind.form && kind.is_codable

-- whether a base is a member, where the declared structs and enums of a set are
abbrev pub among : (ℕ → Truth) → Base → Truth
among s base.Int = true
among s base.Bool = true
among s base.Str = true
among s base.Id = true
among s (base.Distributed number) = true
among s (base.Struct number) = s number.0
among s (base.Enum number) = s number.0
among s _ = false

abbrev pub all_among : (ℕ → Truth) → List Ty → Truth
all_among s ts = list_all (λ t. among s t.base) ts

-- the set has each struct and enum that is declared `Codable` and whose parts are members
abbrev pub IsCodableClosed : List Kind → (ℕ → Truth) → Type 0
IsCodableClosed kinds s = (t : ℕ) → declares_codable (slice_get kinds t) ≡ true → all_among s (parts_of (slice_get kinds t)) ≡ true → s t ≡ true

-- a type is in the least set: each closed set has it
abbrev pub IsCodable : List Kind → Ty → Type 0
IsCodable kinds t = (s : ℕ → Truth) → IsCodableClosed kinds s → among s t.base ≡ true

-- a struct or an enum is, by its number
abbrev pub IsMember : List Kind → ℕ → Type 0
IsMember kinds number = (s : ℕ → Truth) → IsCodableClosed kinds s → s number ≡ true

-- each part of what may cross may cross
abbrev pub PartsCross : List Kind → Type 0
PartsCross kinds = (number : ℕ) → IsMember kinds number → All (IsCodable kinds) (parts_of (slice_get kinds number))

abbrev pub is_error : Option Kind → Truth
is_error None = false
is_error (Some kind) = kind.is_error

-- each part of an error may cross
abbrev pub ErrorPartsCross : List Kind → Type 0
ErrorPartsCross kinds = (number : ℕ) → is_error (slice_get kinds number) ≡ true → All (IsCodable kinds) (parts_of (slice_get kinds number))
