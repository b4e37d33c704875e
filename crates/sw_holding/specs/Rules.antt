-- What a table of declared types keeps where none of the rules T3, T5, T6 and T8 is broken.
use Rattle.std.specs.Prelude.{◌≡◌, ℕ, true, ⊤, List, slice_get, All}
use Rattle.std.specs.List.{Contains}
use Rattle.sw_value.specs.declared.ty.Base.{Base}
use Rattle.sw_value.specs.declared.ty.Base.TheVariants as base
use Rattle.sw_value.specs.declared.ty.Ty.{Ty}
use Rattle.sw_value.specs.declared.kinds.Kind.{Kind}
use Rattle.sw_value.specs.Kinds.{parts_of}
use Rattle.sw_value.specs.Codable.{declares_codable, IsCodable, ErrorPartsCross}
use Rattle.sw_holding.specs.Holds.{is_value, is_protocol, protocols_of, HoldsItself}
use Rattle.sw_holding.specs.Above.{IsAbove}

-- a base names a struct or an enum by the number of one, and any of a protocol by the number of a protocol
abbrev pub NameMatches : List Kind → Base → Type 0
NameMatches kinds (base.Struct number) = is_value (slice_get kinds number.0) ≡ true
NameMatches kinds (base.Enum number) = is_value (slice_get kinds number.0) ≡ true
NameMatches kinds (base.Any protocol) = is_protocol (slice_get kinds protocol.0) ≡ true
NameMatches kinds _ = ⊤

-- each number in the table stands for a type of the right form
pub record NumbersMatch (kinds : List Kind) : Type 0 where
  pub parts : (t : ℕ) (part : Ty) → Contains (parts_of (slice_get kinds t)) part → NameMatches kinds part.base
  pub protocols : (t p : ℕ) → Contains (protocols_of (slice_get kinds t)) p → is_protocol (slice_get kinds p) ≡ true

-- The parts of what is declared `Codable` may cross between nodes, and so may those of an error; no type holds itself, and no level is
-- above 64.
pub record BreaksNoRule (kinds : List Kind) : Type 0 where
  pub numbers : NumbersMatch kinds
  pub t3 : (t : ℕ) → declares_codable (slice_get kinds t) ≡ true → All (IsCodable kinds) (parts_of (slice_get kinds t))
  pub t5 : (t : ℕ) → HoldsItself kinds t → ⊥
  pub t6 : ErrorPartsCross kinds
  pub t8 : (t : ℕ) → IsAbove kinds t → ⊥
