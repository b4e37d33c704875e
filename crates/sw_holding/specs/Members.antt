-- Which declared structs and enums may cross between nodes, while circles may be there.
use Rattle.std.specs.Prelude.{◌≡◌, ℕ, Bool as Truth, true, false, List, length, slice_get, unwrap_or}
use Rattle.sw_value.specs.declared.kinds.Kind.{Kind}
use Rattle.sw_value.specs.Codable.{IsMember}

-- whether a table marks a number: none past its end
abbrev pub marked : List Truth → ℕ → Truth
marked table number = unwrap_or (slice_get table number) false

-- the table marks exactly the members of the least set
pub record AreMembers (kinds : List Kind) (table : List Truth) : Type 0 where
  pub length : length table ≡ length kinds
  pub only : (t : ℕ) → marked table t ≡ true → IsMember kinds t
  pub all : (t : ℕ) → IsMember kinds t → marked table t ≡ true
