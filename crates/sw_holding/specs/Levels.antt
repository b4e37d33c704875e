-- Levels: how many structs and enums stand on the longest chain in which each holds the next.
use Rattle.std.specs.Prelude.{◌≡◌, ℕ, zero, suc, ◌≤◌, ◌⊎◌, true, List, length, slice_get, unwrap_or}
use Rattle.sw_value.specs.declared.kinds.Kind.{Kind}
use Rattle.sw_holding.specs.Holds.{is_value, Conforms, Leads}

-- a chain of so many steps begins with this struct or enum
pub record HasChain (kinds : List Kind) (steps t : ℕ) : Type 0 where
  pub last : ℕ
  pub value : is_value (slice_get kinds last) ≡ true
  pub chain : Leads kinds steps t last

-- a chain of so many steps begins with the struct or enum of this number, or with one that conforms to the protocol of this number
abbrev pub Begins : List Kind → ℕ → ℕ → Type 0
Begins kinds steps t = HasChain kinds steps t ⊎ ((u : ℕ) × Conforms kinds u t × HasChain kinds steps u)

-- The level of a struct or an enum: as many as stand on the longest chain from it. That of a protocol: the greatest level of those
-- that conform. Level 0 says that there is none up to 64, or that nothing begins here.
abbrev pub IsLevel : List Kind → ℕ → ℕ → Type 0
IsLevel kinds t zero = Begins kinds 64 t ⊎ (Begins kinds 0 t → ⊥)
IsLevel kinds t (suc steps) = (suc steps ≤ 64) × Begins kinds steps t × (Begins kinds (suc steps) t → ⊥)

-- each number has its level
pub record AreLevels (kinds : List Kind) (levels : List ℕ) : Type 0 where
  pub length : length levels ≡ length kinds
  pub each : (t : ℕ) → IsLevel kinds t (unwrap_or (slice_get levels t) 0)
