-- Which struct or enum holds which: through arrays, optionals and payloads, and through `any` of a protocol, which holds each that
-- conforms. `any Error` and the actors hold nothing.
use Rattle.std.specs.Prelude.{◌≡◌, ℕ, zero, suc, Bool as Truth, true, false, List, [], map, length, slice_get, Option, Some, None}
use Rattle.std.specs.List.{Contains}
use Rattle.sw_value.specs.declared.ty.Base.{Base}
use Rattle.sw_value.specs.declared.ty.Base.TheVariants as base
use Rattle.sw_value.specs.declared.ty.Ty.{Ty}
use Rattle.sw_value.specs.declared.kinds.Kind.{Kind}
use Rattle.sw_value.specs.declared.kinds.Form.{Form}
use Rattle.sw_value.specs.declared.kinds.Form.TheVariants as form
use Rattle.sw_value.specs.Kinds.{has_parts, parts_of}
use Rattle.sw_holding.specs.Members.{marked}

-- a struct or an enum
abbrev pub is_value : Option Kind → Truth
is_value None = false
is_value (Some kind) = has_parts kind.form

abbrev pub is_protocol_form : Form → Truth
is_protocol_form form.Protocol = true
is_protocol_form _ = false

abbrev pub is_protocol : Option Kind → Truth
is_protocol None = false
is_protocol (Some kind) = is_protocol_form kind.form

-- the numbers of the protocols to which a type is declared to conform
abbrev pub protocols_of : Option Kind → List ℕ
protocols_of None = []
protocols_of (Some kind) = map (λ p. p.0) kind.protocols

-- u conforms to the protocol p
abbrev pub Conforms : List Kind → ℕ → ℕ → Type 0
Conforms kinds u p = (is_protocol (slice_get kinds p) ≡ true) × Contains (protocols_of (slice_get kinds u)) p

-- a base is u, or any of a protocol to which u conforms
abbrev pub Includes : List Kind → Base → ℕ → Type 0
Includes kinds (base.Struct number) u = u ≡ number.0
Includes kinds (base.Enum number) u = u ≡ number.0
Includes kinds (base.Any protocol) u = Conforms kinds u protocol.0
Includes kinds _ u = ⊥

-- t holds the struct or enum u: the base of one of its parts is u, or any of a protocol to which u conforms
pub record Holds (kinds : List Kind) (t u : ℕ) : Type 0 where
  pub value : is_value (slice_get kinds u) ≡ true
  pub part : Ty
  pub is_part : Contains (parts_of (slice_get kinds t)) part
  pub includes : Includes kinds part.base u

-- a chain of so many steps leads from a to b: each step from a type to one that it holds
abbrev pub Leads : List Kind → ℕ → ℕ → ℕ → Type 0
Leads kinds zero a b = a ≡ b
Leads kinds (suc n) a b = (c : ℕ) × Holds kinds a c × Leads kinds n c b

-- what breaks T5: a chain of one step or more leads from a struct or an enum back to it
pub record HoldsItself (kinds : List Kind) (t : ℕ) : Type 0 where
  pub steps : ℕ
  pub chain : Leads kinds (suc steps) t t

-- the table marks exactly the structs and enums that hold themselves
pub record AreCircular (kinds : List Kind) (table : List Truth) : Type 0 where
  pub length : length table ≡ length kinds
  pub only : (t : ℕ) → marked table t ≡ true → HoldsItself kinds t
  pub all : (t : ℕ) → HoldsItself kinds t → marked table t ≡ true
