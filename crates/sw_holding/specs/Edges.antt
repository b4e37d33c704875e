-- How the answers are found: a table of types as a graph, in which a protocol is a number of its own. No public clause cites this
-- module.
use Rattle.std.specs.Prelude.{◌≡◌, ℕ, suc, pred, ◌⊎◌, ◌&&◌, nat_le, Bool as Truth, true, false, List, [], ◌∷◌, length, map, slice_get, if◌then◌else◌, Option, Some, None}
use Rattle.std.specs.List.{Contains, flat_map, list_all}
use Rattle.sw_base.specs.declared.ids.TypeNo.{TypeNo}
use Rattle.sw_value.specs.declared.ty.Base.{Base}
use Rattle.sw_value.specs.declared.ty.Base.TheVariants as base
use Rattle.sw_value.specs.declared.ty.Ty.{Ty}
use Rattle.sw_value.specs.declared.kinds.Kind.{Kind}
use Rattle.sw_value.specs.declared.kinds.Form.{Form}
use Rattle.sw_value.specs.declared.kinds.Form.TheVariants as form
use Rattle.sw_value.specs.Kinds.{has_parts, parts_in, parts_of}
use Rattle.sw_value.specs.Codable.{among}
use Rattle.sw_graph.specs.Graphs.{Graph, HasEdge}
use Rattle.sw_holding.specs.Holds.{is_value, is_protocol, Conforms}
use Rattle.sw_holding.specs.Levels.{HasChain}
use Rattle.sw_holding.specs.Members.{marked}

abbrev pub bases_of : List Ty → List Base
bases_of ts = map (λ t. t.base) ts

abbrev pub bases_in : Kind → List Base
bases_in kind = bases_of (parts_in kind.form)

-- a number where a test holds
abbrev pub where_true : Truth → ℕ → List ℕ
where_true true n = n ∷ []
where_true false n = []

-- ---- what is held

-- the struct, the enum or the protocol that a base names
abbrev pub held_number : List Kind → Base → List ℕ
held_number kinds (base.Struct number) = where_true (is_value (slice_get kinds number.0)) number.0
held_number kinds (base.Enum number) = where_true (is_value (slice_get kinds number.0)) number.0
held_number kinds (base.Any protocol) = where_true (is_protocol (slice_get kinds protocol.0)) protocol.0
held_number kinds _ = []

abbrev pub held_by : List Kind → List Base → List ℕ
held_by kinds bases = flat_map (held_number kinds) bases

-- from a protocol edges lead to the structs and enums that conform
abbrev pub IsOfProtocol : List Kind → ℕ → ℕ → Type 0
IsOfProtocol kinds p u = (is_value (slice_get kinds u) ≡ true) × Conforms kinds u p

-- those to u from the protocols of a list
abbrev pub IsFromListed : List Kind → List TypeNo → ℕ → ℕ → ℕ → Type 0
IsFromListed kinds listed u p t = (t ≡ u) × (is_protocol (slice_get kinds p) ≡ true) × Contains (map (λ q. q.0) listed) p

abbrev pub IsEdge : List Kind → ℕ → ℕ → Type 0
IsEdge kinds a b = Contains (held_by kinds (bases_of (parts_of (slice_get kinds a)))) b ⊎ IsOfProtocol kinds a b

-- these are the edges of the graph, and there is no other
pub record IsHolding (kinds : List Kind) (graph : Graph) : Type 0 where
  pub size : length graph ≡ length kinds
  pub only : (a b : ℕ) → HasEdge graph a b → IsEdge kinds a b
  pub all : (a b : ℕ) → IsEdge kinds a b → HasEdge graph a b

-- these edges were added, and no other
pub record Adds (old new : Graph) (R : ℕ → ℕ → Type 0) : Type 0 where
  pub size : length new ≡ length old
  pub only : (a b : ℕ) → HasEdge new a b → HasEdge old a b ⊎ R a b
  pub kept : (a b : ℕ) → HasEdge old a b → HasEdge new a b
  pub all : (a b : ℕ) → R a b → HasEdge new a b

-- ---- levels

-- The level of a struct or an enum from whose number the longest walk has so many numbers; a protocol stands on its own walks, and
-- does not count.
abbrev pub capped : ℕ → ℕ
capped walk = if nat_le walk 64 then walk else 0

abbrev pub settled_form : Form → ℕ → ℕ
settled_form (form.Struct names types) walk = capped walk
settled_form (form.Enum cases) walk = capped walk
settled_form form.Protocol walk = pred walk
settled_form _ walk = 0

abbrev pub settled : Option Kind → ℕ → ℕ
settled None walk = 0
settled (Some kind) walk = settled_form kind.form walk

-- of the structs and enums the table marks those with a longest chain: those that reach no circle
pub record AreBounded (kinds : List Kind) (table : List Truth) : Type 0 where
  pub only : (t : ℕ) → is_value (slice_get kinds t) ≡ true → marked table t ≡ true → (n : ℕ) × HasChain kinds n t × (HasChain kinds (suc n) t → ⊥)
  pub all : (t n : ℕ) → is_value (slice_get kinds t) ≡ true → (HasChain kinds n t → ⊥) → marked table t ≡ true

-- ---- what may cross

-- the struct or the enum that a base names
abbrev pub value_number : Base → List ℕ
value_number (base.Struct number) = number.0 ∷ []
value_number (base.Enum number) = number.0 ∷ []
value_number _ = []

-- whether a base is a member where all structs and enums are
abbrev pub could_be : Base → Truth
could_be b = among (λ _. true) b

abbrev pub could_cross : Kind → Truth
could_cross kind = kind.is_codable && (has_parts kind.form && list_all could_be (bases_in kind))
