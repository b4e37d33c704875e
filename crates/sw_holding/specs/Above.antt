-- The rule that the level of a struct or an enum is 64 at most.
use Rattle.std.specs.Prelude.{◌≡◌, ℕ, suc, ◌≤◌, Bool as Truth, true, List, length}
use Rattle.sw_value.specs.declared.kinds.Kind.{Kind}
use Rattle.sw_holding.specs.Levels.{HasChain}
use Rattle.sw_holding.specs.Members.{marked}

-- What breaks T8: the longest chain from a struct or an enum has 64 steps or more, so that its level is above 64. Where a circle is
-- reached no chain is the longest.
pub record IsAbove (kinds : List Kind) (t : ℕ) : Type 0 where
  pub steps : ℕ
  pub many : 64 ≤ steps
  pub chain : HasChain kinds steps t
  pub longest : HasChain kinds (suc steps) t → ⊥

-- the table marks exactly those whose level is above 64
pub record AreAbove (kinds : List Kind) (table : List Truth) : Type 0 where
  pub length : length table ≡ length kinds
  pub only : (t : ℕ) → marked table t ≡ true → IsAbove kinds t
  pub all : (t : ℕ) → IsAbove kinds t → marked table t ≡ true
