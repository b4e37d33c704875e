-- A pass over a source, and its answer. A pass is the set of its refusals: `Refuses refusal` says that what it reads
-- breaks that rule at that place.
use Rattle.std.specs.Prelude.{◌≡◌, ◌⊎◌}
use Rattle.sw_rules.specs.declared.Refusal.{Refusal}
use Rattle.sw_rules.specs.declared.FrontError.{FrontError}
use Rattle.sw_rules.specs.declared.FrontError.TheVariants.{Refused, NoMemory}
use Rattle.sw_rules.specs.Refusal.{Precedes}

-- it is one of the refusals, and precedes each other
pub record IsFirst (Refuses : Refusal → Type 0) (first : Refusal) : Type 0 where
  pub refused : Refuses first
  pub precedes : (other : Refusal) → Refuses other → (other ≡ first) ⊎ Precedes first other

-- no rule is broken
abbrev pub RefusesNone : (Refusal → Type 0) → Type 0
RefusesNone Refuses = (refusal : Refusal) → Refuses refusal → ⊥

-- why a pass gives nothing: its first refusal; want of memory says nothing
abbrev pub IsCause : (Refusal → Type 0) → FrontError → Type 0
IsCause Refuses (Refused refusal) = IsFirst Refuses refusal
IsCause Refuses NoMemory = Unit {0}

-- One pass after another: the later is read only where the earlier refuses nothing.
abbrev pub Then : (Refusal → Type 0) → (Refusal → Type 0) → Refusal → Type 0
Then Earlier Later refusal = Earlier refusal ⊎ (RefusesNone Earlier × Later refusal)
