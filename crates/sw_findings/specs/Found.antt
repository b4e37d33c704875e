-- What a pass finds: the first of the refusals that it reports, in whatever order it reports them.
use Rattle.std.specs.Prelude.{◌≡◌, ◌⊎◌, Bool, true, false, ◌||◌, ◌&&◌, cond, Option, Some, None, List, [], ◌∷◌, nat_lt, nat_eq}
use Rattle.sw_base.specs.declared.ids.Span.{Span}
use Rattle.sw_rules.specs.declared.Rule.{Rule}
use Rattle.sw_rules.specs.declared.Refusal.{Refusal}
use Rattle.sw_rules.specs.Rule.{rule_order, rule_pass}
use Rattle.sw_rules.specs.Pass.{IsFirst, RefusesNone}

-- it is one of these
abbrev pub Has : List Refusal → Refusal → Type 0
Has [] refusal = ⊥
Has (x ∷ xs) refusal = (refusal ≡ x) ⊎ Has xs refusal

-- what is found is the first refusal of the pass, and nothing is found exactly where it refuses nothing
abbrev pub Finds : (Refusal → Type 0) → Option Refusal → Type 0
Finds Refuses None = RefusesNone Refuses
Finds Refuses (Some refusal) = IsFirst Refuses refusal

-- a rule at a place, where it is broken
unfoldable pub when : Bool → Rule → Span → List Refusal
when true rule span = record { rule = rule; span = span } ∷ []
when false rule span = []

-- `Precedes` as a test
unfoldable pub precedes : Refusal → Refusal → Bool
precedes a b =
    nat_lt (rule_pass a.rule) (rule_pass b.rule)
    || (nat_eq (rule_pass a.rule) (rule_pass b.rule)
    && (nat_lt a.span.line b.span.line
    || (nat_eq a.span.line b.span.line
    && (nat_lt a.span.column b.span.column
    || (nat_eq a.span.column b.span.column && nat_lt (rule_order a.rule) (rule_order b.rule))))))

-- the first of what was found so far and one refusal more
unfoldable pub keep : Option Refusal → Refusal → Option Refusal
keep None new = Some new
keep (Some kept) new = cond (precedes new kept) (Some new) (Some kept)

-- and of one after another
unfoldable pub keep_all : Option Refusal → List Refusal → Option Refusal
keep_all kept [] = kept
keep_all kept (x ∷ xs) = keep_all (keep kept x) xs
