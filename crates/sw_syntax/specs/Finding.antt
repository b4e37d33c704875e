-- Machinery, for private contracts alone: the first rule that tokens break, by the number of its token.
use Rattle.std.specs.Prelude.{◌≡◌, ◌<◌, ◌≤◌, ◌⊎◌, ℕ, List}
use Rattle.sw_rules.specs.declared.Rule.{Rule}
use Rattle.sw_rules.specs.Rule.{rule_order}
use Rattle.sw_lex.specs.declared.token.Token.{Token}
use Rattle.sw_syntax.specs.Nonterminals.{Nonterminal}
use Rattle.sw_syntax.specs.Refusals.{Breaks}

-- by place, then by order
abbrev pub IsBefore : Rule → ℕ → Rule → ℕ → Type 0
IsBefore rule position other its_position = (position < its_position) ⊎ ((position ≡ its_position) × (rule_order rule ≤ rule_order other))

abbrev pub IsFirstBroken : Nonterminal → List Token → ℕ → Rule → ℕ → Type 0
IsFirstBroken s tokens at rule position =
    Breaks s tokens at rule position × ((other : Rule) (its_position : ℕ) → Breaks s tokens at other its_position → IsBefore rule position other its_position)

abbrev pub BreaksNone : Nonterminal → List Token → ℕ → Type 0
BreaksNone s tokens at = (rule : Rule) (position : ℕ) → Breaks s tokens at rule position → ⊥
