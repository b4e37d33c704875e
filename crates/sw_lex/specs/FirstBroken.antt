-- Machinery, for private contracts alone: where the code finds each rule broken in a cut, and the first by offset.
use Rattle.std.specs.Prelude.{◌≡◌, ◌≤◌, ◌<◌, ◌⊎◌, ℕ, ◌+◌, Bool, true, false, if◌then◌else◌, nat_lt, List, [], ◌∷◌, take, drop, length, Option, Some, None}
use Rattle.sw_base.specs.Limits.{greatest_integer}
use Rattle.sw_rules.specs.declared.Rule.{Rule}
use Rattle.sw_rules.specs.declared.Rule.TheVariants.{L1, L2, L3, L4}
use Rattle.sw_rules.specs.Rule.{rule_order}
use Rattle.sw_lex.specs.declared.token.TokenKind.TheVariants as k
use Rattle.sw_lex.specs.declared.lexemes.Lexeme.{Lexeme}
use Rattle.sw_lex.specs.declared.lexemes.Lexeme.TheVariants.{Token, Malformed, Unterminated}
use Rattle.sw_lex.specs.Bytes.{Text}
use Rattle.sw_lex.specs.Lexemes.{size_of}
use Rattle.sw_lex.specs.Cut.{Opens, is_inside, after}
use Rattle.sw_lex.specs.Rules.{number}

abbrev pub Found : Type 0
Found = Option (Rule × ℕ)

-- by place, then by order
abbrev pub IsBefore : Rule → ℕ → Rule → ℕ → Type 0
IsBefore rule at rule' at' = (at < at') ⊎ ((at ≡ at') × (rule_order rule ≤ rule_order rule'))

-- what is found is the first that holds; nothing is found where none holds
abbrev pub IsFirst : (Rule → ℕ → Type 0) → Found → Type 0
IsFirst Holds None = (rule : Rule) (at : ℕ) → Holds rule at → ⊥
IsFirst Holds (Some found) = Holds found.0 found.1 × ((rule : Rule) (at : ℕ) → Holds rule at → IsBefore found.0 found.1 rule at)

-- the first byte that is not UTF-8
abbrev pub bad_found : Text → ℕ → Found
bad_found source valid = if nat_lt valid (length source) then Some (L1, valid) else None

-- where the cut stops, read from `at` on, where the outermost string that is open begins at `outer`
abbrev pub stop_at : ℕ → ℕ → Opens → List Lexeme → ℕ
stop_at at outer opens [] = if is_inside opens then outer else at
stop_at at outer opens (item ∷ items) = stop_at (at + size_of item) (if is_inside opens then outer else at) (after opens item) items

-- what is malformed or not terminated, where the cut stops at this offset
abbrev pub fault_found : Lexeme → ℕ → Found
fault_found Malformed at = Some (L2, at)
fault_found Unterminated at = Some (L3, at)
fault_found stop at = None

abbrev pub stop_found : Lexeme → List Lexeme → Found
stop_found stop items = fault_found stop (stop_at 0 0 [] items)

-- an integer above the greatest
abbrev pub is_too_large : Text → Lexeme → Bool
is_too_large bytes (Token k.Integer size) = nat_lt greatest_integer (number 0 (take size bytes))
is_too_large bytes lexeme = false

-- one of these is an integer above the greatest and stands at `offset`, where the first stands at `at`
abbrev pub FindsTooLarge : ℕ → Text → List Lexeme → ℕ → Type 0
FindsTooLarge at bytes [] offset = ⊥
FindsTooLarge at bytes (item ∷ items) offset =
    ((offset ≡ at) × (is_too_large bytes item ≡ true)) ⊎ FindsTooLarge (at + size_of item) (drop (size_of item) bytes) items offset

-- the first of them
abbrev pub large_at : ℕ → Text → List Lexeme → Option ℕ
large_at at bytes [] = None
large_at at bytes (item ∷ items) = if is_too_large bytes item then Some at else large_at (at + size_of item) (drop (size_of item) bytes) items

abbrev pub large_found : Option ℕ → Found
large_found None = None
large_found (Some at) = Some (L4, at)
