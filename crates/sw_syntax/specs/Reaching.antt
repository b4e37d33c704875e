-- What a reading says of the token at a place, by how far it came; and what the lenient grammar says of it.
use Rattle.std.specs.Prelude.{◌≡◌, ◌⊎◌, ℕ, ◌+◌, ◌<◌, Bool, true, false, List, [], ◌∷◌, ◌++◌, drop, length, Option, Some, None}
use Rattle.sw_base.specs.declared.ids.Span.{Span}
use Rattle.sw_rules.specs.declared.Rule.{Rule}
use Rattle.sw_rules.specs.declared.Rule.TheVariants.{P3, P5, P6}
use Rattle.sw_lex.specs.declared.token.TokenKind.TheVariants as k
use Rattle.sw_syntax.specs.Tokens.{Sighted}
use Rattle.sw_syntax.specs.Tests.{is, is_comparison, is_effect}
use Rattle.sw_syntax.specs.Nonterminals.{Nonterminal}
use Rattle.sw_syntax.specs.Meaning.{IsViablePrefix, source_budget}
use Rattle.sw_lex.specs.declared.token.Token.{Token}
use Rattle.sw_rules.specs.declared.FrontError.{FrontError}
use Rattle.sw_rules.specs.declared.FrontError.TheVariants.{Refused}
use Rattle.sw_syntax.specs.Refusals.{EndsAt, ExceedsBudget, EndsIn, BeginsBelow, BreaksP2to6, StandsAt}
use Rattle.sw_syntax.specs.Finding.{IsFirstBroken, BreaksNone}
use Rattle.sw_syntax.specs.declared.broken.Reach.{Reach}
use Rattle.sw_syntax.specs.declared.broken.Reach.TheVariants.{Short, OverBudget, Beyond}

-- The tokens from `at` on are a run and the token at the place, and more after it; and this is so of the two.
abbrev pub OfCut : List Sighted → ℕ → ℕ → (List Sighted → Sighted → Type 0) → Type 0
OfCut ts at position Holds = (run : List Sighted) (next : Sighted) (rest : List Sighted) → drop at ts ≡ run ++ next ∷ rest → at + length run ≡ position → Holds run next

abbrev pub Says : Bool → Nonterminal → Reach → List Sighted → Sighted → Type 0
Says lenient s Short run next = IsViablePrefix lenient s source_budget run → EndsAt lenient s run (next ∷ [])
Says lenient s OverBudget run next = IsViablePrefix lenient s source_budget run × ExceedsBudget lenient s run (next ∷ [])
Says lenient s Beyond run next = IsViablePrefix lenient s source_budget (run ++ next ∷ [])

-- `await` before `try`
abbrev pub IsAwaitTry : List Sighted → Sighted → Type 0
IsAwaitTry run next = EndsIn (is k.Await) run × (is k.Try next.sight ≡ true)

-- The rules that the longest run breaks with the token behind it, where P3, P5 and P6 are told by the lenient grammar.
-- P3: room alone is lacking for the token, be this a second comparison. P5: the token is a comparison, P6: it is `try`
-- or `await`, and the lenient grammar goes on with it, but the grammar does not.
abbrev pub BreaksLeniently : Nonterminal → List Token → ℕ → List Sighted → Sighted → Rule → Type 0
BreaksLeniently s tokens at run next P3 = ExceedsBudget false s run (next ∷ []) ⊎ ((is_comparison next.sight ≡ true) × ExceedsBudget true s run (next ∷ []))
BreaksLeniently s tokens at run next P5 = (is_comparison next.sight ≡ true) × EndsAt false s run (next ∷ []) × IsViablePrefix true s source_budget (run ++ next ∷ [])
BreaksLeniently s tokens at run next P6 = (is_effect next.sight ≡ true) × EndsAt false s run (next ∷ []) × IsViablePrefix true s source_budget (run ++ next ∷ [])
BreaksLeniently s tokens at run next rule = BreaksP2to6 s tokens at run next rule

-- The rule that a comparison, or `try` or `await`, breaks where the lenient grammar goes on with it.
abbrev pub Tells : Nonterminal → Option Rule → List Sighted → Sighted → Type 0
Tells s None run next =
    IsViablePrefix true s source_budget run
    → (is_comparison next.sight ≡ true → EndsAt true s run (next ∷ [])) × (is_effect next.sight ≡ true → IsViablePrefix true s source_budget (run ++ next ∷ []) → ⊥)
Tells s (Some P3) run next = (is_comparison next.sight ≡ true) × ExceedsBudget true s run (next ∷ [])
Tells s (Some P5) run next = (is_comparison next.sight ≡ true) × IsViablePrefix true s source_budget (run ++ next ∷ [])
Tells s (Some P6) run next = (is_comparison next.sight ≡ true → ⊥) × (is_effect next.sight ≡ true) × IsViablePrefix true s source_budget (run ++ next ∷ [])
Tells s (Some rule) run next = ⊥

-- The rule that is broken first, with its place, or none is broken.
abbrev pub Finds : Nonterminal → List Token → ℕ → Option (Rule × ℕ) → Type 0
Finds s tokens at None = BreaksNone s tokens at
Finds s tokens at (Some found) = IsFirstBroken s tokens at found.0 found.1 × (found.1 < length tokens)

-- a refusal by this rule, with the span of the token at this place
abbrev pub Names : List Token → Rule → ℕ → FrontError → Type 0
Names tokens rule position error = (span : Span) × (error ≡ Refused (record { rule = rule; span = span })) × StandsAt tokens position span

-- The tokens begin a sentence up to the place, if a line break stands before that; and they do not.
abbrev pub Below : Nonterminal → List Token → ℕ → ℕ → Type 0
Below s tokens at position = (n : ℕ) → at + n ≡ position → BeginsBelow s tokens at n

abbrev pub NotBelow : Nonterminal → List Token → ℕ → ℕ → Type 0
NotBelow s tokens at position = (n : ℕ) → at + n ≡ position → BeginsBelow s tokens at n → ⊥
