-- The rules that tokens break as a sentence of a nonterminal, each at its place.
use Rattle.std.specs.Prelude.{◌≡◌, ◌⊎◌, ℕ, ◌+◌, Bool, true, false, List, [], ◌∷◌, ◌++◌, drop, length}
use Rattle.sw_base.specs.declared.ids.Span.{Span}
use Rattle.sw_rules.specs.declared.Rule.{Rule}
use Rattle.sw_rules.specs.declared.Rule.TheVariants.{P1, P2, P3, P4, P5, P6}
use Rattle.sw_rules.specs.declared.Refusal.{Refusal}
use Rattle.sw_lex.specs.declared.token.TokenKind.TheVariants as k
use Rattle.sw_lex.specs.declared.token.Token.{Token}
use Rattle.sw_grammar.specs.Grammar.{Budget, IsWithin}
use Rattle.sw_grammar.specs.Ends as ends
use Rattle.sw_syntax.specs.declared.class.Sight.{Sight}
use Rattle.sw_syntax.specs.Tokens.{Sighted, Face, sighted}
use Rattle.sw_syntax.specs.Tests.{is}
use Rattle.sw_syntax.specs.Broken.{broken_at}
use Rattle.sw_syntax.specs.Nonterminals.{Nonterminal, Sort}
use Rattle.sw_syntax.specs.Grammar.{production}
use Rattle.sw_syntax.specs.Meaning.{Spells, IsViablePrefix, source_budget}
use Rattle.sw_syntax.specs.Misplaced.{EndsInChain, EndsInEffect}

-- ---- viable prefixes

-- with the next token, if there is one, they are no viable prefix, within any budget
abbrev pub EndsAt : Bool → Nonterminal → List Sighted → List Sighted → Type 0
EndsAt lenient = ends.EndsAt Sight Face Nonterminal Sort (production lenient)

-- with the next token they are no viable prefix within the budget of a source, but one within a larger budget
abbrev pub ExceedsBudget : Bool → Nonterminal → List Sighted → List Sighted → Type 0
ExceedsBudget lenient s = ends.ExceedsBudget Sight Face Nonterminal Sort (production lenient) s source_budget

-- they end in a second comparison, not within the budget of a source, but within a larger one
abbrev pub ExceedsBudgetToChain : Nonterminal → List Sighted → Type 0
ExceedsBudgetToChain s u = (EndsInChain s source_budget u → ⊥) × (larger : Budget) × IsWithin source_budget larger × EndsInChain s larger u

-- they are no sentence within any budget
abbrev pub IsNoSentence : Nonterminal → List Sighted → Type 0
IsNoSentence = ends.IsNoSentence Sight Face Nonterminal Sort (production false)

-- The tokens from a place on are cut before the first with which they begin no sentence within the budget of a source.
abbrev pub IsLongest : Nonterminal → List Token → ℕ → List Sighted → Sighted → Type 0
IsLongest s tokens at run next =
    (rest : List Sighted) × (drop at (sighted tokens) ≡ run ++ next ∷ rest)
    × IsViablePrefix false s source_budget run × (IsViablePrefix false s source_budget (run ++ next ∷ []) → ⊥)

-- With a line break before the token that stands so many after the place, those before it begin a sentence, and with it
-- they begin one within some budget.
abbrev pub BeginsBelow : Nonterminal → List Token → ℕ → ℕ → Type 0
BeginsBelow s tokens at n =
    (run : List Sighted) × (next : Sighted) × (rest : List Sighted) × (drop at (sighted (broken_at (at + n) tokens)) ≡ run ++ next ∷ rest)
    × (length run ≡ n) × IsViablePrefix false s source_budget run × ((budget : Budget) × IsViablePrefix false s budget (run ++ next ∷ []))

-- the last token passes the test
abbrev pub EndsIn : (Sight → Bool) → List Sighted → Type 0
EndsIn f run = (prefix : List Sighted) × (last : Sighted) × (run ≡ prefix ++ last ∷ []) × (f last.sight ≡ true)

-- ---- the rules

-- The longest viable prefix breaks the rule with the token after it.
-- P2: it is no sentence, with the token it begins none, but it would with a line break between.
-- P3: it exceeds the budget for the token alone, a bracket or a part that is counted, be it a second
-- comparison, as the second `<` of `a < b < c`.
-- P4: `await` stands directly before `try`.
-- P5: it ends in the right operand of a comparison, and the token is another comparison, which the budget allows.
-- P6: it ends in a binary operator, and the token is `try` or `await`.
abbrev pub BreaksP2to6 : Nonterminal → List Token → ℕ → List Sighted → Sighted → Rule → Type 0
BreaksP2to6 s tokens at run next P2 = IsNoSentence s run × EndsAt false s run (next ∷ []) × BeginsBelow s tokens at (length run)
BreaksP2to6 s tokens at run next P3 = ExceedsBudget false s run (next ∷ []) ⊎ ExceedsBudgetToChain s (run ++ next ∷ [])
BreaksP2to6 s tokens at run next P4 = EndsIn (is k.Await) run × (is k.Try next.sight ≡ true)
BreaksP2to6 s tokens at run next P5 = EndsInChain s source_budget (run ++ next ∷ [])
BreaksP2to6 s tokens at run next P6 = EndsInEffect s source_budget (run ++ next ∷ [])
BreaksP2to6 s tokens at run next rule = ⊥

-- P1: it is no sentence, with the token it begins none, and no later rule tells why.
abbrev pub BreaksP1to6 : Nonterminal → List Token → ℕ → List Sighted → Sighted → Rule → Type 0
BreaksP1to6 s tokens at run next P1 = IsNoSentence s run × EndsAt false s run (next ∷ []) × ((later : Rule) → BreaksP2to6 s tokens at run next later → ⊥)
BreaksP1to6 s tokens at run next rule = BreaksP2to6 s tokens at run next rule

-- how many tokens the place of the rule stands before that token: `await` stands before `try`
abbrev pub before : Rule → ℕ
before P4 = 1
before rule = 0

-- The tokens from `at` on break the rule at a place, as a sentence of the nonterminal.
abbrev pub Breaks : Nonterminal → List Token → ℕ → Rule → ℕ → Type 0
Breaks s tokens at rule position =
    (run : List Sighted) × (next : Sighted) × IsLongest s tokens at run next × BreaksP1to6 s tokens at run next rule × (position + before rule ≡ at + length run)

-- ---- the answer

-- The tokens from `at` up to `end` are a sentence of this value, and with the next they begin none.
abbrev pub IsSentence : (s : Nonterminal) → List Token → ℕ → Sort s → ℕ → Type 0
IsSentence s tokens at value end =
    (run : List Sighted) × (rest : List Sighted) × (drop at (sighted tokens) ≡ run ++ rest) × (end ≡ at + length run)
    × Spells false s source_budget run value × EndsAt false s run rest

-- the token at a place has this span
abbrev pub StandsAt : List Token → ℕ → Span → Type 0
StandsAt tokens position span = (token : Token) × (rest : List Token) × (drop position tokens ≡ token ∷ rest) × (span ≡ token.span)

-- The pass over tokens: from `at` on they break the rule, as a sentence of the nonterminal, at the token with this span.
abbrev pub Refuses : Nonterminal → List Token → ℕ → Refusal → Type 0
Refuses s tokens at refusal = (position : ℕ) × Breaks s tokens at refusal.rule position × StandsAt tokens position refusal.span
