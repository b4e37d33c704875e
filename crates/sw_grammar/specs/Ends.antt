-- Where tokens end a sentence: with the next token they are no viable prefix, or exceed the budget; or they are none.
use Rattle.std.specs.Prelude.{List, [], ◌∷◌, ◌++◌}
use Rattle.sw_grammar.specs.Grammar.{Token, Part, Budget, IsWithin, Spells, IsViablePrefix}

module _ (K V S : Type 0) (Sort : S → Type 0) (production : (s : S) → Part K V S Sort (Sort s)) where
  abbrev Spelt : (s : S) → Budget → List (Token K V) → Sort s → Type 0
  Spelt = Spells K V S Sort production

  abbrev IsPrefix : S → Budget → List (Token K V) → Type 0
  IsPrefix = IsViablePrefix K V S Sort production

  -- with the next token, if there is one, they are no viable prefix, within any budget
  abbrev pub EndsAt : S → List (Token K V) → List (Token K V) → Type 0
  EndsAt s u [] = Unit {0}
  EndsAt s u (t ∷ rest) = (budget : Budget) → IsPrefix s budget (u ++ t ∷ []) → ⊥

  -- there is a next token, and with it they are no viable prefix within this budget, but one within a larger budget
  abbrev pub ExceedsBudget : S → Budget → List (Token K V) → List (Token K V) → Type 0
  ExceedsBudget s budget u [] = ⊥
  ExceedsBudget s budget u (t ∷ rest) = (IsPrefix s budget (u ++ t ∷ []) → ⊥) × (larger : Budget) × IsWithin budget larger × IsPrefix s larger (u ++ t ∷ [])

  -- no sentence within any budget
  abbrev pub IsNoSentence : S → List (Token K V) → Type 0
  IsNoSentence s u = (budget : Budget) (x : Sort s) → Spelt s budget u x → ⊥
