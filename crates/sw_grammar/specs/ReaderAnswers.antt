-- What a reader's answer says of the tokens.
use Rattle.std.specs.Prelude.{◌≡◌, List, ◌++◌}
use Rattle.sw_grammar.specs.Grammar.{Token, Part, Budget, Spells, IsViablePrefix}
use Rattle.sw_grammar.specs.Ends as ends
use Rattle.sw_grammar.specs.Reading.{Out, got, rejected, out_of_fuel, over_budget, unexpected}

module _ (K V S : Type 0) (Sort : S → Type 0) (production : (s : S) → Part K V S Sort (Sort s)) where
  abbrev Spelt : (s : S) → Budget → List (Token K V) → Sort s → Type 0
  Spelt = Spells K V S Sort production

  abbrev IsPrefix : S → Budget → List (Token K V) → Type 0
  IsPrefix = IsViablePrefix K V S Sort production

  abbrev EndsAt : S → List (Token K V) → List (Token K V) → Type 0
  EndsAt = ends.EndsAt K V S Sort production

  abbrev ExceedsBudget : S → Budget → List (Token K V) → List (Token K V) → Type 0
  ExceedsBudget = ends.ExceedsBudget K V S Sort production

  abbrev IsNoSentence : S → List (Token K V) → Type 0
  IsNoSentence = ends.IsNoSentence K V S Sort production

  -- A value: the tokens up to the rest are a sentence of it, and with the next token they are no viable prefix, within any
  -- budget. Over budget: the tokens before the refused one are a viable prefix, and with it they are one, but only within a
  -- larger budget. Unexpected: the tokens up to the rest are a viable prefix and no sentence, and with the next token they
  -- are none, within any budget.
  abbrev pub Answers : (s : S) → Budget → List (Token K V) → Out (Token K V) (Sort s) → Type 0
  Answers s budget ts (got x c rest) = (u : List (Token K V)) × (ts ≡ u ++ rest) × Spelt s budget u x × EndsAt s u rest
  Answers s budget ts (rejected over_budget rest) = (u : List (Token K V)) × (ts ≡ u ++ rest) × IsPrefix s budget u × ExceedsBudget s budget u rest
  Answers s budget ts (rejected unexpected rest) = (u : List (Token K V)) × (ts ≡ u ++ rest) × IsPrefix s budget u × EndsAt s u rest × IsNoSentence s u
  Answers s budget ts out_of_fuel = ⊥
