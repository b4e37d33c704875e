-- What the reader answers for tokens, and what its answer says.
use Rattle.std.specs.Prelude.{◌≡◌, ℕ, Bool, List}
use Rattle.sw_grammar.specs.Grammar.{Budget}
use Rattle.sw_grammar.specs.Reading.{Out, got, one, reads, read_by}
use Rattle.sw_grammar.specs.ReaderAnswers as answers
use Rattle.sw_syntax.specs.declared.class.Sight.{Sight}
use Rattle.sw_syntax.specs.Tokens.{Sighted, Face}
use Rattle.sw_syntax.specs.Nonterminals.{Nonterminal, Sort}
use Rattle.sw_syntax.specs.Parts.{P}
use Rattle.sw_syntax.specs.Grammar.{production}
use Rattle.sw_syntax.specs.Tables.{first_table, nullable_table, rank, width}

-- What an answer for the tokens says. A value: the tokens up to the rest are a sentence of it, and with the next they begin
-- none. A refusal: the tokens before the refused one begin a sentence, and with it they begin none, or only within a larger budget.
abbrev pub Answers : Bool → (s : Nonterminal) → Budget → List Sighted → Out Sighted (Sort s) → Type 0
Answers lenient = answers.Answers Sight Face Nonterminal Sort (production lenient)

-- what the tokens are read as: d brackets may be opened, a count of its own may hold l, and c more may be counted
unfoldable pub read : Bool → (s : Nonterminal) → ℕ → ℕ → ℕ → List Sighted → Out Sighted (Sort s)
read lenient = reads Sight Face Nonterminal Sort (production lenient) first_table nullable_table rank width

abbrev pub read_in : Bool → (s : Nonterminal) → Budget → List Sighted → Out Sighted (Sort s)
read_in lenient s budget ts = read lenient s budget.brackets budget.limit budget.left ts

-- what the tokens are read as, as a part of a production
abbrev pub read_part : Bool → {A : Type 0} → P A → ℕ → ℕ → ℕ → List Sighted → Out Sighted A
read_part lenient a d l c ts = read_by Sight Face Nonterminal Sort (production lenient) first_table nullable_table (read lenient) a d l c ts

-- the first token passes the test, and this is its face and what follows it
abbrev pub Takes : (Sight → Bool) → List Sighted → Face → List Sighted → Type 0
Takes f ts x r = (c : ℕ) → one f c ts ≡ got x c r
