-- What the grammar means: which runs of tokens are sentences of a nonterminal, which are viable prefixes, and the budget
-- of a source.
use Rattle.std.specs.Prelude.{ℕ, Bool, List}
use Rattle.sw_grammar.specs.Grammar as grammar
use Rattle.sw_grammar.specs.Grammar.{Budget}
use Rattle.sw_syntax.specs.declared.class.Sight.{Sight}
use Rattle.sw_syntax.specs.Tokens.{Sighted, Face}
use Rattle.sw_syntax.specs.Nonterminals.{Nonterminal, Sort}
use Rattle.sw_syntax.specs.Grammar.{production}

-- how many brackets may be open, and how many operators and forms of an expression, `else if` of an `if`, and marks
-- of a type may stand
abbrev pub brackets : ℕ
brackets = 64

abbrev pub limit : ℕ
limit = 100

abbrev pub source_budget : Budget
source_budget = record { brackets = brackets; left = limit; limit = limit }

-- the tokens are a sentence of the nonterminal within this budget, with this value; and they are a viable prefix of one
abbrev pub Spells : Bool → (s : Nonterminal) → Budget → List Sighted → Sort s → Type 0
Spells lenient = grammar.Spells Sight Face Nonterminal Sort (production lenient)

abbrev pub IsViablePrefix : Bool → Nonterminal → Budget → List Sighted → Type 0
IsViablePrefix lenient = grammar.IsViablePrefix Sight Face Nonterminal Sort (production lenient)
