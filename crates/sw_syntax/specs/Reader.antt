-- What a reader says of the tokens from a place on: where the sentence that they begin with ends, or which is refused.
use Rattle.std.specs.Prelude.{Bool, ℕ, List, drop, Result, Ok, Err}
use Rattle.sw_syntax.specs.declared.view.Stop.{Stop}
use Rattle.sw_syntax.specs.Tokens.{Sighted}
use Rattle.sw_syntax.specs.Nonterminals.{Nonterminal, Sort}
use Rattle.sw_syntax.specs.Meaning.{source_budget}
use Rattle.sw_syntax.specs.Answering.{read_in}
use Rattle.sw_syntax.specs.ReadResults.{Gives}

-- the same as of a function that gives the value too
abbrev pub Ends : Bool → Nonterminal → List Sighted → ℕ → Result ℕ Stop → Type 0
Ends lenient s ts at (Ok end) = (value : Sort s) × (left : ℕ) × Gives ts (Ok (value, end, left)) (read_in lenient s source_budget (drop at ts))
Ends lenient s ts at (Err stop) = Gives {A = Sort s} ts (Err stop) (read_in lenient s source_budget (drop at ts))
