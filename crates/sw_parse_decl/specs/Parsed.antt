-- Which trees the tokens of a whole source spell.
use Rattle.std.specs.Prelude.{◌≡◌, false, List}
use Rattle.sw_rules.specs.declared.FrontError.{FrontError}
use Rattle.sw_rules.specs.declared.FrontError.TheVariants.{Refused, NoMemory}
use Rattle.sw_lex.specs.declared.token.Token.{Token}
use Rattle.sw_tree.specs.declared.decl.Tree.{Tree}
use Rattle.sw_grammar.specs.Grammar.{Budget}
use Rattle.sw_syntax.specs.Tokens.{sighted}
use Rattle.sw_syntax.specs.Nonterminals.{File}
use Rattle.sw_syntax.specs.Meaning.{Spells, source_budget}

-- they spell no other tree, within any budget
abbrev pub IsOnlyTree : List Token → Tree → Type 0
IsOnlyTree tokens tree = (budget : Budget) (other : Tree) → Spells false File budget (sighted tokens) other → other ≡ tree

-- tokens that are refused spell no tree within the budget of a source; want of memory says nothing
abbrev pub HasNoTree : List Token → FrontError → Type 0
HasNoTree tokens (Refused refusal) = (tree : Tree) → Spells false File source_budget (sighted tokens) tree → ⊥
HasNoTree tokens NoMemory = Unit {0}
