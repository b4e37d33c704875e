-- Which trees `parse` gives, and what is said of their texts: that a text spells the tree, and is parsed to it.
use Rattle.std.specs.Prelude.{◌≡◌, false, List}
use Rattle.sw_lex.specs.declared.token.Token.{Token}
use Rattle.sw_lex.specs.Bytes.{Text}
use Rattle.sw_lex.specs.Rules.{BreaksNone}
use Rattle.sw_lex.specs.Tokens.{CutsInto, EndsOnce}
use Rattle.sw_syntax.specs.Meaning.{Spells, source_budget}
use Rattle.sw_syntax.specs.Nonterminals.{File}
use Rattle.sw_syntax.specs.Tokens.{sighted}
use Rattle.sw_tree.specs.declared.decl.Tree.{Tree}
use Rattle.sw_tree.specs.Erased.{erase}

-- the tokens that `lex` gives of a source
abbrev pub IsLexed : Text → List Token → Type 0
IsLexed source tokens = CutsInto source tokens × EndsOnce tokens × BreaksNone source

-- the tree that `parse` gives of the tokens of a source
abbrev pub IsParsed : Tree → Type 0
IsParsed tree = (source : Text) × (tokens : List Token) × IsLexed source tokens × Spells false File source_budget (sighted tokens) tree

-- The text spells the tree: it is cut into tokens that spell a tree which is the same but for its places.
abbrev pub SpellsTree : Text → Tree → Type 0
SpellsTree text tree =
    (tokens : List Token) × CutsInto text tokens × ((other : Tree) × Spells false File source_budget (sighted tokens) other × (erase other ≡ erase tree))

-- And it breaks no rule of tokens, so that `lex` gives these tokens, and `parse` that tree of them.
abbrev pub IsParsedTo : Text → Tree → Type 0
IsParsedTo text tree = BreaksNone text × SpellsTree text tree
