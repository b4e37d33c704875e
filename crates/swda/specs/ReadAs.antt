-- What a source is read as: its tree, or the first rule that it breaks before declarations are checked.
use Rattle.std.specs.Prelude.{◌≡◌, false, List}
use Rattle.sw_rules.specs.declared.Refusal.{Refusal}
use Rattle.sw_rules.specs.declared.FrontError.{FrontError}
use Rattle.sw_rules.specs.declared.FrontError.TheVariants.{Refused, NoMemory}
use Rattle.sw_rules.specs.Pass.{IsFirst, RefusesNone, Then}
use Rattle.sw_lex.specs.declared.token.Token.{Token}
use Rattle.sw_lex.specs.Bytes.{Text}
use Rattle.sw_lex.specs.Tokens.{CutsInto}
use Rattle.sw_lex.specs.Rules as tokens
use Rattle.sw_tree.specs.declared.decl.Tree.{Tree}
use Rattle.sw_syntax.specs.Tokens.{sighted}
use Rattle.sw_syntax.specs.Nonterminals.{File}
use Rattle.sw_syntax.specs.Meaning.{Spells, source_budget}
use Rattle.sw_syntax.specs.Refusals as grammar
use Rattle.sw_names.specs.Pass as names

-- the source breaks no rule of tokens, and is cut into these
abbrev pub HasTokens : Text → List Token → Type 0
HasTokens source found = CutsInto source found × RefusesNone (tokens.Refuses source)

-- its tokens spell this tree, and break no rule of the grammar. No definition makes one of the two follow from the other,
-- so both are asked
abbrev pub HasTree : Text → Tree → Type 0
HasTree source tree =
    (found : List Token) × HasTokens source found × Spells false File source_budget (sighted found) tree × RefusesNone (grammar.Refuses File found 0)

-- and the tree breaks no rule of names
abbrev pub HasNamedTree : Text → Tree → Type 0
HasNamedTree source tree = HasTree source tree × RefusesNone (names.Refuses tree)

-- the pass over the grammar: the tokens that the source is cut into break the rule at the place
abbrev pub RefusesTokens : Text → Refusal → Type 0
RefusesTokens source refusal = (found : List Token) × CutsInto source found × grammar.Refuses File found 0 refusal

-- the pass over names: the tree of the source breaks the rule at the place
abbrev pub RefusesTree : Text → Refusal → Type 0
RefusesTree source refusal = (tree : Tree) × HasTree source tree × names.Refuses tree refusal

-- the pass over tokens, and then the pass over the grammar
abbrev pub RefusesSyntax : Text → Refusal → Type 0
RefusesSyntax source = Then (tokens.Refuses source) (RefusesTokens source)

-- and then the pass over names
abbrev pub Refuses : Text → Refusal → Type 0
Refuses source = Then (RefusesSyntax source) (RefusesTree source)

-- the first rule that the source breaks, and its place
abbrev pub First : Text → Refusal → Type 0
First source refusal = IsFirst (Refuses source) refusal

-- the source has this tree, no other, and breaks no rule, so none is the first
pub record IsRead (source : Text) (tree : Tree) : Type 0 where
  pub has : HasNamedTree source tree
  pub only : (other : Tree) → HasTree source other → other ≡ tree
  pub unbroken : RefusesNone (Refuses source)
  pub sound : (refusal : Refusal) → First source refusal → ⊥

-- the source is refused so, in no other way, and has no tree that breaks no rule
pub record IsRefused (source : Text) (refusal : Refusal) : Type 0 where
  pub first : First source refusal
  pub only : (other : Refusal) → First source other → other ≡ refusal
  pub none : (tree : Tree) → HasNamedTree source tree → ⊥

-- a refusal has its cause; want of memory says nothing of the source
abbrev pub IsRefusedBy : Text → FrontError → Type 0
IsRefusedBy source (Refused refusal) = IsRefused source refusal
IsRefusedBy source NoMemory = Unit {0}
