-- What a source is parsed as: its tree, or the first rule of tokens and of the grammar that it breaks. Machinery: no clause
-- of the top call names it.
use Rattle.std.specs.Prelude.{◌≡◌}
use Rattle.sw_rules.specs.declared.Refusal.{Refusal}
use Rattle.sw_rules.specs.declared.FrontError.{FrontError}
use Rattle.sw_rules.specs.declared.FrontError.TheVariants.{Refused, NoMemory}
use Rattle.sw_rules.specs.Pass.{IsFirst, RefusesNone}
use Rattle.sw_lex.specs.Bytes.{Text}
use Rattle.sw_tree.specs.declared.decl.Tree.{Tree}
use Rattle.swda.specs.ReadAs.{HasTree, RefusesSyntax}

-- the source has this tree, no other, and breaks no rule of the two passes
pub record IsParsed (source : Text) (tree : Tree) : Type 0 where
  pub has : HasTree source tree
  pub only : (other : Tree) → HasTree source other → other ≡ tree
  pub unbroken : RefusesNone (RefusesSyntax source)

-- this is the first refusal of the two passes, and the source has no tree
pub record IsUnparsed (source : Text) (refusal : Refusal) : Type 0 where
  pub first : IsFirst (RefusesSyntax source) refusal
  pub none : (tree : Tree) → HasTree source tree → ⊥

-- a refusal has its cause; want of memory says nothing of the source
abbrev pub IsUnparsedBy : Text → FrontError → Type 0
IsUnparsedBy source (Refused refusal) = IsUnparsed source refusal
IsUnparsedBy source NoMemory = Unit {0}
