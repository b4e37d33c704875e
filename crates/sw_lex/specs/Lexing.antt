-- What is said of the tokens of a source.
use Rattle.std.specs.Prelude.{◌≡◌, ◌≤◌, List}
use Rattle.std.specs.List.{AllByRecursion}
use Rattle.sw_base.specs.Limits.{greatest_integer}
use Rattle.sw_lex.specs.declared.token.TokenKind.TheVariants as k
use Rattle.sw_lex.specs.declared.token.Token.{Token}
use Rattle.sw_lex.specs.Bytes.{Text}
use Rattle.sw_lex.specs.Tokens.{AreInOrder, CutsInto, EndsOnce}
use Rattle.sw_lex.specs.Rules.{number}

-- the source is cut into no other tokens
abbrev pub IsOnlyCut : Text → List Token → Type 0
IsOnlyCut source tokens = (others : List Token) → CutsInto source others → others ≡ tokens

-- a token that is an integer is at most the greatest, so a literal holds it
abbrev pub IntegerFits : Token → Type 0
IntegerFits token = token.kind ≡ k.Integer → number 0 token.text ≤ greatest_integer

abbrev pub IntegersFit : List Token → Type 0
IntegersFit = AllByRecursion IntegerFits

-- the tokens of a source that breaks no rule of tokens are such
pub record AreLexed (tokens : List Token) : Type 0 where
  pub ordered : AreInOrder tokens
  pub ended : EndsOnce tokens
  pub fits : IntegersFit tokens
