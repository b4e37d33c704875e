-- Tokens whose texts are of their kinds.
use Rattle.std.specs.Prelude.{◌≢◌, List, [], ◌∷◌}
use Rattle.sw_lex.specs.declared.token.TokenKind.TheVariants as k
use Rattle.sw_lex.specs.declared.token.Token.{Token}
use Rattle.sw_layout.specs.Layouts.{Fits}

-- each but the end is one of its kind
abbrev pub AreFit : List Token → Type 0
AreFit [] = Unit {0}
AreFit (token ∷ tokens) = (token.kind ≢ k.End → Fits token.kind token.text) × AreFit tokens
