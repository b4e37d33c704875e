-- Tokens of which no `?` touches another: the two would be one token.
use Rattle.std.specs.Prelude.{◌≡◌, false, List, [], ◌∷◌}
use Rattle.sw_lex.specs.declared.token.TokenKind.TheVariants as k
use Rattle.sw_lex.specs.declared.token.Token.{Token}

abbrev pub AreApart : List Token → Type 0
AreApart [] = Unit {0}
AreApart (token ∷ []) = Unit {0}
AreApart (token ∷ next ∷ tokens) = (token.kind ≡ k.Question → next.kind ≡ k.Question → next.touches ≡ false) × AreApart (next ∷ tokens)
