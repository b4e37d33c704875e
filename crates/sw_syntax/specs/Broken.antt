-- Tokens with a line break put before one of them.
use Rattle.std.specs.Prelude.{Bool, true, false, ℕ, zero, suc, List, [], ◌∷◌}
use Rattle.sw_lex.specs.declared.token.Token.{Token}

-- the token, with a line break before it
abbrev pub after_break : Token → Token
after_break token = record {
  kind = token.kind;
  text = token.text;
  span = token.span;
  first_on_line = true;
  touches = false;
  after_space = true;
}

-- the tokens, with a line break before the one at this place
abbrev pub broken_at : ℕ → List Token → List Token
broken_at at [] = []
broken_at zero (token ∷ tokens) = after_break token ∷ tokens
broken_at (suc at) (token ∷ tokens) = token ∷ broken_at at tokens

-- the token, with a line break before it or as it is
abbrev pub broken_if : Bool → Token → Token
broken_if true token = after_break token
broken_if false token = token
