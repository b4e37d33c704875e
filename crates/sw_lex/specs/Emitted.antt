-- Machinery, for private contracts alone: the tokens of a cut, as the code writes them, by functions. Lemmas show that they
-- are those of `Tokens`.
use Rattle.std.specs.Prelude.{◌-◌, ℕ, List, [], ◌∷◌, ◌++◌, take, drop, length}
use Rattle.sw_base.specs.declared.ids.Span.{Span}
use Rattle.sw_lex.specs.declared.token.TokenKind.{TokenKind}
use Rattle.sw_lex.specs.declared.token.TokenKind.TheVariants as k
use Rattle.sw_lex.specs.declared.token.Token.{Token as SourceToken}
use Rattle.sw_lex.specs.declared.lexemes.Lexeme.{Lexeme}
use Rattle.sw_lex.specs.declared.lexemes.Lexeme.TheVariants.{Token}
use Rattle.sw_lex.specs.declared.emit.Here.{Here}
use Rattle.sw_lex.specs.Bytes.{Text}
use Rattle.sw_lex.specs.Lexemes.{size_of}
use Rattle.sw_lex.specs.Matching.{decoded}
use Rattle.sw_lex.specs.Tokens.{end_place, start, token_at, here_after}

-- a string's pieces without the first byte and the last so many
abbrev pub within : ℕ → Text → Text
within marks bytes = take (length bytes - marks - 1) (drop 1 bytes)

-- what the pieces of a string stand for, without its marks `"`, `\(` and `)`; of another token its bytes
abbrev pub token_text : TokenKind → Text → Text
token_text k.StringWhole bytes = decoded 0 (within 1 bytes)
token_text k.StringStart bytes = decoded 0 (within 2 bytes)
token_text k.StringMiddle bytes = decoded 0 (within 2 bytes)
token_text k.StringLast bytes = decoded 0 (within 1 bytes)
token_text kind bytes = bytes

-- the token that begins with these bytes, if one does
abbrev pub emission : Here → Text → Lexeme → List SourceToken
emission here bytes (Token kind size) = token_at here.place here kind (token_text kind (take size bytes)) ∷ []
emission here bytes lexeme = []

-- the tokens among these gaps and tokens, and one for the end of the source at its place
abbrev pub emitted : Span → Here → Text → List Lexeme → List SourceToken
emitted end here bytes [] = token_at end here k.End [] ∷ []
emitted end here bytes (item ∷ items) = emission here bytes item ++ emitted end (here_after here bytes item) (drop (size_of item) bytes) items

abbrev pub tokens_of : Text → List Lexeme → List SourceToken
tokens_of source items = emitted (end_place source) start source items
