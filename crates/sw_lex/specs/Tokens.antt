-- The tokens of a cut: their texts, their places, and what they take from what stands before them. `Here`, what a token
-- takes from what stands before it, is a type of the code.
use Rattle.std.specs.Prelude.{◌≡◌, ◌≢◌, ℕ, ◌+◌, ◌-◌, true, false, not, if◌then◌else◌, ◌==◌, List, [], ◌∷◌, ◌++◌, take, drop, length, slice_index}
use Rattle.std.specs.List.{AllPairs}
use Rattle.sw_base.specs.declared.ids.Span.{Span}
use Rattle.sw_rules.specs.Refusal.{StandsBefore}
use Rattle.sw_lex.specs.declared.bytes.Class.TheVariants as class
use Rattle.sw_lex.specs.declared.token.TokenKind.{TokenKind}
use Rattle.sw_lex.specs.declared.token.TokenKind.TheVariants as k
use Rattle.sw_lex.specs.declared.token.Token.{Token as SourceToken}
use Rattle.sw_lex.specs.declared.tokens.TokenRef.{TokenRef}
use Rattle.sw_lex.specs.declared.lexemes.Lexeme.{Lexeme}
use Rattle.sw_lex.specs.declared.lexemes.Lexeme.TheVariants.{End, Gap, Token}
use Rattle.sw_lex.specs.declared.emit.Here.{Here}
use Rattle.sw_lex.specs.Bytes.{Text, is_in, line_feed, quote, right_paren}
use Rattle.sw_lex.specs.Strings.{Part, ArePieces, bytes_of, text_of}
use Rattle.sw_lex.specs.Lexemes.{opening, size_of}
use Rattle.sw_lex.specs.Cut.{CutOf}

-- ---- places

-- where a source begins
abbrev pub origin : Span
origin = record { line = 1; column = 1 }

-- the place after one byte: after LF the next line's first column, after any other the next column
abbrev pub after_byte : Span → ℕ → Span
after_byte place byte = if byte == line_feed then record { line = place.line + 1; column = 1 } else record { line = place.line; column = place.column + 1 }

-- the place after these bytes
abbrev pub moved : Span → Text → Span
moved place [] = place
moved place (byte ∷ bytes) = moved (after_byte place byte) bytes

-- the place of the byte at an offset
abbrev pub place_at : Text → ℕ → Span
place_at source at = moved origin (take at source)

-- one column after the last byte, if there is one
abbrev pub end_place : Text → Span
end_place source =
    if length source == 0 then origin
    else (let last : Span = place_at source (length source - 1) in record { line = last.line; column = last.column + 1 })

-- ---- texts

-- what the pieces stand for between a string's first byte and what closes it
abbrev pub StandFor : ℕ → Text → ℕ → Text → Text → Type 0
StandFor mark closing valid bytes text =
    (parts : List Part) × (bytes ≡ mark ∷ (bytes_of parts ++ closing)) × ArePieces (valid - 1) parts × (text ≡ text_of parts)

-- the text of a token with these bytes: of a string what its pieces stand for, of any other its bytes
abbrev pub IsTextOf : TokenKind → ℕ → Text → Text → Type 0
IsTextOf k.StringWhole valid bytes text = StandFor quote (quote ∷ []) valid bytes text
IsTextOf k.StringStart valid bytes text = StandFor quote opening valid bytes text
IsTextOf k.StringMiddle valid bytes text = StandFor right_paren opening valid bytes text
IsTextOf k.StringLast valid bytes text = StandFor right_paren (quote ∷ []) valid bytes text
IsTextOf kind valid bytes text = text ≡ bytes

-- ---- what a token takes from what stands before it

-- no token stands before a source's first byte; lines count from 1
abbrev pub start : Here
start = record { place = origin; last_line = 0; touching = false; spaced = false }

-- the same after the lexeme that begins these bytes
abbrev pub here_after : Here → Text → Lexeme → Here
here_after here bytes (Gap size) = record { place = moved here.place (take size bytes); last_line = here.last_line; touching = false; spaced = is_in class.Space (slice_index bytes 0) }
here_after here bytes (Token kind size) = record { place = moved here.place (take size bytes); last_line = here.place.line; touching = true; spaced = false }
here_after here bytes lexeme = here

-- A token at a place. It is the first on its line where the last token before it stands on another, and it touches
-- that token where nothing stands between them.
abbrev pub token_at : Span → Here → TokenKind → Text → SourceToken
token_at place here kind text = record {
  kind = kind;
  text = text;
  span = place;
  first_on_line = not (here.last_line == place.line);
  touches = here.touching;
  after_space = here.spaced;
}

-- ---- the tokens

-- the tokens among these gaps and tokens, and one for the end of the source at its place
abbrev pub AreTokens : Span → Here → ℕ → Text → List Lexeme → List SourceToken → Type 0
AreTokens end here valid bytes [] tokens = tokens ≡ token_at end here k.End [] ∷ []
AreTokens end here valid bytes (Token kind size ∷ items) tokens =
    (text : Text) × (later : List SourceToken)
    × (tokens ≡ token_at here.place here kind text ∷ later)
    × IsTextOf kind valid (take size bytes) text
    × AreTokens end (here_after here bytes (Token kind size)) (valid - size) (drop size bytes) items later
AreTokens end here valid bytes (item ∷ items) tokens = AreTokens end (here_after here bytes item) (valid - size_of item) (drop (size_of item) bytes) items tokens

-- the last token, and no other, stands for the end of the source, and has no text
abbrev pub EndsOnce : List SourceToken → Type 0
EndsOnce [] = ⊥
EndsOnce (token ∷ []) = (token.kind ≡ k.End) × (token.text ≡ [])
EndsOnce (token ∷ next ∷ tokens) = (token.kind ≢ k.End) × EndsOnce (next ∷ tokens)

-- each token stands before those that follow it
abbrev pub AreInOrder : List SourceToken → Type 0
AreInOrder = AllPairs (λ token later. StandsBefore token.span later.span)

-- The source is cut into these tokens up to its end.
pub record CutsInto (source : Text) (tokens : List SourceToken) : Type 0 where
  pub whole : CutOf source
  pub to_end : whole.stop ≡ End
  pub same : AreTokens (end_place source) start whole.valid source whole.items tokens

-- ---- a token of a list

-- the token, whose text is lent
abbrev pub token_of : TokenRef → SourceToken
token_of token = record {
  text = token.text.now;
  span = token.span;
  kind = token.kind;
  first_on_line = token.first_on_line;
  touches = token.touches;
  after_space = token.after_space;
}
