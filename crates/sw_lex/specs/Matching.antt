-- Machinery, for private contracts alone: the lexeme that begins some bytes, as the code matches it, by functions. Lemmas
-- show that it is what the relations of `Strings`, `Comments` and `Lexemes` say.
use Rattle.std.specs.Prelude.{◌≡◌, ◌≤◌, ℕ, zero, suc, ◌+◌, ◌-◌, Bool, true, ◌&&◌, if◌then◌else◌, ◌==◌, nat_le, nat_lt, [], ◌∷◌, ◌++◌, take, drop, length, slice_index, Option, Some, None}
use Rattle.std.specs.Char.{encode_utf8}
use Rattle.std.specs.List.{prefix_len}
use Rattle.std.specs.Str.{IsUtf8}
use Rattle.sw_lex.specs.declared.bytes.Class.TheVariants as class
use Rattle.sw_lex.specs.declared.token.TokenKind.{TokenKind}
use Rattle.sw_lex.specs.declared.token.TokenKind.TheVariants as k
use Rattle.sw_lex.specs.declared.strings.Piece.{Piece}
use Rattle.sw_lex.specs.declared.strings.Piece.TheVariants.{Plain, Quote, Open, Invalid, LineEnd}
use Rattle.sw_lex.specs.declared.strings.StringSegment.{StringSegment}
use Rattle.sw_lex.specs.declared.strings.StringSegment.TheVariants as segment
use Rattle.sw_lex.specs.declared.lexemes.Lexeme.{Lexeme}
use Rattle.sw_lex.specs.declared.lexemes.Lexeme.TheVariants.{End, Gap, Token, Malformed, Unterminated}
use Rattle.sw_lex.specs.Bytes.{Text, is_in, has_line_end, line_feed, carriage_return, quote, left_paren, right_paren, star, slash, backslash}
use Rattle.sw_lex.specs.Tables.{Table, marks, kind_of_word, is_prefix_of, same_kind}
use Rattle.sw_lex.specs.Strings.{is_escape, escaped, hex_number, is_scalar}
use Rattle.sw_lex.specs.Lexemes.{has_three_quotes}

-- ---- pieces of strings

-- how many hexadecimal digits a text begins with
abbrev pub hex_len : Text → ℕ
hex_len bytes = prefix_len (is_in class.Hex) bytes

-- the piece whose first three bytes are `\u{`, by the bytes after them
abbrev pub unicode : Text → Piece
unicode bytes =
    if (nat_le 1 (hex_len bytes) && nat_le (hex_len bytes) 8)
    && (slice_index bytes (hex_len bytes) == 125 && is_scalar (hex_number 0 (take (hex_len bytes) bytes)))
    then Plain (hex_len bytes + 4) else Invalid

-- the piece whose first byte is `\`, by the bytes after it
abbrev pub escape : Text → Piece
escape bytes =
    if slice_index bytes 0 == left_paren then Open
    else (if is_escape (slice_index bytes 0) then Plain 2
    else (if slice_index bytes 0 == 117 && slice_index bytes 1 == 123 then unicode (drop 2 bytes)
    else Invalid))

-- The piece that begins here, of which a plain one has so many bytes. The first `valid` bytes are characters; a byte of
-- 128 and above is part of a character there, and nowhere else.
abbrev pub piece : ℕ → Text → Piece
piece valid [] = LineEnd
piece valid (byte ∷ bytes) =
    if byte == quote then Quote
    else (if byte == line_feed then LineEnd
    else (if byte == carriage_return then Invalid
    else (if byte == backslash then escape bytes
    else (if nat_le 128 byte && valid == 0 then Invalid
    else Plain 1))))

-- ---- the pieces up to the closing quote, up to `\(`, or up to where the string goes wrong

-- what the string is by its next piece, after so many bytes; `go` gives it after a plain piece of so many bytes
abbrev pub after_piece : Piece → ℕ → (ℕ → StringSegment) → StringSegment
after_piece (Plain size) before go = go size
after_piece Quote before go = segment.Closed (before + 1)
after_piece Open before go = segment.Opened (before + 2)
after_piece Invalid before go = segment.Malformed
after_piece LineEnd before go = segment.Unterminated

-- The pieces from here on, where `before` bytes of the string stand before, the first `valid` bytes are characters, and
-- the first `left` bytes belong to the piece before.
abbrev pub pieces : ℕ → ℕ → ℕ → Text → StringSegment
pieces left before valid [] = segment.Unterminated
pieces (suc left) before valid (byte ∷ bytes) = pieces left (before + 1) (valid - 1) bytes
pieces zero before valid (byte ∷ bytes) = after_piece (piece valid (byte ∷ bytes)) before (λ size. pieces (size - 1) (before + 1) (valid - 1) bytes)

-- This is what the pieces from here on begin with, and they go on after it.
abbrev pub GoesOn : ℕ → Text → Piece → Type 0
GoesOn valid bytes it = (before : ℕ) → pieces 0 before valid bytes ≡ after_piece it before (λ size. pieces 0 (before + size) (valid - size) (drop size bytes))

-- how many bytes a text begins with that are not of ASCII
abbrev pub high_len : Text → ℕ
high_len bytes = prefix_len (λ byte. nat_le 128 byte) bytes

-- a plain piece is made of characters
abbrev pub IsValidPiece : Text → Piece → Type 0
IsValidPiece bytes (Plain size) = IsUtf8 (take size bytes)
IsValidPiece bytes it = Unit {0}

-- ---- the text of a string

-- the UTF-8 bytes of a scalar value
abbrev pub scalar_text : ℕ → Text
scalar_text number = if is_scalar number then encode_utf8 number else []

-- the bytes that the plain piece stands for which begins here
abbrev pub piece_text : Text → Text
piece_text bytes =
    if slice_index bytes 0 == backslash then (if slice_index bytes 1 == 117 then scalar_text (hex_number 0 (take (hex_len (drop 3 bytes)) (drop 3 bytes))) else escaped (slice_index bytes 1) ∷ [])
    else slice_index bytes 0 ∷ []

-- how many bytes that piece has
abbrev pub piece_len : Text → ℕ
piece_len bytes = if slice_index bytes 0 == backslash then (if slice_index bytes 1 == 117 then hex_len (drop 3 bytes) + 4 else 2) else 1

-- the text that plain pieces stand for, where the first `left` bytes belong to the piece before
abbrev pub decoded : ℕ → Text → Text
decoded left [] = []
decoded (suc left) (byte ∷ bytes) = decoded left bytes
decoded zero (byte ∷ bytes) = piece_text (byte ∷ bytes) ++ decoded (piece_len (byte ∷ bytes) - 1) bytes

-- ---- bounds

-- the piece has at least one byte, and no more than these
abbrev pub IsPieceWithin : Piece → ℕ → Type 0
IsPieceWithin (Plain size) len = (1 ≤ size) × (size ≤ len)
IsPieceWithin Quote len = 1 ≤ len
IsPieceWithin Open len = 2 ≤ len
IsPieceWithin Invalid len = Unit {0}
IsPieceWithin LineEnd len = Unit {0}

-- the string has at least one byte, and no more than these
abbrev pub IsSegmentWithin : StringSegment → ℕ → Type 0
IsSegmentWithin (segment.Closed size) len = (1 ≤ size) × (size ≤ len)
IsSegmentWithin (segment.Opened size) len = (1 ≤ size) × (size ≤ len)
IsSegmentWithin segment.Malformed len = Unit {0}
IsSegmentWithin segment.Unterminated len = Unit {0}

-- ---- comments that nest

-- The length of a comment by the bytes from here on, where `before` bytes of it stand before, `depth` comments are
-- open, and the first `left` bytes belong to the mark before; none where it is not closed.
abbrev pub comment_len : ℕ → ℕ → ℕ → Text → Option ℕ
comment_len left depth before [] = None
comment_len (suc left) depth before (byte ∷ bytes) = comment_len left depth (before + 1) bytes
comment_len zero depth before (byte ∷ bytes) =
    if byte == star && slice_index bytes 0 == slash then (if depth == 1 then Some (before + 2) else comment_len 1 (depth - 1) (before + 1) bytes)
    else (if byte == slash && slice_index bytes 0 == star then comment_len 1 (depth + 1) (before + 1) bytes
    else comment_len 0 depth (before + 1) bytes)

-- the comment that begins with `/*` and has this length, inside of a string or not: a string ends on its line
abbrev pub block_comment : Bool → Text → Option ℕ → Lexeme
block_comment inside bytes None = Unterminated
block_comment inside bytes (Some size) = if inside && has_line_end (take size bytes) then Unterminated else Gap size

-- ---- strings

-- a string from its quote on: whole, or up to `\(`
abbrev pub quoted : StringSegment → Lexeme
quoted (segment.Closed size) = Token k.StringWhole size
quoted (segment.Opened size) = Token k.StringStart size
quoted segment.Malformed = Malformed
quoted segment.Unterminated = Unterminated

-- a string from the `)` on that closes a `\(` in it: to its end, or up to the next `\(`
abbrev pub resumed : StringSegment → Lexeme
resumed (segment.Closed size) = Token k.StringLast size
resumed (segment.Opened size) = Token k.StringMiddle size
resumed segment.Malformed = Malformed
resumed segment.Unterminated = Unterminated

-- ---- marks

-- the first mark of the table that the bytes begin with
abbrev pub first_mark : Table → Text → Lexeme
first_mark [] bytes = Malformed
first_mark (entry ∷ table) bytes = if is_prefix_of entry.0 bytes then Token entry.1 (length entry.0) else first_mark table bytes

abbrev pub mark : Text → Lexeme
mark bytes = first_mark marks bytes

-- no text of the table is empty
abbrev pub has_no_empty : Table → Bool
has_no_empty [] = true
has_no_empty (entry ∷ table) = nat_lt 0 (length entry.0) && has_no_empty table

abbrev pub IsTable : Table → Type 0
IsTable table = has_no_empty table ≡ true

-- ---- lexemes

-- the name or word of this length
abbrev pub named : Text → ℕ → Lexeme
named bytes size = Token (kind_of_word (take size bytes)) size

-- The lexeme that these bytes begin with, `inside` of a string or not, where `)` closes a `\(` or not. The first `valid`
-- bytes are characters.
unfoldable pub first_lexeme : Bool → Bool → ℕ → Text → Lexeme
first_lexeme inside closes valid bytes =
    let first = slice_index bytes 0 in
    let second = slice_index bytes 1 in
    if length bytes == 0 then (if inside then Unterminated else End)
    else (if first == line_feed && inside then Unterminated
    else (if is_in class.Space first then Gap 1
    else (if first == slash && second == slash then Gap (prefix_len (is_in class.Line) bytes)
    else (if first == slash && second == star then block_comment inside bytes (comment_len 0 1 2 (drop 2 bytes))
    else (if is_in class.NameStart first then named bytes (prefix_len (is_in class.Name) bytes)
    else (if is_in class.Digit first then Token k.Integer (prefix_len (is_in class.Integer) bytes)
    else (if first == quote then (if has_three_quotes bytes then Malformed else quoted (pieces 0 1 (valid - 1) (drop 1 bytes)))
    else (if first == right_paren && closes then resumed (pieces 0 1 (valid - 1) (drop 1 bytes))
    else mark bytes))))))))

-- a gap or a token has at least one byte, and no more than these
abbrev pub IsWithin : Lexeme → ℕ → Type 0
IsWithin End len = Unit {0}
IsWithin (Gap size) len = (1 ≤ size) × (size ≤ len)
IsWithin (Token kind size) len = (1 ≤ size) × (size ≤ len)
IsWithin Malformed len = Unit {0}
IsWithin Unterminated len = Unit {0}

-- ---- the spelling of a kind

-- the text of the kind in the table, if it stands there
abbrev pub text_in : Table → TokenKind → Option Text
text_in [] kind = None
text_in (entry ∷ table) kind = if same_kind entry.1 kind then Some entry.0 else text_in table kind
