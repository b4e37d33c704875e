-- The lexeme that begins some bytes of a source: the end, white space or a comment, a token, or what is malformed or
-- unterminated. The kinds of lexemes and tokens are types of the code.
use Rattle.std.specs.Prelude.{◌≡◌, ◌≤◌, ◌⊎◌, ℕ, ◌+◌, ◌-◌, Bool, true, false, ◌&&◌, ◌==◌, List, [], ◌∷◌, ◌++◌, take, length, slice_index}
use Rattle.std.specs.List.{prefix_len}
use Rattle.sw_lex.specs.declared.bytes.Class.TheVariants as class
use Rattle.sw_lex.specs.declared.token.TokenKind.{TokenKind}
use Rattle.sw_lex.specs.declared.token.TokenKind.TheVariants as k
use Rattle.sw_lex.specs.declared.lexemes.Lexeme.{Lexeme}
use Rattle.sw_lex.specs.declared.lexemes.Lexeme.TheVariants.{End, Gap, Token, Malformed, Unterminated}
use Rattle.sw_lex.specs.Bytes.{Text, is_in, has_line_end, line_feed, quote, left_paren, right_paren, star, slash, backslash}
use Rattle.sw_lex.specs.Tables.{kind_of_word, marks, IsListed, is_prefix_of}
use Rattle.sw_lex.specs.Strings.{Part, ArePieces, bytes_of}
use Rattle.sw_lex.specs.Comments.{Closes}

-- the first byte, and the second; 0 where there is none
abbrev pub first : Text → ℕ
first bytes = slice_index bytes 0

abbrev pub second : Text → ℕ
second bytes = slice_index bytes 1

-- no byte is left, or a line ends here
abbrev pub IsLineEnd : Text → Type 0
IsLineEnd [] = Unit {0}
IsLineEnd (byte ∷ bytes) = byte ≡ line_feed

-- ---- white space and comments

-- a byte of white space; inside of a string no line's end
abbrev pub IsSpace : Bool → Text → ℕ → Type 0
IsSpace inside bytes size = (size ≡ 1) × ((first bytes == line_feed && inside) ≡ false) × (is_in class.Space (first bytes) ≡ true)

abbrev pub is_line_comment : Text → Bool
is_line_comment bytes = first bytes == slash && second bytes == slash

abbrev pub is_block_comment : Text → Bool
is_block_comment bytes = first bytes == slash && second bytes == star

-- `//` to the end of the line
abbrev pub IsLineComment : Text → ℕ → Type 0
IsLineComment bytes size = (is_line_comment bytes ≡ true) × (size ≡ prefix_len (is_in class.Line) bytes)

-- `/*` to its `*/`, inside of a string on one line
abbrev pub IsBlockComment : Bool → Text → ℕ → Type 0
IsBlockComment inside bytes size =
    (following : Text) × (rest : Text)
    × (bytes ≡ slash ∷ star ∷ following)
    × Closes following rest
    × (size + length rest ≡ length bytes)
    × ((inside && has_line_end (take size bytes)) ≡ false)

-- ---- tokens

-- the longest run of letters, digits and `_`: a reserved word, or a name
abbrev pub IsWord : Text → TokenKind → ℕ → Type 0
IsWord bytes kind size =
    (is_in class.NameStart (first bytes) ≡ true) × (size ≡ prefix_len (is_in class.Name) bytes) × (kind ≡ kind_of_word (take size bytes))

-- the longest run of digits and `_`
abbrev pub IsInteger : Text → TokenKind → ℕ → Type 0
IsInteger bytes kind size =
    (is_in class.Digit (first bytes) ≡ true) × (size ≡ prefix_len (is_in class.Integer) bytes) × (kind ≡ k.Integer)

-- a byte, pieces, and what closes them
abbrev pub IsString : ℕ → Text → ℕ → Text → ℕ → Type 0
IsString mark closing valid bytes size =
    (parts : List Part) × (rest : Text)
    × (bytes ≡ mark ∷ (bytes_of parts ++ (closing ++ rest)))
    × ArePieces (valid - 1) parts
    × (size ≡ 1 + length (bytes_of parts) + length closing)

-- a byte, pieces, and there the line or the source ends
abbrev pub IsUnterminatedString : ℕ → ℕ → Text → Type 0
IsUnterminatedString mark valid bytes =
    (parts : List Part) × (rest : Text) × (bytes ≡ mark ∷ (bytes_of parts ++ rest)) × ArePieces (valid - 1) parts × IsLineEnd rest

-- three quotes in a row begin no token
abbrev pub has_three_quotes : Text → Bool
has_three_quotes bytes = first bytes == quote && second bytes == quote && slice_index bytes 2 == quote

-- `\(`
abbrev pub opening : Text
opening = backslash ∷ left_paren ∷ []

-- a string from its quote on: whole, or up to `\(`
abbrev pub IsQuoted : ℕ → Text → TokenKind → ℕ → Type 0
IsQuoted valid bytes kind size =
    (has_three_quotes bytes ≡ false)
    × (((kind ≡ k.StringWhole) × IsString quote (quote ∷ []) valid bytes size) ⊎ ((kind ≡ k.StringStart) × IsString quote opening valid bytes size))

-- a string from the `)` on that closes a `\(` in it: to its end, or up to the next `\(`
abbrev pub IsResumed : ℕ → Text → TokenKind → ℕ → Type 0
IsResumed valid bytes kind size =
    ((kind ≡ k.StringLast) × IsString right_paren (quote ∷ []) valid bytes size)
    ⊎ ((kind ≡ k.StringMiddle) × IsString right_paren opening valid bytes size)

-- the longest mark of the table that begins here, where no comment does; a `)` that closes a `\(` is none
abbrev pub IsMark : Bool → Text → TokenKind → ℕ → Type 0
IsMark closes bytes kind size =
    (text : Text)
    × IsListed marks text kind
    × (is_prefix_of text bytes ≡ true)
    × (size ≡ length text)
    × ((other : Text) (its : TokenKind) → IsListed marks other its → is_prefix_of other bytes ≡ true → length other ≤ size)
    × (is_line_comment bytes ≡ false)
    × (is_block_comment bytes ≡ false)
    × ((first bytes == right_paren && closes) ≡ false)

-- ---- lexemes

-- These bytes begin with the lexeme, which has a form. `inside` says whether they stand within a string, and `closes`
-- whether a `)` closes a `\(` of it. The first `valid` bytes are characters. Unterminated are a string whose line ends, a
-- comment that does not end (inside of a string, on its line), and a string whose pieces reach the end of the line.
abbrev pub HasForm : Bool → Bool → ℕ → Text → Lexeme → Type 0
HasForm inside closes valid bytes End = (inside ≡ false) × (bytes ≡ [])
HasForm inside closes valid bytes (Gap size) = IsSpace inside bytes size ⊎ IsLineComment bytes size ⊎ IsBlockComment inside bytes size
HasForm inside closes valid bytes (Token kind size) =
    IsWord bytes kind size
    ⊎ IsInteger bytes kind size
    ⊎ IsQuoted valid bytes kind size
    ⊎ ((closes ≡ true) × IsResumed valid bytes kind size)
    ⊎ IsMark closes bytes kind size
HasForm inside closes valid bytes Unterminated =
    ((inside ≡ true) × IsLineEnd bytes)
    ⊎ ((is_block_comment bytes ≡ true) × ((size : ℕ) → IsBlockComment inside bytes size → ⊥))
    ⊎ ((has_three_quotes bytes ≡ false) × IsUnterminatedString quote valid bytes)
    ⊎ ((closes ≡ true) × IsUnterminatedString right_paren valid bytes)
HasForm inside closes valid bytes Malformed = ⊥

-- These bytes begin with the lexeme; with a malformed one where none that has a form begins.
abbrev pub BeginsWith : Bool → Bool → ℕ → Text → Lexeme → Type 0
BeginsWith inside closes valid bytes Malformed = (lexeme : Lexeme) → HasForm inside closes valid bytes lexeme → ⊥
BeginsWith inside closes valid bytes lexeme = HasForm inside closes valid bytes lexeme

-- how many bytes it has
abbrev pub size_of : Lexeme → ℕ
size_of End = 0
size_of (Gap size) = size
size_of (Token kind size) = size
size_of Malformed = 0
size_of Unterminated = 0

-- it is no gap and no token
abbrev pub IsStop : Lexeme → Type 0
IsStop End = Unit {0}
IsStop Malformed = Unit {0}
IsStop Unterminated = Unit {0}
IsStop lexeme = ⊥
