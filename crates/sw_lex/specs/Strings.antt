-- The pieces of a string: the bytes of each, and the text that it stands for.
use Rattle.std.specs.Prelude.{◌≡◌, ◌≤◌, ◌⊎◌, ℕ, ◌+◌, ◌-◌, ◌*◌, Bool, true, not, ◌&&◌, ◌||◌, if◌then◌else◌, ◌==◌, nat_le, nat_lt, List, [], ◌∷◌, ◌++◌, length, codes}
use Rattle.std.specs.Char.{is_ascii_digit, encode_utf8}
use Rattle.std.specs.List.{list_all, list_any}
use Rattle.sw_lex.specs.declared.bytes.Class.TheVariants as class
use Rattle.sw_lex.specs.Bytes.{Text, is_in, tab, line_feed, carriage_return, quote, left_brace, right_brace, backslash}

-- ---- one piece

-- a byte of a character other than `"`, `\`, CR and LF, where the first `valid` bytes from it on are characters
abbrev pub is_plain : ℕ → ℕ → Bool
is_plain valid byte =
    not (byte == quote) && not (byte == backslash) && not (byte == carriage_return) && not (byte == line_feed)
    && (nat_lt byte 128 || nat_lt 0 valid)

-- the letters of the escapes `\n`, `\r`, `\t`, `\0`, `\"`, `\'` and `\\`
abbrev pub is_escape : ℕ → Bool
is_escape letter = list_any (λ known. known == letter) (codes "nrt0\"'\\")

-- the byte that such an escape stands for
abbrev pub escaped : ℕ → ℕ
escaped letter =
    if letter == 110 then line_feed
    else (if letter == 114 then carriage_return
    else (if letter == 116 then tab
    else (if letter == 48 then 0
    else letter)))

-- the value of a hexadecimal digit
abbrev pub hex_digit : ℕ → ℕ
hex_digit byte = if is_ascii_digit byte then byte - 48 else (if nat_le byte 70 then byte - 55 else byte - 87)

-- the number whose digits are those of `number`, then these
abbrev pub hex_number : ℕ → Text → ℕ
hex_number number [] = number
hex_number number (byte ∷ bytes) = hex_number (number * 16 + hex_digit byte) bytes

-- a Unicode scalar value: up to D7FF, or from E000 to 10FFFF
abbrev pub is_scalar : ℕ → Bool
is_scalar number = nat_lt number 55296 || (nat_le 57344 number && nat_lt number 1114112)

-- a byte of a character stands for itself
abbrev pub IsCharacter : ℕ → Text → Text → Type 0
IsCharacter valid bytes text = (byte : ℕ) × (bytes ≡ byte ∷ []) × (text ≡ byte ∷ []) × (is_plain valid byte ≡ true)

-- `\` and a letter
abbrev pub IsEscape : Text → Text → Type 0
IsEscape bytes text = (letter : ℕ) × (bytes ≡ backslash ∷ letter ∷ []) × (text ≡ escaped letter ∷ []) × (is_escape letter ≡ true)

-- `\u{H}` with 1 to 8 hexadecimal digits that name a Unicode scalar value
abbrev pub IsScalar : Text → Text → Type 0
IsScalar bytes text =
    (digits : Text)
    × (bytes ≡ backslash ∷ 117 ∷ left_brace ∷ (digits ++ right_brace ∷ []))
    × (text ≡ encode_utf8 (hex_number 0 digits))
    × (list_all (is_in class.Hex) digits ≡ true)
    × (1 ≤ length digits)
    × (length digits ≤ 8)
    × (is_scalar (hex_number 0 digits) ≡ true)

-- these bytes are one piece, which stands for the text
abbrev pub IsPiece : ℕ → Text → Text → Type 0
IsPiece valid bytes text = IsCharacter valid bytes text ⊎ IsEscape bytes text ⊎ IsScalar bytes text

-- ---- several pieces

-- the bytes of a piece, and the text that it stands for
pub record Part : Type 0 where
  pub bytes : Text
  pub text : Text

-- each is a piece
abbrev pub ArePieces : ℕ → List Part → Type 0
ArePieces valid [] = Unit {0}
ArePieces valid (part ∷ parts) = IsPiece valid part.bytes part.text × ArePieces (valid - length part.bytes) parts

-- all their bytes
abbrev pub bytes_of : List Part → Text
bytes_of [] = []
bytes_of (part ∷ parts) = part.bytes ++ bytes_of parts

-- the text that they stand for
abbrev pub text_of : List Part → Text
text_of [] = []
text_of (part ∷ parts) = part.text ++ text_of parts
