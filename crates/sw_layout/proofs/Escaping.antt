-- The pieces of an escaped text: one for each byte, which stands for it.
use Rattle.std.proofs.Common.{◌≡◌, ◌<◌, ◌≤◌, ℕ, zero, suc, ◌-◌, ◌==◌, Bool, true, false, cond, not, ◌&&◌, ◌||◌, List, [], ◌∷◌, ◌++◌, length, get_or, refl, ap, ap₂, sym, ◌∙◌, subst, arith, nat_lt, append_assoc, length-append}
use Rattle.std.proofs.lemmas.Bool.{and_parts, cases_lt}
use Rattle.std.proofs.lemmas.Grind.{common_steps}
use Rattle.std.proofs.lemmas.List.{append-nil}
use Rattle.std.proofs.lemmas.Str.{IsUtf8-append, IsUtf8-nil, IsUtf8-encode, IsUtf8-from_ascii, encode_ascii, inside_one}
use Rattle.std.specs.List.{list_all}
use Rattle.std.specs.Prelude.{slice_index}
use Rattle.std.specs.Str.{IsUtf8}
use lib.Utf8.{scalar, scalars, encode, encodes}
use mathlib.Core.Logic.{inl, inr}
use Rattle.sw_lex.specs.Bytes.{Text}
use Rattle.sw_lex.specs.Lexemes.{IsString, has_three_quotes}
use Rattle.sw_lex.specs.Strings.{Part, IsPiece, ArePieces, bytes_of, text_of, is_plain, is_escape, escaped}
use Rattle.sw_lex.specs.Tokens.{StandFor}
use Rattle.sw_layout.specs.Words.{escape, escapes}
use Rattle.sw_layout.proofs.Starts.{equal}
use Rattle.sw_layout.proofs.MarkTable.{both}

-- ---- one byte

pick : (P : Text → Type 0) (t : Bool) (a b : Text) → (t ≡ true → P a) → (t ≡ false → P b) → P (cond t a b)
pick P true a b f g = f refl
pick P false a b f g = g refl

-- how a byte is written, by cases
pub escape_is :
    (P : Text → Type 0) (byte : ℕ)
    → (byte ≡ 10 → P (92 ∷ 110 ∷ [])) → (byte ≡ 13 → P (92 ∷ 114 ∷ [])) → (byte ≡ 9 → P (92 ∷ 116 ∷ [])) → (byte ≡ 0 → P (92 ∷ 48 ∷ []))
    → (byte ≡ 34 → P (92 ∷ byte ∷ [])) → (byte ≡ 92 → P (92 ∷ byte ∷ []))
    → ((byte == 10) ≡ false → (byte == 13) ≡ false → (byte == 34) ≡ false → (byte == 92) ≡ false → P (byte ∷ []))
    → P (escape byte)
escape_is P byte line return tabbed null quoted slashed plain =
    pick P (byte == 10) (92 ∷ 110 ∷ []) _ (λ e. line (equal byte 10 e)) (λ no_line.
    pick P (byte == 13) (92 ∷ 114 ∷ []) _ (λ e. return (equal byte 13 e)) (λ no_return.
    pick P (byte == 9) (92 ∷ 116 ∷ []) _ (λ e. tabbed (equal byte 9 e)) (λ _.
    pick P (byte == 0) (92 ∷ 48 ∷ []) _ (λ e. null (equal byte 0 e)) (λ _.
    pick P (byte == 34 || byte == 92) (92 ∷ byte ∷ []) (byte ∷ []) (λ e. either (byte == 34) (byte == 92) refl refl e)
    (λ e. plain no_line no_return (neither (byte == 34) (byte == 92) e).0 (neither (byte == 34) (byte == 92) e).1)))))
  where
    neither : (s t : Bool) → (s || t) ≡ false → (s ≡ false) × (t ≡ false)
    neither false false h = (refl, refl)
    neither true t h = absurd (cc)
    neither false true h = absurd (cc)

    either : (s t : Bool) → (byte == 34) ≡ s → (byte == 92) ≡ t → (s || t) ≡ true → P (92 ∷ byte ∷ [])
    either true t e f h = quoted (equal byte 34 e)
    either false true e f h = slashed (equal byte 92 f)
    either false false e f h = absurd (cc)

letter_piece : (valid byte letter : ℕ) → is_escape letter ≡ true → byte ≡ escaped letter → IsPiece valid (92 ∷ letter ∷ []) (byte ∷ [])
letter_piece valid byte letter known e = inr (inl (letter, refl, ap (λ b. b ∷ []) e, known))

plain_is : (valid byte : ℕ) → 1 ≤ valid → (byte == 10) ≡ false → (byte == 13) ≡ false → (byte == 34) ≡ false → (byte == 92) ≡ false → is_plain valid byte ≡ true
plain_is valid byte some a b c d = grind (arith, common_steps)

one_piece : (valid byte : ℕ) → 1 ≤ valid → IsPiece valid (escape byte) (byte ∷ [])
one_piece valid byte some =
    escape_is (λ u. IsPiece valid u (byte ∷ [])) byte
    (letter_piece valid byte 110 refl)
    (letter_piece valid byte 114 refl)
    (letter_piece valid byte 116 refl)
    (letter_piece valid byte 48 refl)
    (λ e. letter_piece valid byte byte (ap is_escape e) (e ∙ sym (ap escaped e)))
    (λ e. letter_piece valid byte byte (ap is_escape e) (e ∙ sym (ap escaped e)))
    (λ line return quote slash. inl (byte, refl, refl, plain_is valid byte some line return quote slash))

escape_some : (byte : ℕ) → 1 ≤ length (escape byte)
escape_some byte = escape_is (λ u. 1 ≤ length u) byte (λ _. omega arith) (λ _. omega arith) (λ _. omega arith) (λ _. omega arith) (λ _. omega arith) (λ _. omega arith) (λ a b c d. omega arith)

-- ---- all bytes

abbrev pub parts_of : Text → List Part
parts_of [] = []
parts_of (byte ∷ bytes) = record { bytes = escape byte; text = byte ∷ [] } ∷ parts_of bytes

pub parts_bytes : (text : Text) → bytes_of (parts_of text) ≡ escapes text
parts_bytes [] = refl
parts_bytes (byte ∷ text) = ap (λ u. escape byte ++ u) (parts_bytes text)

parts_text : (text : Text) → text_of (parts_of text) ≡ text
parts_text [] = refl
parts_text (byte ∷ text) = ap (λ u. byte ∷ u) (parts_text text)

pub are_pieces : (valid : ℕ) (text : Text) → length (escapes text) ≤ valid → ArePieces valid (parts_of text)
are_pieces valid [] h = tt
are_pieces valid (byte ∷ text) h =
    let len = length-append (escape byte) (escapes text) in
    let some = escape_some byte in
    (one_piece valid byte (omega (arith, h, len, some)), are_pieces (valid - length (escape byte)) text (omega (arith, h, len)))

-- a string with these pieces
pub string_form : (mark valid : ℕ) (closing text rest : Text) → length (escapes text) ≤ valid - 1 → IsString mark closing valid ((mark ∷ (escapes text ++ closing)) ++ rest) (length (mark ∷ (escapes text ++ closing)))
string_form mark valid closing text rest h = (
  parts_of text,
  rest,
  ap (λ (u : Text). mark ∷ u) (append_assoc (escapes text) closing rest ∙ ap (λ (u : Text). u ++ (closing ++ rest)) (sym (parts_bytes text))),
  are_pieces (valid - 1) text h,
  omega (arith, length-append (escapes text) closing, ap length (parts_bytes text)),
)

-- they stand for the text
pub stands_for : (mark valid : ℕ) (closing text : Text) → length (escapes text) ≤ valid - 1 → StandFor mark closing valid (mark ∷ (escapes text ++ closing)) text
stands_for mark valid closing text h = (
  parts_of text,
  ap (λ (u : Text). mark ∷ (u ++ closing)) (sym (parts_bytes text)),
  are_pieces (valid - 1) text h,
  sym (parts_text text),
)

-- no second quote follows the first where some byte is written
pub no_quotes : (byte : ℕ) (text closing rest : Text) → has_three_quotes ((34 ∷ (escapes (byte ∷ text) ++ closing)) ++ rest) ≡ false
no_quotes byte text closing rest =
    escape_is (λ u. has_three_quotes ((34 ∷ ((u ++ escapes text) ++ closing)) ++ rest) ≡ false) byte
    (λ _. refl)
    (λ _. refl)
    (λ _. refl)
    (λ _. refl)
    (λ _. refl)
    (λ _. refl)
    (λ line return quote slash. ap (λ t. t && slice_index ((34 ∷ (((byte ∷ []) ++ escapes text) ++ closing)) ++ rest) 2 == 34) quote)

-- ---- no line ends in it

abbrev pub has_no_line : Text → Bool
has_no_line text = list_all (λ byte. not (byte == 10)) text

pub no_line_append : (prefix back : Text) → has_no_line prefix ≡ true → has_no_line back ≡ true → has_no_line (prefix ++ back) ≡ true
no_line_append [] back h g = g
no_line_append (byte ∷ prefix) back h g =
    let two = both (not (byte == 10)) (has_no_line prefix) h in
    ap (λ t. t && has_no_line (prefix ++ back)) two.0 ∙ no_line_append prefix back two.1 g

escape_no_line : (byte : ℕ) → has_no_line (escape byte) ≡ true
escape_no_line byte =
    escape_is (λ u. has_no_line u ≡ true) byte
    (λ _. refl)
    (λ _. refl)
    (λ _. refl)
    (λ _. refl)
    (λ e. ap (λ b. has_no_line (92 ∷ b ∷ [])) e)
    (λ e. ap (λ b. has_no_line (92 ∷ b ∷ [])) e)
    (λ line return quote slash. ap (λ t. not t && true) line)

pub escapes_no_line : (text : Text) → has_no_line (escapes text) ≡ true
escapes_no_line [] = refl
escapes_no_line (byte ∷ text) = no_line_append (escape byte) (escapes text) (escape_no_line byte) (escapes_no_line text)

-- ---- it is UTF-8

abbrev pub is_low : ℕ → Bool
is_low byte = nat_lt byte 128

low_at : (text : Text) (i : ℕ) → list_all is_low text ≡ true → slice_index text i < 128
low_at [] i h = omega arith
low_at (byte ∷ text) zero h = let two = both (is_low byte) (list_all is_low text) h in one byte two.0
  where
    one : (byte : ℕ) → nat_lt byte 128 ≡ true → byte < 128
    one byte h = grind (arith, common_steps)
low_at (byte ∷ text) (suc i) h = low_at text i (both (is_low byte) (list_all is_low text) h).1

pub low_utf8 : (text : Text) → list_all is_low text ≡ true → IsUtf8 text
low_utf8 text h = IsUtf8-from_ascii text (λ i. low_at text i h)

escape_low : (byte : ℕ) → byte < 128 → list_all is_low (escape byte) ≡ true
escape_low byte low =
    let small : is_low byte ≡ true = grind (arith, common_steps) in
    let one : list_all is_low (byte ∷ []) ≡ true = ap (λ t. t && true) small in
    escape_is (λ u. list_all is_low u ≡ true) byte (λ _. refl) (λ _. refl) (λ _. refl) (λ _. refl) (λ _. one) (λ _. one) (λ a b c d. one)

escape_high : (byte : ℕ) → 128 ≤ byte → escape byte ≡ byte ∷ []
escape_high byte high =
    escape_is (λ u. u ≡ byte ∷ []) byte
    (λ e. absurd (omega arith))
    (λ e. absurd (omega arith))
    (λ e. absurd (omega arith))
    (λ e. absurd (omega arith))
    (λ e. absurd (omega arith))
    (λ e. absurd (omega arith))
    (λ a b c d. refl)

escapes_append : (prefix back : Text) → escapes (prefix ++ back) ≡ escapes prefix ++ escapes back
escapes_append [] back = refl
escapes_append (byte ∷ prefix) back = ap (λ u. escape byte ++ u) (escapes_append prefix back) ∙ sym (append_assoc (escape byte) (escapes prefix) (escapes back))

escapes_high : (text : Text) → ((i : ℕ) → i < length text → 128 ≤ get_or text i 0) → escapes text ≡ text
escapes_high [] h = refl
escapes_high (byte ∷ text) h =
    let high : 128 ≤ byte = h 0 (omega arith) in
    ap₂ (λ (a b : Text). a ++ b) (escape_high byte high) (escapes_high text (λ i below. h (suc i) (omega arith)))

one_character : (code : ℕ) → scalar code ≡ true → IsUtf8 (escapes (encode code))
one_character code ok = elim (cases_lt code 128) [
  | inl small ↦ rw (encode_ascii code small, append-nil) (low_utf8 (escape code) (escape_low code small))
  | inr big ↦
      let high : (i : ℕ) → i < length (encode code) → 128 ≤ get_or (encode code) i 0 = λ i below. elim (cases_lt (get_or (encode code) i 0) 128) [
        | inl low ↦ absurd (omega (arith, inside_one code [] (encode code) i (sym (append-nil _)) below low))
        | inr h ↦ h
      ] in
      subst IsUtf8 (sym (escapes_high (encode code) high)) (IsUtf8-encode code ok)
]

all_characters : (codes : List ℕ) → scalars codes ≡ true → IsUtf8 (escapes (encodes codes))
all_characters [] e = IsUtf8-nil
all_characters (code ∷ codes) e =
    let two = and_parts _ _ e in
    subst IsUtf8 (sym (escapes_append (encode code) (encodes codes))) (IsUtf8-append _ _ (one_character code two.0) (all_characters codes two.1))

pub escapes_utf8 : (text : Text) → IsUtf8 text → IsUtf8 (escapes text)
escapes_utf8 text u = subst (λ (v : Text). IsUtf8 (escapes v)) u.1.1 (all_characters u.0 u.1.0)
