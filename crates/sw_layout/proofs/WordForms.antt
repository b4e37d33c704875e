-- A word's spelling has the form of a token of its kind, after which a byte stands that may follow it.
use Rattle.std.proofs.Common.{◌≡◌, ◌<◌, ◌≤◌, ℕ, ◌+◌, ◌-◌, ◌==◌, Bool, true, false, cond, not, ◌&&◌, ◌||◌, [], ◌∷◌, ◌++◌, length, refl, ap, sym, ◌∙◌, arith, nat_lt, length-append}
use Rattle.std.proofs.Math.Seq.{take-append_seam}
use Rattle.std.proofs.lemmas.Grind.{common_steps}
use Rattle.std.proofs.lemmas.Str.{IsUtf8-append}
use Rattle.std.specs.List.{prefix_len, list_all}
use Rattle.std.specs.Prelude.{slice_index}
use Rattle.std.specs.Str.{IsUtf8}
use mathlib.Core.Logic.{inl, inr}
use Rattle.sw_lex.specs.declared.bytes.Class.TheVariants as class
use Rattle.sw_lex.specs.declared.lexemes.Lexeme.TheVariants.{Token}
use Rattle.sw_lex.specs.declared.token.TokenKind.{TokenKind}
use Rattle.sw_lex.specs.declared.token.TokenKind.TheVariants as k
use Rattle.sw_lex.specs.Bytes.{Text, is_in}
use Rattle.sw_lex.specs.Lexemes.{first, opening, has_three_quotes, is_line_comment, is_block_comment, HasForm}
use Rattle.sw_lex.specs.Tables.{marks, kind_of_word, is_prefix_of, is_same_text, IsListed}
use Rattle.sw_lex.specs.Tokens.{IsTextOf}
use Rattle.sw_layout.specs.Words.{escapes, spelling}
use Rattle.sw_layout.specs.Layouts.{Fits, IsDigits, IsWord, is_resumed}
use Rattle.sw_layout.proofs.Starts.{follows_most, may_follow, most_follow, starts, is_followed_by_most}
use Rattle.sw_layout.proofs.MarkTable.{both, is_comment, longest, mark_bytes, mark_no_comment, mark_starts, paren_mark, same_self, word_followed, word_starts, is_mark_byte}
use Rattle.sw_layout.proofs.Escaping.{escapes_no_line, escapes_utf8, has_no_line, is_low, low_utf8, no_line_append, no_quotes, stands_for, string_form}

-- ---- names, reserved words and integers

run_to : (p : ℕ → Bool) (prefix rest : Text) (byte : ℕ) → list_all p prefix ≡ true → p byte ≡ false → prefix_len p (prefix ++ byte ∷ rest) ≡ length prefix
run_to p [] rest byte h e = ap (λ t. cond t (1 + prefix_len p rest) 0) e
run_to p (one ∷ prefix) rest byte h e =
    let two = both (p one) (list_all p prefix) h in
    let more = run_to p prefix rest byte two.1 e in
    ap (λ t. cond t (1 + prefix_len p (prefix ++ byte ∷ rest)) 0) two.0 ∙ omega (arith, more)

most_no_name : (byte : ℕ) → follows_most byte ≡ true → is_in class.Name byte ≡ false
most_no_name byte h = grind (arith, common_steps)

most_no_digit : (byte : ℕ) → follows_most byte ≡ true → is_in class.Integer byte ≡ false
most_no_digit byte h = grind (arith, common_steps)

most_no_quote : (byte : ℕ) → follows_most byte ≡ true → (byte == 34) ≡ false
most_no_quote byte h = grind (arith, common_steps)

start_name : (byte : ℕ) → is_in class.NameStart byte ≡ true → is_in class.Name byte ≡ true
start_name byte h = grind (arith, common_steps)

digit_integer : (byte : ℕ) → is_in class.Digit byte ≡ true → is_in class.Integer byte ≡ true
digit_integer byte h = grind (arith, common_steps)

-- all bytes of a word are of its class
name_bytes : (kind : TokenKind) (text : Text) → IsWord kind text → list_all (is_in class.Name) text ≡ true
name_bytes kind [] w = absurd w
name_bytes kind (byte ∷ text) w = ap (λ t. t && list_all (is_in class.Name) text) (start_name byte w.0) ∙ w.1

digit_bytes : (text : Text) → IsDigits text → list_all (is_in class.Integer) text ≡ true
digit_bytes [] d = absurd d
digit_bytes (byte ∷ text) d = ap (λ t. t && list_all (is_in class.Integer) text) (digit_integer byte d.0) ∙ d.1

-- a word is followed as most are
word_most : (kind : TokenKind) (text : Text) (byte : ℕ) → IsWord kind text → may_follow kind byte ≡ true → follows_most byte ≡ true
word_most kind [] byte w f = absurd w
word_most kind (one ∷ text) byte w f = most_follow kind byte (ap is_followed_by_most w.2 ∙ word_followed (one ∷ text)) f

word_form : (inside closing : Bool) (valid : ℕ) (kind : TokenKind) (text rest : Text) (byte : ℕ) → IsWord kind text → may_follow kind byte ≡ true → HasForm inside closing valid (text ++ byte ∷ rest) (Token kind (length text))
word_form inside closing valid kind [] rest byte w f = absurd w
word_form inside closing valid kind (one ∷ text) rest byte w f =
    let all = name_bytes kind (one ∷ text) w in
    let none = most_no_name byte (word_most kind (one ∷ text) byte w f) in
    inl (w.0, sym (run_to (is_in class.Name) (one ∷ text) rest byte all none), w.2 ∙ ap kind_of_word (sym (take-append_seam (one ∷ text) (byte ∷ rest))))

integer_form : (inside closing : Bool) (valid : ℕ) (text rest : Text) (byte : ℕ) → IsDigits text → follows_most byte ≡ true → HasForm inside closing valid (text ++ byte ∷ rest) (Token k.Integer (length text))
integer_form inside closing valid [] rest byte d f = absurd d
integer_form inside closing valid (one ∷ text) rest byte d f =
    inr (inl (d.0, sym (run_to (is_in class.Integer) (one ∷ text) rest byte (digit_bytes (one ∷ text) d) (most_no_digit byte f)), refl))

-- ---- marks

first_of : (text rest : Text) → nat_lt 0 (length text) ≡ true → slice_index (text ++ rest) 0 ≡ slice_index text 0
first_of [] rest h = absurd (let none : nat_lt 0 (length {A = ℕ} []) ≡ false = refl in cc)
first_of (byte ∷ text) rest h = refl

no_line_comment : (bytes : Text) → is_comment bytes ≡ false → is_line_comment bytes ≡ false
no_line_comment bytes h = go (slice_index bytes 0 == 47) (slice_index bytes 1 == 47) (slice_index bytes 1 == 42) h
  where
    go : (s t u : Bool) → (s && (t || u)) ≡ false → (s && t) ≡ false
    go false t u h = refl
    go true false u h = refl
    go true true u h = absurd (cc)

no_block_comment : (bytes : Text) → is_comment bytes ≡ false → is_block_comment bytes ≡ false
no_block_comment bytes h = go (slice_index bytes 0 == 47) (slice_index bytes 1 == 47) (slice_index bytes 1 == 42) h
  where
    go : (s t u : Bool) → (s && (t || u)) ≡ false → (s && u) ≡ false
    go false t u h = refl
    go true t false h = refl
    go true false true h = absurd (cc)
    go true true true h = absurd (cc)

mark_form : (inside closing : Bool) (valid : ℕ) (kind : TokenKind) (text rest : Text) (byte : ℕ) → IsListed marks text kind → may_follow kind byte ≡ true → (kind ≡ k.RightParen → closing ≡ false)
    → HasForm inside closing valid (text ++ byte ∷ rest) (Token kind (length text))
mark_form inside closing valid kind text rest byte l f closed =
    let begins : is_prefix_of text (text ++ byte ∷ rest) ≡ true = ap (λ (u : Text). is_same_text u text) (take-append_seam text (byte ∷ rest)) ∙ same_self text in
    let none = mark_no_comment text rest kind byte l f in
    inr (inr (inr (inr (
      text,
      l,
      begins,
      refl,
      λ other its o b. longest text rest other kind its byte l f o b,
      no_line_comment (text ++ byte ∷ rest) none,
      no_block_comment (text ++ byte ∷ rest) none,
      paren (first text == 41) refl,
    ))))
  where
    paren : (t : Bool) → (first text == 41) ≡ t → (first (text ++ byte ∷ rest) == 41 && closing) ≡ false
    paren true e = let shut : closing ≡ false = closed (paren_mark text kind l e) in ap (λ t. first (text ++ byte ∷ rest) == 41 && t) shut ∙ and_none (first (text ++ byte ∷ rest) == 41)
      where
        and_none : (t : Bool) → (t && false) ≡ false
        and_none true = refl
        and_none false = refl
    paren false e = ap (λ n. n == 41 && closing) (first_of text (byte ∷ rest) (mark_bytes text kind l).0) ∙ ap (λ t. t && closing) e

-- ---- strings

whole_no_quotes : (text rest : Text) (byte : ℕ) → follows_most byte ≡ true → has_three_quotes ((34 ∷ (escapes text ++ 34 ∷ [])) ++ byte ∷ rest) ≡ false
whole_no_quotes [] rest byte f = most_no_quote byte f
whole_no_quotes (one ∷ text) rest byte f = no_quotes one text (34 ∷ []) (byte ∷ rest)

start_no_quotes : (text rest : Text) → has_three_quotes ((34 ∷ (escapes text ++ opening)) ++ rest) ≡ false
start_no_quotes [] rest = refl
start_no_quotes (one ∷ text) rest = no_quotes one text opening rest

-- the pieces are fewer bytes than the string
fewer : (mark valid : ℕ) (closing text : Text) → length (mark ∷ (escapes text ++ closing)) ≤ valid → length (escapes text) ≤ valid - 1
fewer mark valid closing text h = omega (arith, h, length-append (escapes text) closing)

-- ---- all of them

-- where this many of the bytes are characters
pub has_form : (inside closing : Bool) (valid : ℕ) (kind : TokenKind) (text rest : Text) (byte : ℕ) → Fits kind text → may_follow kind byte ≡ true → (is_resumed kind ≡ true → closing ≡ true) → (kind ≡ k.RightParen → closing ≡ false) → length (spelling kind text) ≤ valid
    → HasForm inside closing valid (spelling kind text ++ byte ∷ rest) (Token kind (length (spelling kind text)))
has_form inside closing valid k.Integer text rest byte fits f resumed closed h = integer_form inside closing valid text rest byte fits f
has_form inside closing valid k.StringWhole text rest byte fits f resumed closed h =
    inr (inr (inl (whole_no_quotes text rest byte f, inl (refl, string_form 34 valid (34 ∷ []) text (byte ∷ rest) (fewer 34 valid (34 ∷ []) text h)))))
has_form inside closing valid k.StringStart text rest byte fits f resumed closed h =
    inr (inr (inl (start_no_quotes text (byte ∷ rest), inr (refl, string_form 34 valid opening text (byte ∷ rest) (fewer 34 valid opening text h)))))
has_form inside closing valid k.StringMiddle text rest byte fits f resumed closed h =
    inr (inr (inr (inl (resumed refl, inr (refl, string_form 41 valid opening text (byte ∷ rest) (fewer 41 valid opening text h))))))
has_form inside closing valid k.StringLast text rest byte fits f resumed closed h =
    inr (inr (inr (inl (resumed refl, inl (refl, string_form 41 valid (34 ∷ []) text (byte ∷ rest) (fewer 41 valid (34 ∷ []) text h))))))
has_form inside closing valid kind text rest byte (inl w) f resumed closed h = word_form inside closing valid kind text rest byte w f
has_form inside closing valid kind text rest byte (inr l) f resumed closed h = mark_form inside closing valid kind text rest byte l f closed

-- the text is that of the token
pub has_text : (valid : ℕ) (kind : TokenKind) (text : Text) → Fits kind text → length (spelling kind text) ≤ valid → IsTextOf kind valid (spelling kind text) text
has_text valid k.StringWhole text fits h = stands_for 34 valid (34 ∷ []) text (fewer 34 valid (34 ∷ []) text h)
has_text valid k.StringStart text fits h = stands_for 34 valid opening text (fewer 34 valid opening text h)
has_text valid k.StringMiddle text fits h = stands_for 41 valid opening text (fewer 41 valid opening text h)
has_text valid k.StringLast text fits h = stands_for 41 valid (34 ∷ []) text (fewer 41 valid (34 ∷ []) text h)
has_text valid kind text fits h = refl

-- the byte that it begins with
abbrev pub Begun : TokenKind → Text → Type 0
Begun kind text = (byte : ℕ) × (more : Text) × (text ≡ byte ∷ more) × (starts kind byte ≡ true)

word_begun : (kind : TokenKind) (text : Text) → IsWord kind text → Begun kind text
word_begun kind [] w = absurd w
word_begun kind (one ∷ text) w = (one, text, refl, ap (λ its. starts its one) w.2 ∙ word_starts (one ∷ text) w.0)

digits_begun : (text : Text) → IsDigits text → Begun k.Integer text
digits_begun [] d = absurd d
digits_begun (one ∷ text) d = (one, text, refl, d.0)

mark_begun : (kind : TokenKind) (text : Text) → IsListed marks text kind → Begun kind text
mark_begun kind [] l = absurd (let some = (mark_bytes [] kind l).0 in let none : nat_lt 0 (length {A = ℕ} []) ≡ false = refl in cc)
mark_begun kind (one ∷ text) l = (one, text, refl, mark_starts (one ∷ text) kind l)

pub begun : (kind : TokenKind) (text : Text) → Fits kind text → Begun kind (spelling kind text)
begun k.Integer text fits = digits_begun text fits
begun k.StringWhole text fits = (34, escapes text ++ 34 ∷ [], refl, refl)
begun k.StringStart text fits = (34, escapes text ++ opening, refl, refl)
begun k.StringMiddle text fits = (41, escapes text ++ opening, refl, refl)
begun k.StringLast text fits = (41, escapes text ++ 34 ∷ [], refl, refl)
begun kind text (inl w) = word_begun kind text w
begun kind text (inr l) = mark_begun kind text l

pub some_bytes : (kind : TokenKind) (text : Text) → Fits kind text → 0 < length (spelling kind text)
some_bytes kind text fits = let b = begun kind text fits in omega (arith, ap length b.2)

-- ---- no line ends in it, and it is UTF-8

all_of : (p q : ℕ → Bool) (text : Text) → ((byte : ℕ) → p byte ≡ true → q byte ≡ true) → list_all p text ≡ true → list_all q text ≡ true
all_of p q [] h a = refl
all_of p q (byte ∷ text) h a = let two = both (p byte) (list_all p text) a in ap (λ t. t && list_all q text) (h byte two.0) ∙ all_of p q text h two.1

-- no line ends in it, and it is of ASCII
abbrev IsPlainText : Text → Type 0
IsPlainText text = (has_no_line text ≡ true) × (list_all is_low text ≡ true)

plain_text : (p : ℕ → Bool) (text : Text) → ((byte : ℕ) → p byte ≡ true → (not (byte == 10) ≡ true) × (is_low byte ≡ true)) → list_all p text ≡ true → IsPlainText text
plain_text p text h a = (all_of p (λ byte. not (byte == 10)) text (λ byte e. (h byte e).0) a, all_of p is_low text (λ byte e. (h byte e).1) a)

name_plain : (byte : ℕ) → is_in class.Name byte ≡ true → (not (byte == 10) ≡ true) × (is_low byte ≡ true)
name_plain byte h = (grind (arith, common_steps), grind (arith, common_steps))

digit_plain : (byte : ℕ) → is_in class.Integer byte ≡ true → (not (byte == 10) ≡ true) × (is_low byte ≡ true)
digit_plain byte h = (grind (arith, common_steps), grind (arith, common_steps))

mark_plain : (byte : ℕ) → is_mark_byte byte ≡ true → (not (byte == 10) ≡ true) × (is_low byte ≡ true)
mark_plain byte h = let two = both (is_low byte) (not (byte == 10)) h in (two.1, two.0)

word_plain : (kind : TokenKind) (text : Text) → IsWord kind text → IsPlainText text
word_plain kind text w = plain_text (is_in class.Name) text name_plain (name_bytes kind text w)

integer_plain : (text : Text) → IsDigits text → IsPlainText text
integer_plain text d = plain_text (is_in class.Integer) text digit_plain (digit_bytes text d)

listed_plain : (kind : TokenKind) (text : Text) → IsListed marks text kind → IsPlainText text
listed_plain kind text l = plain_text is_mark_byte text mark_plain (mark_bytes text kind l).1

string_no_line : (mark : ℕ) (closing text : Text) → not (mark == 10) ≡ true → has_no_line closing ≡ true → has_no_line (mark ∷ (escapes text ++ closing)) ≡ true
string_no_line mark closing text h g = ap (λ t. t && has_no_line (escapes text ++ closing)) h ∙ no_line_append (escapes text) closing (escapes_no_line text) g

pub spelling_no_line : (kind : TokenKind) (text : Text) → Fits kind text → has_no_line (spelling kind text) ≡ true
spelling_no_line k.Integer text fits = (integer_plain text fits).0
spelling_no_line k.StringWhole text fits = string_no_line 34 (34 ∷ []) text refl refl
spelling_no_line k.StringStart text fits = string_no_line 34 opening text refl refl
spelling_no_line k.StringMiddle text fits = string_no_line 41 opening text refl refl
spelling_no_line k.StringLast text fits = string_no_line 41 (34 ∷ []) text refl refl
spelling_no_line kind text (inl w) = (word_plain kind text w).0
spelling_no_line kind text (inr l) = (listed_plain kind text l).0

string_utf8 : (mark : ℕ) (closing text : Text) → list_all is_low (mark ∷ []) ≡ true → list_all is_low closing ≡ true → IsUtf8 text → IsUtf8 (mark ∷ (escapes text ++ closing))
string_utf8 mark closing text h g u =
    IsUtf8-append (mark ∷ []) (escapes text ++ closing) (low_utf8 (mark ∷ []) h) (IsUtf8-append (escapes text) closing (escapes_utf8 text u) (low_utf8 closing g))

pub spelling_utf8 : (kind : TokenKind) (text : Text) → Fits kind text → IsUtf8 (spelling kind text)
spelling_utf8 k.Integer text fits = low_utf8 text (integer_plain text fits).1
spelling_utf8 k.StringWhole text fits = string_utf8 34 (34 ∷ []) text refl refl fits
spelling_utf8 k.StringStart text fits = string_utf8 34 opening text refl refl fits
spelling_utf8 k.StringMiddle text fits = string_utf8 41 opening text refl refl fits
spelling_utf8 k.StringLast text fits = string_utf8 41 (34 ∷ []) text refl refl fits
spelling_utf8 kind text (inl w) = low_utf8 text (word_plain kind text w).1
spelling_utf8 kind text (inr l) = low_utf8 text (listed_plain kind text l).1
