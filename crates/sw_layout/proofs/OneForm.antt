-- Where a token or a space begins, nothing else does.
use Rattle.std.proofs.Common.{◌≡◌, ◌<◌, ◌≤◌, ℕ, suc, ◌==◌, Bool, true, false, cond, not, ◌&&◌, ◌||◌, [], ◌∷◌, length, take, refl, ap, sym, ◌∙◌, arith, nat_lt}
use Rattle.std.proofs.lemmas.Grind.{common_steps}
use Rattle.std.specs.Prelude.{slice_index}
use mathlib.Core.Logic.{inl, inr}
use Rattle.sw_lex.specs.declared.bytes.Class.TheVariants as class
use Rattle.sw_lex.specs.declared.lexemes.Lexeme.{Lexeme}
use Rattle.sw_lex.specs.declared.lexemes.Lexeme.TheVariants.{End, Gap, Token, Malformed, Unterminated}
use Rattle.sw_lex.specs.declared.token.TokenKind.{TokenKind}
use Rattle.sw_lex.specs.Bytes.{Text, is_in}
use Rattle.sw_lex.specs.Tables.{Table, marks, kind_in, kind_of_word, IsListed}
use Rattle.sw_lex.specs.Lexemes.{first, second, is_line_comment, is_block_comment, IsLineEnd, IsWord, IsInteger, IsQuoted, IsResumed, IsMark, IsSpace, HasForm, BeginsWith}
use Rattle.sw_layout.proofs.Starts.{equal}
use Rattle.sw_layout.proofs.MarkTable.{all_entries, both, prefix_is, is_comment, listed_passes, mark_bytes}
use Rattle.sw_layout.proofs.OneString.{closed_or_open, closed_or_opened, opened_or_open, same_closed, same_opened}

-- ---- of what sort it is that begins here, by the first bytes

abbrev sort_of : Bool → Text → ℕ
sort_of closing [] = 0
sort_of closing (byte ∷ bytes) =
    cond (is_in class.Space byte) 0
    (cond (is_comment (byte ∷ bytes)) 2
    (cond (is_in class.NameStart byte) 3
    (cond (is_in class.Digit byte) 4
    (cond (byte == 34) 5
    (cond (byte == 41 && closing) 6 7)))))

-- the sort of what has a form
abbrev form_sort : (inside closing : Bool) (valid : ℕ) (bytes : Text) (it : Lexeme) → HasForm inside closing valid bytes it → ℕ
form_sort inside closing valid bytes End h = 0
form_sort inside closing valid bytes (Gap size) (inl h) = 0
form_sort inside closing valid bytes (Gap size) (inr h) = 2
form_sort inside closing valid bytes (Token kind size) (inl h) = 3
form_sort inside closing valid bytes (Token kind size) (inr (inl h)) = 4
form_sort inside closing valid bytes (Token kind size) (inr (inr (inl h))) = 5
form_sort inside closing valid bytes (Token kind size) (inr (inr (inr (inl h)))) = 6
form_sort inside closing valid bytes (Token kind size) (inr (inr (inr (inr h)))) = 7
form_sort inside closing valid bytes Unterminated (inl h) = 0
form_sort inside closing valid bytes Unterminated (inr (inl h)) = 2
form_sort inside closing valid bytes Unterminated (inr (inr (inl h))) = 5
form_sort inside closing valid bytes Unterminated (inr (inr (inr h))) = 6
form_sort inside closing valid bytes Malformed h = 0

keep : (t : Bool) (a b n : ℕ) → t ≡ true → a ≡ n → cond t a b ≡ n
keep true a b n h e = e
keep false a b n h e = absurd (cc)

skip : (t : Bool) (a b n : ℕ) → t ≡ false → b ≡ n → cond t a b ≡ n
skip true a b n h e = absurd (cc)
skip false a b n h e = e

none_equal : (byte other : ℕ) (test : ℕ → Bool) → test byte ≡ true → test other ≡ false → (byte == other) ≡ false
none_equal byte other test h g = go (byte == other) refl
  where
    go : (t : Bool) → (byte == other) ≡ t → (byte == other) ≡ false
    go false e = e
    go true e = let same : test byte ≡ test other = ap test (equal byte other e) in absurd (cc)

none_both : (s t : Bool) → s ≡ false → (s && t) ≡ false
none_both s t h = cc

name_no_space : (byte : ℕ) → is_in class.NameStart byte ≡ true → is_in class.Space byte ≡ false
name_no_space byte h = grind (arith, common_steps)

digit_no_space : (byte : ℕ) → is_in class.Digit byte ≡ true → is_in class.Space byte ≡ false
digit_no_space byte h = grind (arith, common_steps)

digit_no_name : (byte : ℕ) → is_in class.Digit byte ≡ true → is_in class.NameStart byte ≡ false
digit_no_name byte h = grind (arith, common_steps)

space_sort : (closing : Bool) (bytes : Text) → is_in class.Space (first bytes) ≡ true → sort_of closing bytes ≡ 0
space_sort closing [] h = refl
space_sort closing (byte ∷ bytes) h = keep (is_in class.Space byte) 0 _ 0 h refl

line_end_sort : (closing : Bool) (bytes : Text) → IsLineEnd bytes → sort_of closing bytes ≡ 0
line_end_sort closing [] h = refl
line_end_sort closing (byte ∷ bytes) h = keep (is_in class.Space byte) 0 _ 0 (ap (is_in class.Space) h) refl

comment_sort : (closing : Bool) (bytes : Text) → is_comment bytes ≡ true → sort_of closing bytes ≡ 2
comment_sort closing [] h = absurd (cc)
comment_sort closing (byte ∷ bytes) h =
    let two = both (byte == 47) (slice_index (byte ∷ bytes) 1 == 47 || slice_index (byte ∷ bytes) 1 == 42) h in
    skip (is_in class.Space byte) 0 _ 2 (ap (is_in class.Space) (equal byte 47 two.0)) (keep (is_comment (byte ∷ bytes)) 2 _ 2 h refl)

line_comment_is : (bytes : Text) → is_line_comment bytes ≡ true → is_comment bytes ≡ true
line_comment_is bytes h = go (first bytes == 47) (second bytes == 47) (second bytes == 42) h
  where
    go : (s t u : Bool) → (s && t) ≡ true → (s && (t || u)) ≡ true
    go true true u h = refl
    go true false u h = absurd (cc)
    go false t u h = absurd (cc)

block_comment_is : (bytes : Text) → is_block_comment bytes ≡ true → is_comment bytes ≡ true
block_comment_is bytes h = go (first bytes == 47) (second bytes == 47) (second bytes == 42) h
  where
    go : (s t u : Bool) → (s && u) ≡ true → (s && (t || u)) ≡ true
    go true true true h = refl
    go true false true h = refl
    go true t false h = absurd (cc)
    go false t u h = absurd (cc)

name_sort : (closing : Bool) (bytes : Text) → is_in class.NameStart (first bytes) ≡ true → sort_of closing bytes ≡ 3
name_sort closing [] h = absurd (cc)
name_sort closing (byte ∷ bytes) h =
    skip (is_in class.Space byte) 0 _ 3 (name_no_space byte h)
    (skip (is_comment (byte ∷ bytes)) 2 _ 3 (none_both (byte == 47) _ (none_equal byte 47 (is_in class.NameStart) h refl)) (keep (is_in class.NameStart byte) 3 _ 3 h refl))

digit_sort : (closing : Bool) (bytes : Text) → is_in class.Digit (first bytes) ≡ true → sort_of closing bytes ≡ 4
digit_sort closing [] h = absurd (cc)
digit_sort closing (byte ∷ bytes) h =
    skip (is_in class.Space byte) 0 _ 4 (digit_no_space byte h)
    (skip (is_comment (byte ∷ bytes)) 2 _ 4 (none_both (byte == 47) _ (none_equal byte 47 (is_in class.Digit) h refl))
    (skip (is_in class.NameStart byte) 3 _ 4 (digit_no_name byte h) (keep (is_in class.Digit byte) 4 _ 4 h refl)))

quote_sort : (closing : Bool) (bytes rest : Text) → bytes ≡ 34 ∷ rest → sort_of closing bytes ≡ 5
quote_sort closing bytes rest e = ap (sort_of closing) e

paren_sort : (closing : Bool) (bytes rest : Text) → closing ≡ true → bytes ≡ 41 ∷ rest → sort_of closing bytes ≡ 6
paren_sort closing bytes rest c e = ap (sort_of closing) e ∙ ap (λ t. sort_of t (41 ∷ rest)) c

quoted_sort : (closing : Bool) (valid : ℕ) (bytes : Text) (kind : TokenKind) (size : ℕ) → IsQuoted valid bytes kind size → sort_of closing bytes ≡ 5
quoted_sort closing valid bytes kind size (q, inl s) = quote_sort closing bytes _ s.1.2
quoted_sort closing valid bytes kind size (q, inr s) = quote_sort closing bytes _ s.1.2

resumed_sort : (closing : Bool) (valid : ℕ) (bytes : Text) (kind : TokenKind) (size : ℕ) → closing ≡ true → IsResumed valid bytes kind size → sort_of closing bytes ≡ 6
resumed_sort closing valid bytes kind size c (inl s) = paren_sort closing bytes _ c s.1.2
resumed_sort closing valid bytes kind size c (inr s) = paren_sort closing bytes _ c s.1.2

-- ---- marks

-- a mark's first byte begins nothing else
abbrev is_mark_start : ℕ → Bool
is_mark_start byte = not (is_in class.Space byte) && (not (is_in class.NameStart byte) && (not (is_in class.Digit byte) && not (byte == 34)))

marks_begin : all_entries (λ text kind. is_mark_start (first text)) marks ≡ true
unfolding marks
marks_begin = refl

prefix_first : (text bytes : Text) → 0 < length text → take (length text) bytes ≡ text → (first bytes ≡ first text) × (0 < length bytes)
prefix_first [] bytes h e = absurd (omega arith)
prefix_first (t ∷ ts) [] h e =
    let len : length (t ∷ ts) ≡ suc (length ts) = omega arith in
    let none : [] ≡ t ∷ ts = ap (λ n. take {A = ℕ} n []) (sym len) ∙ e in absurd (cc)
prefix_first (t ∷ ts) (b ∷ bs) h e =
    let len : length (t ∷ ts) ≡ suc (length ts) = omega arith in
    let some : b ∷ take (length ts) bs ≡ t ∷ ts = ap (λ n. take n (b ∷ bs)) (sym len) ∙ e in (ap (λ (u : Text). slice_index u 0) some, omega arith)

nots : (s n d q : Bool) → (not s && (not n && (not d && not q))) ≡ true → (s ≡ false) × (n ≡ false) × (d ≡ false) × (q ≡ false)
nots false false false false h = (refl, refl, refl, refl)
nots true n d q h = absurd (cc)
nots false true d q h = absurd (cc)
nots false false true q h = absurd (cc)
nots false false false true h = absurd (cc)

no_comment_is : (bytes : Text) → is_line_comment bytes ≡ false → is_block_comment bytes ≡ false → is_comment bytes ≡ false
no_comment_is bytes h g = go (first bytes == 47) (second bytes == 47) (second bytes == 42) h g
  where
    go : (s t u : Bool) → (s && t) ≡ false → (s && u) ≡ false → (s && (t || u)) ≡ false
    go false t u h g = refl
    go true false false h g = refl
    go true true u h g = absurd (cc)
    go true false true h g = absurd (cc)

mark_start_sort : (closing : Bool) (bytes : Text) → 0 < length bytes → is_mark_start (first bytes) ≡ true → is_comment bytes ≡ false → (first bytes == 41 && closing) ≡ false → sort_of closing bytes ≡ 7
mark_start_sort closing [] some h c p = absurd (omega arith)
mark_start_sort closing (byte ∷ bytes) some h c p =
    let four = nots (is_in class.Space byte) (is_in class.NameStart byte) (is_in class.Digit byte) (byte == 34) h in
    skip (is_in class.Space byte) 0 _ 7 four.0
    (skip (is_comment (byte ∷ bytes)) 2 _ 7 c
    (skip (is_in class.NameStart byte) 3 _ 7 four.1
    (skip (is_in class.Digit byte) 4 _ 7 four.2
    (skip (byte == 34) 5 _ 7 four.3
    (skip (byte == 41 && closing) 6 7 7 p refl)))))

mark_sort : (closing : Bool) (bytes : Text) (kind : TokenKind) (size : ℕ) → IsMark closing bytes kind size → sort_of closing bytes ≡ 7
mark_sort closing bytes kind size m =
    let start = listed_passes (λ u its. is_mark_start (first u)) marks m.0 kind marks_begin m.1 in
    let some : nat_lt 0 (length m.0) ≡ true = (mark_bytes m.0 kind m.1).0 in
    let long : 0 < length m.0 = grind (arith, common_steps) in
    let same = prefix_first m.0 bytes long (prefix_is m.0 bytes m.2) in
    mark_start_sort closing bytes same.1 (ap is_mark_start same.0 ∙ start) (no_comment_is bytes m.5 m.6) m.7

-- of a text the table has one kind
abbrev Agrees : Table → Type 0
Agrees [] = Unit {0}
Agrees (entry ∷ table) = (kind_in marks entry.0 ≡ entry.1) × Agrees table

marks_agree : Agrees marks
unfolding marks
marks_agree = (refl, (refl, (refl, (refl, (refl, (refl, (refl, (refl, (refl, (refl, (refl, (refl, (refl, (refl, (refl, (refl, (refl, (refl, (refl, (refl, (refl, (refl, (refl, (refl, (refl, (refl, (refl, (refl, (refl, (refl, (refl, (refl, (refl, (refl, (refl, tt)))))))))))))))))))))))))))))))))))

listed_kind : (table : Table) (text : Text) (kind : TokenKind) → Agrees table → IsListed table text kind → kind_in marks text ≡ kind
listed_kind [] text kind a l = absurd l
listed_kind (entry ∷ table) text kind a (inl l) = ap (kind_in marks) (sym l.0) ∙ a.0 ∙ l.1
listed_kind (entry ∷ table) text kind a (inr l) = listed_kind table text kind a.1 l

same_token : (kind other : TokenKind) (size more : ℕ) → kind ≡ other → size ≡ more → Token kind size ≡ Token other more
same_token kind other size more h g = ap (λ its. Token its size) h ∙ ap (λ n. Token other n) g

same_mark : (closing : Bool) (bytes : Text) (kind other : TokenKind) (size more : ℕ) → IsMark closing bytes kind size → IsMark closing bytes other more → Token other more ≡ Token kind size
same_mark closing bytes kind other size more m n =
    let less = m.4 n.0 other n.1 n.2 in
    let least = n.4 m.0 kind m.1 m.2 in
    let sizes : length n.0 ≡ length m.0 = omega (arith, less, least, m.3, n.3) in
    let texts : n.0 ≡ m.0 = sym (prefix_is n.0 bytes n.2) ∙ ap (λ i. take i bytes) sizes ∙ prefix_is m.0 bytes m.2 in
    let kinds : other ≡ kind = sym (listed_kind marks n.0 other marks_agree n.1) ∙ ap (kind_in marks) texts ∙ listed_kind marks m.0 kind marks_agree m.1 in
    same_token other kind more size kinds (omega (arith, sizes, m.3, n.3))

-- ---- each form is of its sort

forms_sorted : (inside closing : Bool) (valid : ℕ) (bytes : Text) (it : Lexeme) (h : HasForm inside closing valid bytes it) → sort_of closing bytes ≡ form_sort inside closing valid bytes it h
forms_sorted inside closing valid bytes End h = ap (sort_of closing) h.1
forms_sorted inside closing valid bytes (Gap size) (inl h) = space_sort closing bytes h.2
forms_sorted inside closing valid bytes (Gap size) (inr (inl h)) = comment_sort closing bytes (line_comment_is bytes h.0)
forms_sorted inside closing valid bytes (Gap size) (inr (inr h)) = ap (sort_of closing) h.2
forms_sorted inside closing valid bytes (Token kind size) (inl h) = name_sort closing bytes h.0
forms_sorted inside closing valid bytes (Token kind size) (inr (inl h)) = digit_sort closing bytes h.0
forms_sorted inside closing valid bytes (Token kind size) (inr (inr (inl h))) = quoted_sort closing valid bytes kind size h
forms_sorted inside closing valid bytes (Token kind size) (inr (inr (inr (inl h)))) = resumed_sort closing valid bytes kind size h.0 h.1
forms_sorted inside closing valid bytes (Token kind size) (inr (inr (inr (inr h)))) = mark_sort closing bytes kind size h
forms_sorted inside closing valid bytes Unterminated (inl h) = line_end_sort closing bytes h.1
forms_sorted inside closing valid bytes Unterminated (inr (inl h)) = comment_sort closing bytes (block_comment_is bytes h.0)
forms_sorted inside closing valid bytes Unterminated (inr (inr (inl h))) = quote_sort closing bytes _ h.1.2
forms_sorted inside closing valid bytes Unterminated (inr (inr (inr h))) = paren_sort closing bytes _ h.0 h.1.2
forms_sorted inside closing valid bytes Malformed h = absurd h

-- ---- forms of one sort

gap_low : (inside closing : Bool) (valid : ℕ) (bytes : Text) (size : ℕ) (h : HasForm inside closing valid bytes (Gap size)) → form_sort inside closing valid bytes (Gap size) h < 3
gap_low inside closing valid bytes size (inl h) = omega arith
gap_low inside closing valid bytes size (inr h) = omega arith

token_high : (inside closing : Bool) (valid : ℕ) (bytes : Text) (kind : TokenKind) (size : ℕ) (h : HasForm inside closing valid bytes (Token kind size)) → 3 ≤ form_sort inside closing valid bytes (Token kind size) h
token_high inside closing valid bytes kind size (inl h) = omega arith
token_high inside closing valid bytes kind size (inr (inl h)) = omega arith
token_high inside closing valid bytes kind size (inr (inr (inl h))) = omega arith
token_high inside closing valid bytes kind size (inr (inr (inr (inl h)))) = omega arith
token_high inside closing valid bytes kind size (inr (inr (inr (inr h)))) = omega arith

-- a sort of tokens that are no strings
abbrev is_plain_sort : ℕ → Bool
is_plain_sort n = n == 3 || n == 4 || n == 7

unterminated_no_plain : (inside closing : Bool) (valid : ℕ) (bytes : Text) (n : ℕ) (h : HasForm inside closing valid bytes Unterminated) → form_sort inside closing valid bytes Unterminated h ≡ n → is_plain_sort n ≡ true → ⊥
unterminated_no_plain inside closing valid bytes n (inl h) e p = let other : is_plain_sort n ≡ false = ap is_plain_sort (sym e) in cc
unterminated_no_plain inside closing valid bytes n (inr (inl h)) e p = let other : is_plain_sort n ≡ false = ap is_plain_sort (sym e) in cc
unterminated_no_plain inside closing valid bytes n (inr (inr (inl h))) e p = let other : is_plain_sort n ≡ false = ap is_plain_sort (sym e) in cc
unterminated_no_plain inside closing valid bytes n (inr (inr (inr h))) e p = let other : is_plain_sort n ≡ false = ap is_plain_sort (sym e) in cc

name_only : (inside closing : Bool) (valid : ℕ) (bytes : Text) (kind : TokenKind) (size : ℕ) (it : Lexeme) (h : HasForm inside closing valid bytes it) → IsWord bytes kind size → form_sort inside closing valid bytes it h ≡ 3 → it ≡ Token kind size
name_only inside closing valid bytes kind size (Token other more) (inl h) w e =
    let sizes : more ≡ size = h.1 ∙ sym w.1 in
    same_token other kind more size (h.2 ∙ ap (λ n. kind_of_word (take n bytes)) sizes ∙ sym w.2) sizes
name_only inside closing valid bytes kind size (Gap more) h w e = absurd (omega (arith, e, gap_low inside closing valid bytes more h))
name_only inside closing valid bytes kind size Unterminated h w e = absurd (unterminated_no_plain inside closing valid bytes 3 h e refl)
name_only inside closing valid bytes kind size (Token other more) (inr (inl h)) w e = absurd (omega (arith, e))
name_only inside closing valid bytes kind size (Token other more) (inr (inr (inl h))) w e = absurd (omega (arith, e))
name_only inside closing valid bytes kind size (Token other more) (inr (inr (inr (inl h)))) w e = absurd (omega (arith, e))
name_only inside closing valid bytes kind size it h w e = absurd (omega (arith, e))

integer_only : (inside closing : Bool) (valid : ℕ) (bytes : Text) (kind : TokenKind) (size : ℕ) (it : Lexeme) (h : HasForm inside closing valid bytes it) → IsInteger bytes kind size → form_sort inside closing valid bytes it h ≡ 4 → it ≡ Token kind size
integer_only inside closing valid bytes kind size (Token other more) (inr (inl h)) w e = same_token other kind more size (h.2 ∙ sym w.2) (h.1 ∙ sym w.1)
integer_only inside closing valid bytes kind size (Gap more) h w e = absurd (omega (arith, e, gap_low inside closing valid bytes more h))
integer_only inside closing valid bytes kind size Unterminated h w e = absurd (unterminated_no_plain inside closing valid bytes 4 h e refl)
integer_only inside closing valid bytes kind size (Token other more) (inr (inr (inl h))) w e = absurd (omega (arith, e))
integer_only inside closing valid bytes kind size (Token other more) (inr (inr (inr (inl h)))) w e = absurd (omega (arith, e))
integer_only inside closing valid bytes kind size it h w e = absurd (omega (arith, e))

mark_only : (inside closing : Bool) (valid : ℕ) (bytes : Text) (kind : TokenKind) (size : ℕ) (it : Lexeme) (h : HasForm inside closing valid bytes it) → IsMark closing bytes kind size → form_sort inside closing valid bytes it h ≡ 7 → it ≡ Token kind size
mark_only inside closing valid bytes kind size (Token other more) (inr (inr (inr (inr h)))) m e = same_mark closing bytes kind other size more m h
mark_only inside closing valid bytes kind size (Gap more) h m e = absurd (omega (arith, e, gap_low inside closing valid bytes more h))
mark_only inside closing valid bytes kind size Unterminated h m e = absurd (unterminated_no_plain inside closing valid bytes 7 h e refl)
mark_only inside closing valid bytes kind size it h m e = absurd (omega (arith, e))

same_quoted : (valid : ℕ) (bytes : Text) (kind other : TokenKind) (size more : ℕ) → IsQuoted valid bytes kind size → IsQuoted valid bytes other more → Token other more ≡ Token kind size
same_quoted valid bytes kind other size more (q, inl s) (p, inl t) = same_token other kind more size (t.0 ∙ sym s.0) (same_closed 34 valid bytes more size t.1 s.1)
same_quoted valid bytes kind other size more (q, inl s) (p, inr t) = absurd (closed_or_opened 34 valid bytes size more s.1 t.1)
same_quoted valid bytes kind other size more (q, inr s) (p, inl t) = absurd (closed_or_opened 34 valid bytes more size t.1 s.1)
same_quoted valid bytes kind other size more (q, inr s) (p, inr t) = same_token other kind more size (t.0 ∙ sym s.0) (same_opened 34 valid bytes more size t.1 s.1)

quoted_only : (inside closing : Bool) (valid : ℕ) (bytes : Text) (kind : TokenKind) (size : ℕ) (it : Lexeme) (h : HasForm inside closing valid bytes it) → IsQuoted valid bytes kind size → form_sort inside closing valid bytes it h ≡ 5 → it ≡ Token kind size
quoted_only inside closing valid bytes kind size (Token other more) (inr (inr (inl h))) s e = same_quoted valid bytes kind other size more s h
quoted_only inside closing valid bytes kind size Unterminated (inr (inr (inl h))) (q, inl s) e = absurd (closed_or_open 34 valid bytes size s.1 h.1)
quoted_only inside closing valid bytes kind size Unterminated (inr (inr (inl h))) (q, inr s) e = absurd (opened_or_open 34 valid bytes size s.1 h.1)
quoted_only inside closing valid bytes kind size (Gap more) h s e = absurd (omega (arith, e, gap_low inside closing valid bytes more h))
quoted_only inside closing valid bytes kind size (Token other more) (inr (inr (inr (inl h)))) s e = absurd (omega (arith, e))
quoted_only inside closing valid bytes kind size it h s e = absurd (omega (arith, e))

same_resumed : (valid : ℕ) (bytes : Text) (kind other : TokenKind) (size more : ℕ) → IsResumed valid bytes kind size → IsResumed valid bytes other more → Token other more ≡ Token kind size
same_resumed valid bytes kind other size more (inl s) (inl t) = same_token other kind more size (t.0 ∙ sym s.0) (same_closed 41 valid bytes more size t.1 s.1)
same_resumed valid bytes kind other size more (inl s) (inr t) = absurd (closed_or_opened 41 valid bytes size more s.1 t.1)
same_resumed valid bytes kind other size more (inr s) (inl t) = absurd (closed_or_opened 41 valid bytes more size t.1 s.1)
same_resumed valid bytes kind other size more (inr s) (inr t) = same_token other kind more size (t.0 ∙ sym s.0) (same_opened 41 valid bytes more size t.1 s.1)

resumed_only : (inside closing : Bool) (valid : ℕ) (bytes : Text) (kind : TokenKind) (size : ℕ) (it : Lexeme) (h : HasForm inside closing valid bytes it) → IsResumed valid bytes kind size → form_sort inside closing valid bytes it h ≡ 6 → it ≡ Token kind size
resumed_only inside closing valid bytes kind size (Token other more) (inr (inr (inr (inl h)))) s e = same_resumed valid bytes kind other size more s h.1
resumed_only inside closing valid bytes kind size Unterminated (inr (inr (inr h))) (inl s) e = absurd (closed_or_open 41 valid bytes size s.1 h.1)
resumed_only inside closing valid bytes kind size Unterminated (inr (inr (inr h))) (inr s) e = absurd (opened_or_open 41 valid bytes size s.1 h.1)
resumed_only inside closing valid bytes kind size (Gap more) h s e = absurd (omega (arith, e, gap_low inside closing valid bytes more h))
resumed_only inside closing valid bytes kind size it h s e = absurd (omega (arith, e))

-- where a token begins, nothing else has a form
token_only : (inside closing : Bool) (valid : ℕ) (bytes : Text) (kind : TokenKind) (size : ℕ) → HasForm inside closing valid bytes (Token kind size) → (it : Lexeme) → HasForm inside closing valid bytes it → it ≡ Token kind size
token_only inside closing valid bytes kind size (inl w) it h = name_only inside closing valid bytes kind size it h w (sym (forms_sorted inside closing valid bytes it h) ∙ name_sort closing bytes w.0)
token_only inside closing valid bytes kind size (inr (inl w)) it h = integer_only inside closing valid bytes kind size it h w (sym (forms_sorted inside closing valid bytes it h) ∙ digit_sort closing bytes w.0)
token_only inside closing valid bytes kind size (inr (inr (inl s))) it h = quoted_only inside closing valid bytes kind size it h s (sym (forms_sorted inside closing valid bytes it h) ∙ quoted_sort closing valid bytes kind size s)
token_only inside closing valid bytes kind size (inr (inr (inr (inl s)))) it h =
    resumed_only inside closing valid bytes kind size it h s.1 (sym (forms_sorted inside closing valid bytes it h) ∙ resumed_sort closing valid bytes kind size s.0 s.1)
token_only inside closing valid bytes kind size (inr (inr (inr (inr m)))) it h = mark_only inside closing valid bytes kind size it h m (sym (forms_sorted inside closing valid bytes it h) ∙ mark_sort closing bytes kind size m)

-- ---- spaces and the end

no_line_inside : (inside : Bool) (bytes : Text) → IsLineEnd bytes → inside ≡ true → (first bytes == 10 && inside) ≡ false → is_in class.Space (first bytes) ≡ true → ⊥
no_line_inside inside [] l i h s = cc
no_line_inside inside (byte ∷ bytes) l i h s =
    let same : (byte == 10 && inside) ≡ inside = ap (λ n. n == 10 && inside) l in
    cc

space_sorted : (inside closing : Bool) (valid : ℕ) (bytes : Text) (size : ℕ) (it : Lexeme) (h : HasForm inside closing valid bytes it) → IsSpace inside bytes size → form_sort inside closing valid bytes it h ≡ 0 → it ≡ Gap size
space_sorted inside closing valid bytes size End h s e = let none : is_in class.Space (first bytes) ≡ false = ap (λ (u : Text). is_in class.Space (first u)) h.1 in absurd (let some = s.2 in cc)
space_sorted inside closing valid bytes size (Gap more) (inl h) s e = ap Gap (h.0 ∙ sym s.0)
space_sorted inside closing valid bytes size Unterminated (inl h) s e = absurd (no_line_inside inside bytes h.1 h.0 s.1 s.2)
space_sorted inside closing valid bytes size Malformed h s e = absurd h
space_sorted inside closing valid bytes size Unterminated (inr (inl h)) s e = absurd (omega (arith, e))
space_sorted inside closing valid bytes size Unterminated (inr (inr (inl h))) s e = absurd (omega (arith, e))
space_sorted inside closing valid bytes size (Token kind more) h s e = absurd (omega (arith, e, token_high inside closing valid bytes kind more h))
space_sorted inside closing valid bytes size it h s e = absurd (omega (arith, e))

end_sorted : (inside closing : Bool) (valid : ℕ) (bytes : Text) (it : Lexeme) (h : HasForm inside closing valid bytes it) → inside ≡ false → bytes ≡ [] → form_sort inside closing valid bytes it h ≡ 0 → it ≡ End
end_sorted inside closing valid bytes End h o n e = refl
end_sorted inside closing valid bytes (Gap size) (inl h) o n e = let none : is_in class.Space (first bytes) ≡ false = ap (λ (u : Text). is_in class.Space (first u)) n in absurd (let some = h.2 in cc)
end_sorted inside closing valid bytes Unterminated (inl h) o n e = absurd (let within = h.0 in cc)
end_sorted inside closing valid bytes Malformed h o n e = absurd h
end_sorted inside closing valid bytes Unterminated (inr (inl h)) o n e = absurd (omega (arith, e))
end_sorted inside closing valid bytes Unterminated (inr (inr (inl h))) o n e = absurd (omega (arith, e))
end_sorted inside closing valid bytes (Token kind more) h o n e = absurd (omega (arith, e, token_high inside closing valid bytes kind more h))
end_sorted inside closing valid bytes it h o n e = absurd (omega (arith, e))

-- ---- what begins

-- one thing alone begins here
abbrev pub IsOnly : Bool → Bool → ℕ → Text → Lexeme → Type 0
IsOnly inside closing valid bytes it = (other : Lexeme) → BeginsWith inside closing valid bytes other → other ≡ it

only_form : (inside closing : Bool) (valid : ℕ) (bytes : Text) (it : Lexeme) → HasForm inside closing valid bytes it → ((other : Lexeme) → HasForm inside closing valid bytes other → other ≡ it) → IsOnly inside closing valid bytes it
only_form inside closing valid bytes it h only Malformed b = absurd (b it h)
only_form inside closing valid bytes it h only End b = only End b
only_form inside closing valid bytes it h only (Gap size) b = only (Gap size) b
only_form inside closing valid bytes it h only (Token kind size) b = only (Token kind size) b
only_form inside closing valid bytes it h only Unterminated b = only Unterminated b

pub only_token : (inside closing : Bool) (valid : ℕ) (bytes : Text) (kind : TokenKind) (size : ℕ) → HasForm inside closing valid bytes (Token kind size) → IsOnly inside closing valid bytes (Token kind size)
only_token inside closing valid bytes kind size h = only_form inside closing valid bytes (Token kind size) h (token_only inside closing valid bytes kind size h)

pub only_space : (inside closing : Bool) (valid : ℕ) (bytes : Text) (size : ℕ) → IsSpace inside bytes size → IsOnly inside closing valid bytes (Gap size)
only_space inside closing valid bytes size s = only_form inside closing valid bytes (Gap size) (inl s) (λ it h. space_sorted inside closing valid bytes size it h s (sym (forms_sorted inside closing valid bytes it h) ∙ space_sort closing bytes s.2))

pub only_end : (inside closing : Bool) (valid : ℕ) (bytes : Text) → inside ≡ false → bytes ≡ [] → IsOnly inside closing valid bytes End
only_end inside closing valid bytes o n = only_form inside closing valid bytes End (o, n) (λ it h. end_sorted inside closing valid bytes it h o n (sym (forms_sorted inside closing valid bytes it h) ∙ ap (sort_of closing) n))
