-- No character goes on over the end of a gap or a token: it ends with a byte of ASCII, or such a byte or none follows.
use Rattle.std.proofs.Common.{◌≡◌, ◌<◌, ◌≤◌, ℕ, zero, suc, ◌+◌, ◌-◌, Bool, true, false, ◌&&◌, [], ◌∷◌, ◌++◌, length, take, refl, ap, sym, ◌∙◌, subst, arith, nat_lt, append_assoc, length-append}
use Rattle.std.proofs.lemmas.Grind.{common_steps}
use Rattle.std.proofs.lemmas.List.{get_or-take}
use Rattle.std.proofs.lemmas.List.Sums.{prefix_len-le-length, prefix_len_passes, prefix_len_stops}
use mathlib.Core.Logic.{inl, inr}
use Rattle.std.specs.Prelude.{slice_index}
use Rattle.std.specs.List.{prefix_len, list_all}
use Rattle.sw_lex.specs.declared.bytes.Class.TheVariants as class
use Rattle.sw_lex.specs.declared.token.TokenKind.{TokenKind}
use Rattle.sw_lex.specs.declared.lexemes.Lexeme.{Lexeme}
use Rattle.sw_lex.specs.declared.lexemes.Lexeme.TheVariants.{End, Gap, Token, Malformed, Unterminated}
use Rattle.sw_lex.specs.Bytes.{Text, is_in}
use Rattle.sw_lex.specs.Tables.{Table, IsListed, marks}
use Rattle.sw_lex.specs.Strings.{bytes_of}
use Rattle.sw_lex.specs.Comments.{Closes, ends, passes, nests}
use Rattle.sw_lex.specs.Lexemes.{BeginsWith, HasForm, IsBlockComment, IsMark, IsString, opening, size_of}
use Rattle.sw_lex.specs.Characters.{IsBoundary}
use Rattle.sw_lex.proofs.PieceLemmas.{at_boundary, both}
use Rattle.sw_lex.proofs.MarkLemmas.{prefix_is}

-- it ends with a byte of ASCII
ends_low : (z prefix rest : Text) (size byte : ℕ) → z ≡ prefix ++ byte ∷ rest → size ≡ length prefix + 1 → byte < 128 → IsBoundary z size
ends_low z prefix rest size byte e n l =
    let last : size - 1 ≡ length prefix = omega (arith, n) in
    let there : slice_index z (size - 1) ≡ byte = ap (λ (y : Text). slice_index y (size - 1)) e ∙ ap (λ k. slice_index (prefix ++ byte ∷ rest) k) last ∙ at_boundary prefix rest byte in
    inr (inr (omega (arith, n), omega (arith, there, l)))

-- ---- runs

run_boundary : (p : ℕ → Bool) (z : Text) (size : ℕ) → ((byte : ℕ) → p byte ≡ true → byte < 128) → size ≡ prefix_len p z → 1 ≤ size → IsBoundary z size
run_boundary p z size low e some = inr (inr (some, low (slice_index z (size - 1)) (prefix_len_passes p z (size - 1) 0 (omega (arith, e, some)))))

name_low : (byte : ℕ) → is_in class.Name byte ≡ true → byte < 128
name_low byte h = grind (arith, common_steps)

integer_low : (byte : ℕ) → is_in class.Integer byte ≡ true → byte < 128
integer_low byte h = grind (arith, common_steps)

space_low : (byte : ℕ) → is_in class.Space byte ≡ true → byte < 128
space_low byte h = grind (arith, common_steps)

line_boundary : (z : Text) (size : ℕ) → size ≡ prefix_len (is_in class.Line) z → IsBoundary z size
line_boundary z size e = go (nat_lt size (length z)) refl
  where
    go : (t : Bool) → nat_lt size (length z) ≡ t → IsBoundary z size
    go true f =
        let short : size < length z = grind (arith, common_steps) in
        let stop : is_in class.Line (slice_index z (prefix_len (is_in class.Line) z)) ≡ false = prefix_len_stops (is_in class.Line) z 0 (omega (arith, e, short)) in
        let here : is_in class.Line (slice_index z size) ≡ false = ap (λ n. is_in class.Line (slice_index z n)) e ∙ stop in
        inr (inl (short, line_end (slice_index z size) here))
      where
        line_end : (byte : ℕ) → is_in class.Line byte ≡ false → byte < 128
        line_end byte h = grind (arith, common_steps)
    go false f = let big : length z ≤ size = grind (arith, common_steps) in inl (omega (arith, big, e, prefix_len-le-length (is_in class.Line) z))

-- ---- comments

closes_last : {z rest : Text} → Closes z rest → (prefix : Text) × (z ≡ prefix ++ 47 ∷ rest)
closes_last (ends {rest = rest}) = (42 ∷ [], refl)
closes_last (passes {byte = byte} e h) = let p = closes_last h in (byte ∷ p.0, ap (λ (u : Text). byte ∷ u) p.1)
closes_last (nests {more = more} {rest = rest} h k) =
    let p = closes_last h in
    let q = closes_last k in (
      47 ∷ 42 ∷ (p.0 ++ 47 ∷ q.0),
      ap (λ (u : Text). 47 ∷ 42 ∷ u) (p.1 ∙ ap (λ (u : Text). p.0 ++ 47 ∷ u) q.1 ∙ sym (append_assoc p.0 (47 ∷ q.0) (47 ∷ rest))),
    )

block_boundary : (inside : Bool) (z : Text) (size : ℕ) → IsBlockComment inside z size → IsBoundary z size
block_boundary inside z size h =
    let p = closes_last h.3 in
    let same : z ≡ (47 ∷ 42 ∷ p.0) ++ 47 ∷ h.1 = h.2 ∙ ap (λ (u : Text). 47 ∷ 42 ∷ u) p.1 in
    let len : length z ≡ length ((47 ∷ 42 ∷ p.0) ++ 47 ∷ h.1) = ap length same in
    ends_low z (47 ∷ 42 ∷ p.0) h.1 size 47 same (omega (arith, len, h.4, length-append (47 ∷ 42 ∷ p.0) (47 ∷ h.1))) (omega arith)

-- ---- strings

closed_boundary : (mark valid : ℕ) (z : Text) (size : ℕ) → IsString mark (34 ∷ []) valid z size → IsBoundary z size
closed_boundary mark valid z size h = ends_low z (mark ∷ bytes_of h.0) h.1 size 34 h.2 (omega (arith, h.4)) (omega arith)

opened_boundary : (mark valid : ℕ) (z : Text) (size : ℕ) → IsString mark opening valid z size → IsBoundary z size
opened_boundary mark valid z size h =
    let same : z ≡ ((mark ∷ bytes_of h.0) ++ 92 ∷ []) ++ 40 ∷ h.1 = h.2 ∙ ap (λ (u : Text). mark ∷ u) (sym (append_assoc (bytes_of h.0) (92 ∷ []) (40 ∷ h.1))) in
    ends_low z ((mark ∷ bytes_of h.0) ++ 92 ∷ []) h.1 size 40 same (omega (arith, h.4, length-append (mark ∷ bytes_of h.0) (92 ∷ []))) (omega arith)

-- ---- marks

abbrev is_low : ℕ → Bool
is_low byte = nat_lt byte 128

abbrev all_low : Table → Bool
all_low [] = true
all_low (entry ∷ table) = list_all is_low entry.0 && all_low table

marks_low : all_low marks ≡ true
unfolding marks
marks_low = refl

low_at : (text : Text) (i : ℕ) → list_all is_low text ≡ true → slice_index text i < 128
low_at [] i h = omega arith
low_at (byte ∷ text) zero h = let two = both (is_low byte) (list_all is_low text) h in one byte two.0
  where
    one : (byte : ℕ) → nat_lt byte 128 ≡ true → byte < 128
    one byte h = grind (arith, common_steps)
low_at (byte ∷ text) (suc i) h = low_at text i (both (is_low byte) (list_all is_low text) h).1

listed_low : (table : Table) (text : Text) (kind : TokenKind) → all_low table ≡ true → IsListed table text kind → list_all is_low text ≡ true
listed_low [] text kind h l = absurd l
listed_low (entry ∷ table) text kind h (inl l) = ap (λ (u : Text). list_all is_low u) (sym l.0) ∙ (both (list_all is_low entry.0) (all_low table) h).0
listed_low (entry ∷ table) text kind h (inr l) = listed_low table text kind (both (list_all is_low entry.0) (all_low table) h).1 l

mark_boundary : (closing : Bool) (z : Text) (kind : TokenKind) (size : ℕ) → IsMark closing z kind size → 1 ≤ size → IsBoundary z size
mark_boundary closing z kind size h some =
    let text : Text = h.0 in
    let prefix : take (length h.0) z ≡ h.0 = prefix_is h.0 z h.2 in
    let same : take size z ≡ h.0 = ap (λ n. take n z) h.3 ∙ prefix in
    let last : slice_index z (size - 1) ≡ slice_index h.0 (size - 1) = sym (get_or-take size z (size - 1) 0 (omega (arith, some))) ∙ ap (λ (u : Text). slice_index u (size - 1)) same in
    inr (inr (some, omega (arith, last, low_at h.0 (size - 1) (listed_low marks h.0 kind marks_low h.1))))

-- ---- all of them

form_boundary : (inside closing : Bool) (valid : ℕ) (z : Text) (item : Lexeme) → HasForm inside closing valid z item → 1 ≤ size_of item → IsBoundary z (size_of item)
form_boundary inside closing valid z End h some = absurd (omega (arith, some))
form_boundary inside closing valid z (Gap size) (inl h) some =
    let last : size - 1 ≡ 0 = omega (arith, h.0) in
    inr (inr (some, subst (λ n. slice_index z n < 128) (sym last) (space_low (slice_index z 0) h.2)))
form_boundary inside closing valid z (Gap size) (inr (inl h)) some = line_boundary z size h.1
form_boundary inside closing valid z (Gap size) (inr (inr h)) some = block_boundary inside z size h
form_boundary inside closing valid z (Token kind size) (inl h) some = run_boundary (is_in class.Name) z size name_low h.1 some
form_boundary inside closing valid z (Token kind size) (inr (inl h)) some = run_boundary (is_in class.Integer) z size integer_low h.1 some
form_boundary inside closing valid z (Token kind size) (inr (inr (inl (h, inl s)))) some = closed_boundary 34 valid z size s.1
form_boundary inside closing valid z (Token kind size) (inr (inr (inl (h, inr s)))) some = opened_boundary 34 valid z size s.1
form_boundary inside closing valid z (Token kind size) (inr (inr (inr (inl (c, inl s))))) some = closed_boundary 41 valid z size s.1
form_boundary inside closing valid z (Token kind size) (inr (inr (inr (inl (c, inr s))))) some = opened_boundary 41 valid z size s.1
form_boundary inside closing valid z (Token kind size) (inr (inr (inr (inr h)))) some = mark_boundary closing z kind size h some
form_boundary inside closing valid z Malformed h some = absurd (omega (arith, some))
form_boundary inside closing valid z Unterminated h some = absurd (omega (arith, some))

pub item_boundary : (inside closing : Bool) (valid : ℕ) (z : Text) (item : Lexeme) → BeginsWith inside closing valid z item → 1 ≤ size_of item → IsBoundary z (size_of item)
item_boundary inside closing valid z Malformed h some = absurd (omega (arith, some))
item_boundary inside closing valid z End h some = absurd (omega (arith, some))
item_boundary inside closing valid z Unterminated h some = absurd (omega (arith, some))
item_boundary inside closing valid z (Gap size) h some = form_boundary inside closing valid z (Gap size) h some
item_boundary inside closing valid z (Token kind size) h some = form_boundary inside closing valid z (Token kind size) h some
