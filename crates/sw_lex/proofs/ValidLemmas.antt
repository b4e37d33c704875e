-- Which pieces of strings are made of characters, and how the pieces go on after them.
use Rattle.std.proofs.Common.{◌≡◌, ◌<◌, ◌≤◌, ℕ, zero, suc, ◌+◌, ◌-◌, ◌==◌, Bool, true, false, cond, ◌||◌, [], ◌∷◌, ◌++◌, length, take, drop, refl, ap, sym, ◌∙◌, subst, arith, nat_lt, nat_le}
use Rattle.std.proofs.lemmas.Grind.{common_steps}
use Rattle.std.proofs.lemmas.List.{drop-drop, take-take, length-take-le}
use Rattle.std.proofs.lemmas.List.Sums.{prefix_len-le-length, prefix_len_stops}
use Rattle.std.proofs.lemmas.Str.{IsUtf8-from_ascii}
use mathlib.Core.Logic.{inl, inr}
use Rattle.std.specs.Prelude.{slice_index, codes}
use Rattle.std.specs.List.{list_all, list_any}
use Rattle.std.specs.Str.{IsUtf8}
use Rattle.std.specs.Str.Lossy.{utf8_valid_len}
use Rattle.sw_lex.specs.declared.bytes.Class.TheVariants as class
use Rattle.sw_lex.specs.declared.strings.Piece.{Piece}
use Rattle.sw_lex.specs.declared.strings.Piece.TheVariants.{Plain, Quote, Open, Invalid, LineEnd}
use Rattle.sw_lex.specs.Bytes.{Text, is_in}
use Rattle.sw_lex.specs.Strings.{IsPiece, is_escape}
use Rattle.sw_lex.specs.Cut.{IsValidPrefix}
use Rattle.sw_lex.specs.Characters.{IsBoundary, valid_ahead}
use Rattle.sw_lex.specs.Matching.{GoesOn, IsValidPiece, IsPieceWithin, after_piece, escape, high_len, piece, pieces}
use Rattle.sw_lex.proofs.StringLemmas.{pieces-plain}
use Rattle.sw_lex.proofs.PieceLemmas.{Fact, both, equal, piece_fact}
use Rattle.sw_lex.proofs.CharacterLemmas.{bad_before_boundary, valid_len_is, valid_len_more, valid_len_of}

-- ---- bytes of ASCII

abbrev pub AllLow : Text → Type 0
AllLow [] = Unit {0}
AllLow (byte ∷ bytes) = (byte < 128) × AllLow bytes

low_at : (z : Text) → AllLow z → (i : ℕ) → slice_index z i < 128
low_at [] h i = omega arith
low_at (b ∷ z) h zero = h.0
low_at (b ∷ z) h (suc i) = low_at z h.1 i

pub low_utf8 : (z : Text) → AllLow z → IsUtf8 z
low_utf8 z h = IsUtf8-from_ascii z (low_at z h)

low_append : (y z : Text) → AllLow y → AllLow z → AllLow (y ++ z)
low_append [] z h k = k
low_append (b ∷ y) z h k = (h.0, low_append y z h.1 k)

any_low : (letter : ℕ) (known : Text) → AllLow known → list_any (λ k. k == letter) known ≡ true → letter < 128
any_low letter [] h e = absurd (cc)
any_low letter (k ∷ known) h e = go (k == letter) refl (any_low letter known h.1) e
  where
    go : (t : Bool) → (k == letter) ≡ t → (list_any (λ k. k == letter) known ≡ true → letter < 128) → (t || list_any (λ k. k == letter) known) ≡ true → letter < 128
    go true f again e = omega (arith, equal k letter f, h.0)
    go false f again e = again e

letter_low : (letter : ℕ) → is_escape letter ≡ true → letter < 128
letter_low letter h = any_low letter (codes "nrt0\"'\\") (omega arith, (omega arith, (omega arith, (omega arith, (omega arith, (omega arith, (omega arith, tt))))))) h

hex_low : (digits : Text) → list_all (is_in class.Hex) digits ≡ true → AllLow digits
hex_low [] h = tt
hex_low (b ∷ digits) h = let two = both (is_in class.Hex b) (list_all (is_in class.Hex) digits) h in (one b two.0, hex_low digits two.1)
  where
    one : (b : ℕ) → is_in class.Hex b ≡ true → b < 128
    one b h = grind (arith, common_steps)

piece_low : (valid : ℕ) (bytes text : Text) → IsPiece valid bytes text → slice_index bytes 0 < 128 → AllLow bytes
piece_low valid bytes text (inl h) l = subst AllLow (sym h.1) (subst (λ (u : Text). slice_index u 0 < 128) h.1 l, tt)
piece_low valid bytes text (inr (inl h)) l = subst AllLow (sym h.1) (omega arith, (letter_low h.0 h.3, tt))
piece_low valid bytes text (inr (inr h)) l = subst AllLow (sym h.1) (omega arith, (omega arith, (omega arith, low_append h.0 (125 ∷ []) (hex_low h.0 h.3) (omega arith, tt))))

first_taken : (n : ℕ) (b : ℕ) (z : Text) → 1 ≤ n → slice_index (take n (b ∷ z)) 0 ≡ b
first_taken zero b z h = absurd (omega arith)
first_taken (suc n) b z h = refl

-- a piece that begins with a byte of ASCII has no other bytes
pub piece_utf8 : (valid : ℕ) (z : Text) (it : Piece) → 0 < length z → slice_index z 0 < 128 → piece valid z ≡ it → IsValidPiece z it
piece_utf8 valid [] it some l e = absurd (omega arith)
piece_utf8 valid (b ∷ z) it some l e = go it (subst (λ (p : Piece). Fact valid b z p) e (piece_fact valid b z))
  where
    go : (it : Piece) → Fact valid b z it → IsValidPiece (b ∷ z) it
    go (Plain size) f = low_utf8 (take size (b ∷ z)) (piece_low valid (take size (b ∷ z)) f.0 f.1 (subst (λ n. n < 128) (sym (first_taken size b z f.2)) l))
    go Quote f = tt
    go Open f = tt
    go Invalid f = tt
    go LineEnd f = tt

pub one_utf8 : (z : Text) → 0 < length z → slice_index z 0 < 128 → IsUtf8 (take 1 z)
one_utf8 [] some l = absurd (omega arith)
one_utf8 (b ∷ z) some l = low_utf8 (b ∷ []) (l, tt)

-- ---- what a text goes on with after characters

pub ahead_more : (valid_so_far : Bool) (z : Text) (n : ℕ) → (valid_so_far ≡ true → IsUtf8 (take n z)) → n ≤ length z → valid_ahead valid_so_far (drop n z) ≡ valid_ahead valid_so_far z - n
ahead_more true z n u l = omega (arith, valid_len_more z n (u refl) l)
ahead_more false z n u l = omega arith

pub goes_on : (valid : ℕ) (z : Text) (it : Piece) (len : ℕ) → piece valid z ≡ it → IsPieceWithin it len → GoesOn valid z it
goes_on valid [] it len e w = λ before. ap (λ (p : Piece). after_piece p before (λ size. pieces 0 (before + size) (valid - size) (drop size []))) e
goes_on valid (b ∷ z) (Plain size) len e w = λ before. pieces-plain before valid size (b ∷ z) e w.0
goes_on valid (b ∷ z) Quote len e w = λ before. ap (λ (p : Piece). after_piece p before (λ size. pieces (size - 1) (before + 1) (valid - 1) z)) e
goes_on valid (b ∷ z) Open len e w = λ before. ap (λ (p : Piece). after_piece p before (λ size. pieces (size - 1) (before + 1) (valid - 1) z)) e
goes_on valid (b ∷ z) Invalid len e w = λ before. ap (λ (p : Piece). after_piece p before (λ size. pieces (size - 1) (before + 1) (valid - 1) z)) e
goes_on valid (b ∷ z) LineEnd len e w = λ before. ap (λ (p : Piece). after_piece p before (λ size. pieces (size - 1) (before + 1) (valid - 1) z)) e

pub escape_piece : (valid : ℕ) (z : Text) → 0 < length z → slice_index z 0 ≡ 92 → piece valid z ≡ escape (drop 1 z)
escape_piece valid [] some e = absurd (omega arith)
escape_piece valid (b ∷ z) some e = ap (λ c. piece valid (c ∷ z)) e

pub run_on :
    (valid_so_far : Bool) (z : Text) (at size : ℕ) → GoesOn (valid_ahead valid_so_far (drop at z)) (drop at z) (Plain size) → (valid_so_far ≡ true → IsUtf8 (take size (drop at z))) → size ≤ length (drop at z)
    → pieces 0 (at + size) (valid_ahead valid_so_far (drop (at + size) z)) (drop (at + size) z) ≡ pieces 0 at (valid_ahead valid_so_far (drop at z)) (drop at z)
run_on valid_so_far z at size h u l =
    let bytes : drop (at + size) z ≡ drop size (drop at z) = sym (drop-drop size at z) in
    ap (λ (y : Text). pieces 0 (at + size) (valid_ahead valid_so_far y) y) bytes
    ∙ ap (λ n. pieces 0 (at + size) n (drop size (drop at z))) (ahead_more valid_so_far (drop at z) size u l) ∙ sym (h at)

-- ---- characters beyond ASCII

piece_high : (valid b : ℕ) (z : Text) → nat_le 128 b ≡ true → 0 < valid → piece valid (b ∷ z) ≡ Plain 1
piece_high valid b z h some = grind (arith, common_steps)

piece_none : (valid b : ℕ) (z : Text) → 128 ≤ b → valid ≡ 0 → piece valid (b ∷ z) ≡ Invalid
piece_none valid b z h none = grind (arith, common_steps)

-- no character begins here
pub none_goes_on : (valid : ℕ) (z : Text) → 0 < length z → 128 ≤ slice_index z 0 → valid ≡ 0 → GoesOn valid z Invalid
none_goes_on valid [] some h none = absurd (omega arith)
none_goes_on valid (b ∷ z) some h none = goes_on valid (b ∷ z) Invalid 0 (piece_none valid b z h none) tt

high_more : (n b : ℕ) (z : Text) → suc n ≤ high_len (b ∷ z) → (nat_le 128 b ≡ true) × (n ≤ high_len z)
high_more n b z h = go (nat_le 128 b) refl h
  where
    go : (t : Bool) → nat_le 128 b ≡ t → suc n ≤ cond t (1 + high_len z) 0 → (nat_le 128 b ≡ true) × (n ≤ high_len z)
    go true e l = (e, omega (arith, l))
    go false e l = absurd (omega (arith, l))

pieces_high : (n before valid : ℕ) (z : Text) → n ≤ valid → n ≤ high_len z → pieces 0 before valid z ≡ pieces 0 (before + n) (valid - n) (drop n z)
pieces_high zero before valid z l h = let a : before ≡ before + 0 = omega arith in let g : valid ≡ valid - 0 = omega arith in
    ap (λ m. pieces 0 m valid z) a ∙ ap (λ m. pieces 0 (before + 0) m z) g
pieces_high (suc n) before valid [] l h = absurd (omega (arith, h))
pieces_high (suc n) before valid (b ∷ z) l h =
    let two = high_more n b z h in
    let a : before + 1 + n ≡ before + suc n = omega arith in
    let g : valid - 1 - n ≡ valid - suc n = omega arith in
    ap (λ (p : Piece). after_piece p before (λ size. pieces (size - 1) (before + 1) (valid - 1) z)) (piece_high valid b z two.0 (omega (arith, l)))
    ∙ pieces_high n (before + 1) (valid - 1) z (omega (arith, l)) two.1
    ∙ ap (λ m. pieces 0 m (valid - 1 - n) (drop n z)) a ∙ ap (λ m. pieces 0 (before + suc n) m (drop n z)) g

-- the characters up to the next byte of ASCII
pub high_goes_on : (z : Text) (n : ℕ) → IsValidPrefix (take (high_len z) z) n → GoesOn (utf8_valid_len z) z (Plain n)
high_goes_on z n g = λ before.
    let high = high_len z in
    let within = prefix_len-le-length (λ byte. nat_le 128 byte) z in
    let prefix = valid_len_is (take (high_len z) z) n g in
    let len = length-take-le (high_len z) z within in
    let small : n ≤ high_len z = omega (arith, prefix.1, len) in
    let chars : IsUtf8 (take n z) = subst IsUtf8 (take-take n (high_len z) z small) prefix.0 in
    let utf8_valid = valid_len_more z n chars (omega (arith, small, within)) in
    pieces_high n before (utf8_valid_len z) z (omega (arith, utf8_valid)) small

high_boundary : (z : Text) → IsBoundary z (high_len z)
high_boundary z = go (nat_lt (high_len z) (length z)) refl
  where
    go : (t : Bool) → nat_lt (high_len z) (length z) ≡ t → IsBoundary z (high_len z)
    go true e =
        let short : high_len z < length z = grind (arith, common_steps) in
        let stop : nat_le 128 (slice_index z (high_len z)) ≡ false = prefix_len_stops (λ byte. nat_le 128 byte) z 0 short in
        inr (inl (short, grind (arith, common_steps)))
    go false e = let big : length z ≤ high_len z = grind (arith, common_steps) in inl (omega (arith, big, prefix_len-le-length (λ byte. nat_le 128 byte) z))

high_some : (z : Text) → 0 < length z → 128 ≤ slice_index z 0 → 1 ≤ high_len z
high_some [] some h = absurd (omega arith)
high_some (b ∷ z) some h = let e : nat_le 128 b ≡ true = grind (arith, common_steps) in
    subst (λ (t : Bool). 1 ≤ cond t (1 + high_len z) 0) (sym e) (omega arith)

pub none_ahead : (z : Text) (n : ℕ) → 0 < length z → 128 ≤ slice_index z 0 → n ≡ 0 → IsValidPrefix (take (high_len z) z) n → utf8_valid_len z ≡ 0
none_ahead z n some h e (inl g) = absurd (omega (arith, g.0, e, length-take-le (high_len z) z (prefix_len-le-length (λ byte. nat_le 128 byte) z), high_some z some h))
none_ahead z n some h e (inr v) = valid_len_of z n (inr (bad_before_boundary z (high_len z) n (prefix_len-le-length (λ byte. nat_le 128 byte) z) (high_boundary z) v)) ∙ e
