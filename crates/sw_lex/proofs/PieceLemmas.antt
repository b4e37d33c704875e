-- One piece of a string, as the code reads it, is what the relation says.
use Rattle.std.proofs.Common.{◌≡◌, ◌<◌, ◌≤◌, ℕ, zero, suc, ◌+◌, ◌==◌, Bool, true, false, cond, ◌&&◌, [], ◌∷◌, ◌++◌, length, take, drop, refl, ap, sym, ◌∙◌, subst, arith, nat_le, append_assoc, length-append}
use Rattle.std.proofs.Math.Seq.{take-append_seam}
use Rattle.std.proofs.lemmas.Grind.{common_steps}
use Rattle.std.proofs.lemmas.List.Folds.{length-prefix_len}
use mathlib.Core.Logic.{inl, inr}
use Rattle.std.specs.Prelude.{slice_index}
use Rattle.std.specs.Char.{encode_utf8}
use Rattle.std.specs.List.{prefix_len, list_all}
use Rattle.sw_lex.specs.declared.bytes.Class.TheVariants as class
use Rattle.sw_lex.specs.declared.strings.Piece.{Piece}
use Rattle.sw_lex.specs.declared.strings.Piece.TheVariants.{Plain, Quote, Open, Invalid, LineEnd}
use Rattle.sw_lex.specs.Bytes.{Text, is_in}
use Rattle.sw_lex.specs.Strings.{IsPiece, is_plain, is_escape, escaped, hex_number, is_scalar}
use Rattle.sw_lex.specs.Matching.{piece, escape, unicode, hex_len, piece_text, piece_len, scalar_text}

pick : (P : Piece → Type 0) (t : Bool) (a b : Piece) → (t ≡ true → P a) → (t ≡ false → P b) → P (cond t a b)
pick P true a b f g = f refl
pick P false a b f g = g refl

pub equal : (x y : ℕ) → (x == y) ≡ true → x ≡ y
equal x y h = grind (arith, common_steps)

pub both : (s t : Bool) → (s && t) ≡ true → (s ≡ true) × (t ≡ true)
both true true h = (refl, refl)
both true false h = absurd (cc)
both false t h = absurd (cc)

-- ---- runs

all_run : (p : ℕ → Bool) (z : Text) → list_all p (take (prefix_len p z) z) ≡ true
all_run p [] = refl
all_run p (b ∷ z) = go (p b) refl (all_run p z)
  where
    go : (t : Bool) → p b ≡ t → list_all p (take (prefix_len p z) z) ≡ true → list_all p (take (cond t (1 + prefix_len p z) 0) (b ∷ z)) ≡ true
    go true e h = let one : 1 + prefix_len p z ≡ suc (prefix_len p z) = omega arith in
        ap (λ n. list_all p (take n (b ∷ z))) one ∙ ap (λ t. t && list_all p (take (prefix_len p z) z)) e ∙ h
    go false e h = refl

run_to : (p : ℕ → Bool) (ds rest : Text) (b : ℕ) → list_all p ds ≡ true → p b ≡ false → prefix_len p (ds ++ b ∷ rest) ≡ length ds
run_to p [] rest b h e = ap (λ t. cond t (1 + prefix_len p rest) 0) e
run_to p (d ∷ ds) rest b h e =
    let two = both (p d) (list_all p ds) h in
    let more = run_to p ds rest b two.1 e in
    ap (λ t. cond t (1 + prefix_len p (ds ++ b ∷ rest)) 0) two.0 ∙ omega (arith, more)

pub at_boundary : (ds rest : Text) (b : ℕ) → slice_index (ds ++ b ∷ rest) (length ds) ≡ b
at_boundary [] rest b = refl
at_boundary (d ∷ ds) rest b = let e : length (d ∷ ds) ≡ suc (length ds) = omega arith in ap (λ n. slice_index (d ∷ ds ++ b ∷ rest) n) e ∙ at_boundary ds rest b

take_one_more : (n : ℕ) (w : Text) → n < length w → take (suc n) w ≡ take n w ++ slice_index w n ∷ []
take_one_more n [] h = absurd (omega arith)
take_one_more zero (b ∷ w) h = refl
take_one_more (suc n) (b ∷ w) h = ap (λ u. b ∷ u) (take_one_more n w (omega arith))

-- ---- what the code reads is a piece

abbrev pub Fact : ℕ → ℕ → Text → Piece → Type 0
Fact valid byte bytes (Plain size) = (text : Text) × IsPiece valid (take size (byte ∷ bytes)) text × (1 ≤ size) × (size ≤ length (byte ∷ bytes))
Fact valid byte bytes Quote = byte ≡ 34
Fact valid byte bytes Open = (byte ≡ 92) × (slice_index bytes 0 ≡ 40)
Fact valid byte bytes Invalid = Unit {0}
Fact valid byte bytes LineEnd = byte ≡ 10

abbrev digits_test : ℕ → Text → Bool
digits_test n w = (nat_le 1 n && nat_le n 8) && (slice_index w n == 125 && is_scalar (hex_number 0 (take n w)))

scalar_found : (valid n : ℕ) (w : Text) → n ≡ hex_len w → digits_test n w ≡ true → Fact valid 92 (117 ∷ 123 ∷ w) (Plain (n + 4))
scalar_found valid n w e q =
    let all = both (nat_le 1 n && nat_le n 8) (slice_index w n == 125 && is_scalar (hex_number 0 (take n w))) q in
    let sizes = both (nat_le 1 n) (nat_le n 8) all.0 in
    let ends = both (slice_index w n == 125) (is_scalar (hex_number 0 (take n w))) all.1 in
    let one : nat_le 1 n ≡ true = sizes.0 in
    let eight : nat_le n 8 ≡ true = sizes.1 in
    let least : 1 ≤ n = grind (arith, common_steps) in
    let most : n ≤ 8 = grind (arith, common_steps) in
    let brace : slice_index w n ≡ 125 = equal (slice_index w n) 125 ends.0 in
    let inside : n < length w = grind (arith, common_steps) in
    let four : n + 4 ≡ suc (suc (suc (suc n))) = omega arith in
    let len : length (take n w) ≡ n = ap (λ k. length (take k w)) e ∙ length-prefix_len (is_in class.Hex) w ∙ sym e in
    let spelled : take (n + 4) (92 ∷ 117 ∷ 123 ∷ w) ≡ 92 ∷ 117 ∷ 123 ∷ (take n w ++ 125 ∷ []) =
    ap (λ k. take k (92 ∷ 117 ∷ 123 ∷ w)) four ∙ ap (λ (u : Text). 92 ∷ 117 ∷ 123 ∷ u) (take_one_more n w inside ∙ ap (λ b. take n w ++ b ∷ []) brace) in (
      encode_utf8 (hex_number 0 (take n w)),
      inr (inr (take n w, spelled, refl, ap (λ k. list_all (is_in class.Hex) (take k w)) e ∙ all_run (is_in class.Hex) w, omega (arith, len, least), omega (arith, len, most), ends.1)),
      omega arith,
      omega (arith, inside),
    )

scalar_fact : (valid : ℕ) (w : Text) → Fact valid 92 (117 ∷ 123 ∷ w) (unicode w)
scalar_fact valid w = pick (Fact valid 92 (117 ∷ 123 ∷ w)) (digits_test (hex_len w) w) (Plain (hex_len w + 4)) Invalid (scalar_found valid (hex_len w) w refl) (λ _. tt)

unicode_fact : (valid letter : ℕ) (rest : Text) → (letter == 117 && slice_index rest 0 == 123) ≡ true → Fact valid 92 (letter ∷ rest) (unicode (drop 1 rest))
unicode_fact valid letter [] q = absurd (let two = both (letter == 117) false q in cc)
unicode_fact valid letter (brace ∷ w) q =
    let two = both (letter == 117) (brace == 123) q in
    subst (λ l. Fact valid 92 (l ∷ brace ∷ w) (unicode w)) (sym (equal letter 117 two.0))
    (subst (λ b. Fact valid 92 (117 ∷ b ∷ w) (unicode w)) (sym (equal brace 123 two.1)) (scalar_fact valid w))

escape_fact : (valid : ℕ) (bytes : Text) → Fact valid 92 bytes (escape bytes)
escape_fact valid [] = tt
escape_fact valid (letter ∷ rest) =
    pick (Fact valid 92 (letter ∷ rest)) (letter == 40) Open _ (λ q. (refl, equal letter 40 q)) (λ _.
    pick (Fact valid 92 (letter ∷ rest)) (is_escape letter) (Plain 2) _ (λ q. (escaped letter ∷ [], inr (inl (letter, refl, refl, q)), omega arith, omega arith)) (λ _.
    pick (Fact valid 92 (letter ∷ rest)) (letter == 117 && slice_index rest 0 == 123) (unicode (drop 1 rest)) Invalid (unicode_fact valid letter rest) (λ _. tt)))

plain_of : (valid byte : ℕ) → (byte == 34) ≡ false → (byte == 10) ≡ false → (byte == 13) ≡ false → (byte == 92) ≡ false → (nat_le 128 byte && valid == 0) ≡ false → is_plain valid byte ≡ true
plain_of valid byte a b c d e = grind (arith, common_steps)

pub piece_fact : (valid byte : ℕ) (bytes : Text) → Fact valid byte bytes (piece valid (byte ∷ bytes))
piece_fact valid byte bytes =
    pick (Fact valid byte bytes) (byte == 34) Quote _ (equal byte 34) (λ quote.
    pick (Fact valid byte bytes) (byte == 10) LineEnd _ (equal byte 10) (λ line.
    pick (Fact valid byte bytes) (byte == 13) Invalid _ (λ _. tt) (λ return.
    pick (Fact valid byte bytes) (byte == 92) (escape bytes) _ (λ q. subst (λ b. Fact valid b bytes (escape bytes)) (sym (equal byte 92 q)) (escape_fact valid bytes)) (λ slash.
    pick (Fact valid byte bytes) (nat_le 128 byte && valid == 0) Invalid (Plain 1) (λ _. tt)
    (λ plain. (byte ∷ [], inl (byte, refl, refl, plain_of valid byte quote line return slash plain), omega arith, omega arith))))))

-- ---- a piece is read by the code

keep : (t : Bool) (a b x : Piece) → t ≡ true → a ≡ x → cond t a b ≡ x
keep true a b x h e = e
keep false a b x h e = absurd (cc)

skip : (t : Bool) (a b x : Piece) → t ≡ false → b ≡ x → cond t a b ≡ x
skip true a b x h e = absurd (cc)
skip false a b x h e = e

keep_text : (t : Bool) (a b : Text) → t ≡ true → cond t a b ≡ a
keep_text true a b h = refl
keep_text false a b h = absurd (cc)

skip_text : (t : Bool) (a b : Text) → t ≡ false → cond t a b ≡ b
skip_text true a b h = absurd (cc)
skip_text false a b h = refl

skip_size : (t : Bool) (a b : ℕ) → t ≡ false → cond t a b ≡ b
skip_size true a b h = absurd (cc)
skip_size false a b h = refl

abbrev IsRead : ℕ → Text → Text → Text → Type 0
IsRead valid bytes text rest =
    (piece valid (bytes ++ rest) ≡ Plain (length bytes)) × (1 ≤ length bytes) × (piece_text (bytes ++ rest) ≡ text) × (piece_len (bytes ++ rest) ≡ length bytes)

other_letter : (letter other : ℕ) → is_escape other ≡ false → is_escape letter ≡ true → (letter == other) ≡ false
other_letter letter other h k = go (letter == other) refl
  where
    go : (t : Bool) → (letter == other) ≡ t → (letter == other) ≡ false
    go false e = e
    go true e = let same : is_escape letter ≡ is_escape other = ap is_escape (equal letter other e) in absurd (cc)

character_tests : (valid byte : ℕ) → is_plain valid byte ≡ true → ((byte == 34) ≡ false) × ((byte == 10) ≡ false) × ((byte == 13) ≡ false) × ((byte == 92) ≡ false) × ((nat_le 128 byte && valid == 0) ≡ false)
character_tests valid byte h = (grind (arith, common_steps), grind (arith, common_steps), grind (arith, common_steps), grind (arith, common_steps), grind (arith, common_steps))

character_read : (valid byte : ℕ) (rest : Text) → is_plain valid byte ≡ true → IsRead valid (byte ∷ []) (byte ∷ []) rest
character_read valid byte rest h =
    let t = character_tests valid byte h in (
      skip (byte == 34) Quote _ _ t.0 (skip (byte == 10) LineEnd _ _ t.1 (skip (byte == 13) Invalid _ _ t.2 (skip (byte == 92) (escape rest) _ _ t.3 (skip (nat_le 128 byte && valid == 0) Invalid (Plain 1) _ t.4 refl)))),
      omega arith,
      skip_text (byte == 92) _ (byte ∷ []) t.3,
      skip_size (byte == 92) _ 1 t.3,
    )

escape_read : (valid letter : ℕ) (rest : Text) → is_escape letter ≡ true → IsRead valid (92 ∷ letter ∷ []) (escaped letter ∷ []) rest
escape_read valid letter rest h = (
  skip (letter == 40) Open _ _ (other_letter letter 40 refl h) (keep (is_escape letter) (Plain 2) _ _ h refl),
  omega arith,
  skip_text (letter == 117) _ (escaped letter ∷ []) (other_letter letter 117 refl h),
  skip_size (letter == 117) _ 2 (other_letter letter 117 refl h),
)

test_of : (n b : ℕ) (s : Bool) → 1 ≤ n → n ≤ 8 → b ≡ 125 → s ≡ true → ((nat_le 1 n && nat_le n 8) && (b == 125 && s)) ≡ true
test_of n b s h k e f = grind (arith, common_steps)

digits_read : (valid : ℕ) (digits rest : Text) → list_all (is_in class.Hex) digits ≡ true → 1 ≤ length digits → length digits ≤ 8 → is_scalar (hex_number 0 digits) ≡ true
    → (piece valid (92 ∷ 117 ∷ 123 ∷ (digits ++ 125 ∷ rest)) ≡ Plain (length digits + 4))
    × (piece_text (92 ∷ 117 ∷ 123 ∷ (digits ++ 125 ∷ rest)) ≡ encode_utf8 (hex_number 0 digits))
    × (piece_len (92 ∷ 117 ∷ 123 ∷ (digits ++ 125 ∷ rest)) ≡ length digits + 4)
digits_read valid digits rest hex least most scalar =
    let w = digits ++ 125 ∷ rest in
    let len : hex_len (digits ++ 125 ∷ rest) ≡ length digits = run_to (is_in class.Hex) digits rest 125 hex refl in
    let taken : take (length digits) (digits ++ 125 ∷ rest) ≡ digits = take-append_seam digits (125 ∷ rest) in
    let named : is_scalar (hex_number 0 (take (length digits) (digits ++ 125 ∷ rest))) ≡ true = ap (λ u. is_scalar (hex_number 0 u)) taken ∙ scalar in (
      ap (λ n. cond (digits_test n (digits ++ 125 ∷ rest)) (Plain (n + 4)) Invalid) len
          ∙ keep _ (Plain (length digits + 4)) Invalid _ (test_of (length digits) (slice_index (digits ++ 125 ∷ rest) (length digits)) _ least most (at_boundary digits rest 125) named) refl,
      ap (λ n. scalar_text (hex_number 0 (take n (digits ++ 125 ∷ rest)))) len ∙ ap (λ u. scalar_text (hex_number 0 u)) taken ∙ keep_text (is_scalar (hex_number 0 digits)) (encode_utf8 (hex_number 0 digits)) [] scalar,
      ap (λ n. n + 4) len,
    )

scalar_read : (valid : ℕ) (digits rest : Text) → list_all (is_in class.Hex) digits ≡ true → 1 ≤ length digits → length digits ≤ 8 → is_scalar (hex_number 0 digits) ≡ true
    → IsRead valid (92 ∷ 117 ∷ 123 ∷ (digits ++ 125 ∷ [])) (encode_utf8 (hex_number 0 digits)) rest
scalar_read valid digits rest hex least most scalar =
    let r = digits_read valid digits rest hex least most scalar in
    let joined : (92 ∷ 117 ∷ 123 ∷ (digits ++ 125 ∷ [])) ++ rest ≡ 92 ∷ 117 ∷ 123 ∷ (digits ++ 125 ∷ rest) = ap (λ u. 92 ∷ 117 ∷ 123 ∷ u) (append_assoc digits (125 ∷ []) rest) in
    let len : length digits + 4 ≡ length (92 ∷ 117 ∷ 123 ∷ (digits ++ 125 ∷ [])) = omega (arith, length-append digits (125 ∷ [])) in
    (ap (piece valid) joined ∙ r.0 ∙ ap Plain len, omega (arith, len), ap piece_text joined ∙ r.1, ap piece_len joined ∙ r.2 ∙ len)

pub piece_read : (valid : ℕ) (bytes text rest : Text) → IsPiece valid bytes text → IsRead valid bytes text rest
piece_read valid bytes text rest (inl h) =
    subst (λ u. IsRead valid u text rest) (sym h.1) (subst (λ v. IsRead valid (h.0 ∷ []) v rest) (sym h.2) (character_read valid h.0 rest h.3))
piece_read valid bytes text rest (inr (inl h)) =
    subst (λ u. IsRead valid u text rest) (sym h.1) (subst (λ v. IsRead valid (92 ∷ h.0 ∷ []) v rest) (sym h.2) (escape_read valid h.0 rest h.3))
piece_read valid bytes text rest (inr (inr h)) =
    subst (λ u. IsRead valid u text rest) (sym h.1) (subst (λ v. IsRead valid (92 ∷ 117 ∷ 123 ∷ (h.0 ++ 125 ∷ [])) v rest) (sym h.2) (scalar_read valid h.0 rest h.3 h.4 h.5 h.6))
