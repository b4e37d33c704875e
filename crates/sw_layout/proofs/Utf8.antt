-- What the pieces of a string stand for is UTF-8 where their bytes are.
use Rattle.std.proofs.Common.{◌≡◌, ◌<◌, ℕ, zero, suc, ◌-◌, ◌==◌, Bool, true, false, cond, ◌||◌, ◌&&◌, List, [], ◌∷◌, ◌++◌, length, take, drop, refl, ap, sym, ◌∙◌, subst, arith, nat_lt, nat_le, append_assoc, length-append}
use Rattle.std.proofs.lemmas.Grind.{common_steps}
use Rattle.std.proofs.lemmas.Str.{IsUtf8-append, IsUtf8-drop, IsUtf8-take, IsUtf8-from_ascii, IsUtf8-encode, IsCharBoundary-from_take, IsCharBoundary-before_ascii}
use mathlib.Core.Logic.{◌⊎◌, inl, inr}
use Rattle.std.specs.Prelude.{slice_index, codes}
use Rattle.std.specs.List.{list_all, list_any}
use Rattle.std.specs.Str.{IsUtf8}
use Rattle.sw_lex.specs.declared.bytes.Class.TheVariants as class
use Rattle.sw_lex.specs.Bytes.{Text, is_in}
use Rattle.sw_lex.specs.Strings.{Part, IsPiece, ArePieces, bytes_of, text_of, is_escape, escaped, hex_number}

-- ---- bytes of ASCII

abbrev pub AllLow : Text → Type 0
AllLow [] = Unit {0}
AllLow (byte ∷ bytes) = (byte < 128) × AllLow bytes

low_at : (z : Text) → AllLow z → (i : ℕ) → slice_index z i < 128
low_at [] h i = omega arith
low_at (b ∷ z) h zero = h.0
low_at (b ∷ z) h (suc i) = low_at z h.1 i

pub low_utf8 : (z : Text) → AllLow z → IsUtf8 z
low_utf8 z h = IsUtf8-from_ascii z (low_at z h)

both : (s t : Bool) → (s && t) ≡ true → (s ≡ true) × (t ≡ true)
both true true h = (refl, refl)
both true false h = absurd (cc)
both false t h = absurd (cc)

at_boundary : (ds rest : Text) (b : ℕ) → slice_index (ds ++ b ∷ rest) (length ds) ≡ b
at_boundary [] rest b = refl
at_boundary (d ∷ ds) rest b = let e : length (d ∷ ds) ≡ suc (length ds) = omega arith in ap (λ n. slice_index (d ∷ (ds ++ b ∷ rest)) n) e ∙ at_boundary ds rest b

low_append : (y z : Text) → AllLow y → AllLow z → AllLow (y ++ z)
low_append [] z h k = k
low_append (b ∷ y) z h k = (h.0, low_append y z h.1 k)

any_low : (letter : ℕ) (known : Text) → AllLow known → list_any (λ k. k == letter) known ≡ true → letter < 128
any_low letter [] h e = absurd (cc)
any_low letter (k ∷ known) h e = go (k == letter) refl (any_low letter known h.1) e
  where
    go : (t : Bool) → (k == letter) ≡ t → (list_any (λ k. k == letter) known ≡ true → letter < 128) → (t || list_any (λ k. k == letter) known) ≡ true → letter < 128
    go true f again e = let same : k ≡ letter = grind (arith, common_steps) in omega (arith, same, h.0)
    go false f again e = again e

letter_low : (letter : ℕ) → is_escape letter ≡ true → letter < 128
letter_low letter h = any_low letter (codes "nrt0\"'\\") (omega arith, (omega arith, (omega arith, (omega arith, (omega arith, (omega arith, (omega arith, tt))))))) h

hex_low : (digits : Text) → list_all (is_in class.Hex) digits ≡ true → AllLow digits
hex_low [] h = tt
hex_low (b ∷ digits) h = let two = both (is_in class.Hex b) (list_all (is_in class.Hex) digits) h in (one b two.0, hex_low digits two.1)
  where
    one : (b : ℕ) → is_in class.Hex b ≡ true → b < 128
    one b h = grind (arith, common_steps)

escaped_low : (letter : ℕ) → is_escape letter ≡ true → escaped letter < 128
escaped_low letter h = let low = letter_low letter h in grind (arith, common_steps)

-- after characters, what is left of a text of characters is one
pub rest_utf8 : (prefix rest : Text) → IsUtf8 prefix → IsUtf8 (prefix ++ rest) → IsUtf8 rest
rest_utf8 prefix rest u w =
    let boundary = IsCharBoundary-from_take (prefix ++ rest) (length prefix) w (omega (arith, length-append prefix rest)) (subst IsUtf8 (sym (taken prefix)) u) in
    subst IsUtf8 (dropped prefix) (IsUtf8-drop (prefix ++ rest) (length prefix) w boundary)
  where
    taken : (prefix : Text) → take (length prefix) (prefix ++ rest) ≡ prefix
    taken [] = refl
    taken (b ∷ prefix) = let e : length (b ∷ prefix) ≡ suc (length prefix) = omega arith in ap (λ n. take n (b ∷ (prefix ++ rest))) e ∙ ap (λ u. b ∷ u) (taken prefix)

    dropped : (prefix : Text) → drop (length prefix) (prefix ++ rest) ≡ rest
    dropped [] = refl
    dropped (b ∷ prefix) = let e : length (b ∷ prefix) ≡ suc (length prefix) = omega arith in ap (λ n. drop n (b ∷ (prefix ++ rest))) e ∙ dropped prefix

-- before a byte of ASCII a character ends
pub prefix_utf8 : (prefix rest : Text) (byte : ℕ) → byte < 128 → IsUtf8 (prefix ++ byte ∷ rest) → IsUtf8 prefix
prefix_utf8 prefix rest byte low w =
    let here : slice_index (prefix ++ byte ∷ rest) (length prefix) ≡ byte = at_boundary prefix rest byte in
    let boundary = IsCharBoundary-before_ascii (prefix ++ byte ∷ rest) (length prefix) (omega (arith, length-append prefix (byte ∷ rest))) (omega (arith, here, low)) in
    subst IsUtf8 (taken prefix) (IsUtf8-take (prefix ++ byte ∷ rest) (length prefix) w boundary)
  where
    taken : (prefix : Text) → take (length prefix) (prefix ++ byte ∷ rest) ≡ prefix
    taken [] = refl
    taken (b ∷ prefix) = let e : length (b ∷ prefix) ≡ suc (length prefix) = omega arith in ap (λ n. take n (b ∷ (prefix ++ byte ∷ rest))) e ∙ ap (λ u. b ∷ u) (taken prefix)

either_one : (s t : Bool) → (s || t) ≡ true → cond s true t ≡ true
either_one true t h = refl
either_one false t h = h

-- A piece begins with a byte of ASCII, and then its text is UTF-8; or it is one other byte, for which it stands.
abbrev PieceFact : Text → Text → Type 0
PieceFact bytes text = ((byte : ℕ) × (more : Text) × (bytes ≡ byte ∷ more) × AllLow (byte ∷ more) × IsUtf8 text) ⊎ ((byte : ℕ) × (bytes ≡ byte ∷ []) × (text ≡ byte ∷ []))

piece_fact : (valid : ℕ) (bytes text : Text) → IsPiece valid bytes text → PieceFact bytes text
piece_fact valid bytes text (inl (byte, e, f, plain)) = go (nat_lt byte 128) refl
  where
    go : (t : Bool) → nat_lt byte 128 ≡ t → PieceFact bytes text
    go true h = let low : byte < 128 = grind (arith, common_steps) in inl (byte, [], e, (low, tt), subst IsUtf8 (sym f) (low_utf8 (byte ∷ []) (low, tt)))
    go false h = inr (byte, e, f)
piece_fact valid bytes text (inr (inl (letter, e, f, known))) =
    inl (92, letter ∷ [], e, (omega arith, (letter_low letter known, tt)), subst IsUtf8 (sym f) (low_utf8 (escaped letter ∷ []) (escaped_low letter known, tt)))
piece_fact valid bytes text (inr (inr (digits, e, f, hex, some, few, scalar))) =
    inl (92, _, e, (omega arith, (omega arith, (omega arith, low_append digits (125 ∷ []) (hex_low digits hex) (omega arith, tt)))), subst IsUtf8 (sym f) (IsUtf8-encode (hex_number 0 digits) (either_one (nat_lt (hex_number 0 digits) 55296) (nat_le 57344 (hex_number 0 digits) && nat_lt (hex_number 0 digits) 1114112) scalar)))

-- bytes that are no ASCII, so far, with those of the pieces after them
pub text_utf8 : (valid : ℕ) (high : Text) (parts : List Part) → ArePieces valid parts → IsUtf8 (high ++ bytes_of parts) → IsUtf8 (high ++ text_of parts)
text_utf8 valid high [] are u = u
text_utf8 valid high (part ∷ parts) are u = go (piece_fact valid part.bytes part.text are.0) (λ high. text_utf8 (valid - length part.bytes) high parts are.1)
  where
    go : PieceFact part.bytes part.text → ((high : Text) → IsUtf8 (high ++ bytes_of parts) → IsUtf8 (high ++ text_of parts)) → IsUtf8 (high ++ (part.text ++ text_of parts))
    go (inl (byte, more, e, low, t)) again =
        let whole : IsUtf8 (high ++ byte ∷ (more ++ bytes_of parts)) = subst (λ (b : Text). IsUtf8 (high ++ (b ++ bytes_of parts))) e u in
        let prefix : IsUtf8 high = prefix_utf8 high (more ++ bytes_of parts) byte low.0 whole in
        let following : IsUtf8 (bytes_of parts) = rest_utf8 (byte ∷ more) (bytes_of parts) (low_utf8 (byte ∷ more) low) (rest_utf8 high (byte ∷ (more ++ bytes_of parts)) prefix whole) in
        IsUtf8-append high (part.text ++ text_of parts) prefix (IsUtf8-append part.text (text_of parts) t (again [] following))
    go (inr (byte, e, f)) again =
        let whole : IsUtf8 (high ++ byte ∷ bytes_of parts) = subst (λ (b : Text). IsUtf8 (high ++ (b ++ bytes_of parts))) e u in
        let more = again (high ++ byte ∷ []) (subst IsUtf8 (sym (append_assoc high (byte ∷ []) (bytes_of parts))) whole) in
        subst (λ (t : Text). IsUtf8 (high ++ (t ++ text_of parts))) (sym f) (subst IsUtf8 (append_assoc high (byte ∷ []) (text_of parts)) more)
