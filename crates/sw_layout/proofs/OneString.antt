-- The bytes of a string are cut into pieces in one way.
use Rattle.std.proofs.Common.{◌≡◌, ℕ, ◌-◌, true, false, ◌⊎◌, List, [], ◌∷◌, ◌++◌, length, drop, refl, ap, sym, ◌∙◌, subst, arith, append_assoc}
use Rattle.std.proofs.Math.Seq.{drop-append_seam}
use Rattle.std.specs.List.{list_all}
use mathlib.Core.Logic.{inl, inr}
use Rattle.sw_lex.specs.declared.bytes.Class.TheVariants as class
use Rattle.sw_lex.specs.Bytes.{Text, is_in}
use Rattle.sw_lex.specs.Lexemes.{opening, IsLineEnd, IsUnterminatedString, IsString}
use Rattle.sw_lex.specs.Strings.{Part, ArePieces, IsPiece, bytes_of, is_escape, is_plain}
use Rattle.sw_layout.proofs.MarkTable.{both}

-- ---- one piece

same_first : (a b : ℕ) (x y : Text) → a ∷ x ≡ b ∷ y → a ≡ b
same_first a b x y e = cc

same_second : (a b c d : ℕ) (x y : Text) → a ∷ c ∷ x ≡ b ∷ d ∷ y → c ≡ d
same_second a b c d x y e = cc

-- an escape begins with a byte that stands for none
no_plain : (valid byte : ℕ) → is_plain valid byte ≡ true → byte ≡ 92 → ⊥
no_plain valid byte h e = let other : is_plain valid byte ≡ false = ap (is_plain valid) e in cc

-- `\u` is no escape of one letter
no_letter : (letter : ℕ) → is_escape letter ≡ true → letter ≡ 117 → ⊥
no_letter letter h e = let other : is_escape letter ≡ false = ap is_escape e in cc

-- digits up to a `}`
same_digits : (a b x y : Text) → list_all (is_in class.Hex) a ≡ true → list_all (is_in class.Hex) b ≡ true → a ++ 125 ∷ x ≡ b ++ 125 ∷ y → a ≡ b
same_digits [] [] x y h g e = refl
same_digits [] (d ∷ b) x y h g e =
    let two = both (is_in class.Hex d) (list_all (is_in class.Hex) b) g in
    let brace : is_in class.Hex d ≡ false = ap (is_in class.Hex) (sym (same_first 125 d x (b ++ 125 ∷ y) e)) in
    absurd (let hex = two.0 in cc)
same_digits (d ∷ a) [] x y h g e =
    let two = both (is_in class.Hex d) (list_all (is_in class.Hex) a) h in
    let brace : is_in class.Hex d ≡ false = ap (is_in class.Hex) (same_first d 125 (a ++ 125 ∷ x) y e) in
    absurd (let hex = two.0 in cc)
same_digits (c ∷ a) (d ∷ b) x y h g e =
    let more : a ++ 125 ∷ x ≡ b ++ 125 ∷ y = cc in
    let first : c ≡ d = same_first c d (a ++ 125 ∷ x) (b ++ 125 ∷ y) e in
    let rest : a ≡ b = same_digits a b x y (both (is_in class.Hex c) (list_all (is_in class.Hex) a) h).1 (both (is_in class.Hex d) (list_all (is_in class.Hex) b) g).1 more in
    cc

spelt : (p q x y p' q' : Text) → p ++ x ≡ q ++ y → p ≡ p' → q ≡ q' → p' ++ x ≡ q' ++ y
spelt p q x y p' q' e h g = cc

same_piece : (valid : ℕ) (p s q t x y : Text) → IsPiece valid p s → IsPiece valid q t → p ++ x ≡ q ++ y → p ≡ q
same_piece valid p s q t x y (inl h) (inl g) e =
    let first : h.0 ≡ g.0 = same_first h.0 g.0 x y (spelt p q x y (h.0 ∷ []) (g.0 ∷ []) e h.1 g.1) in
    h.1 ∙ ap (λ b. b ∷ []) first ∙ sym g.1
same_piece valid p s q t x y (inl h) (inr (inl g)) e =
    absurd (no_plain valid h.0 h.3 (same_first h.0 92 x (g.0 ∷ y) (spelt p q x y (h.0 ∷ []) (92 ∷ g.0 ∷ []) e h.1 g.1)))
same_piece valid p s q t x y (inl h) (inr (inr g)) e =
    absurd (no_plain valid h.0 h.3 (same_first h.0 92 x (117 ∷ 123 ∷ ((g.0 ++ 125 ∷ []) ++ y)) (spelt p q x y (h.0 ∷ []) (92 ∷ 117 ∷ 123 ∷ (g.0 ++ 125 ∷ [])) e h.1 g.1)))
same_piece valid p s q t x y (inr (inl h)) (inl g) e =
    absurd (no_plain valid g.0 g.3 (sym (same_first 92 g.0 (h.0 ∷ x) y (spelt p q x y (92 ∷ h.0 ∷ []) (g.0 ∷ []) e h.1 g.1))))
same_piece valid p s q t x y (inr (inl h)) (inr (inl g)) e =
    let letter : h.0 ≡ g.0 = same_second 92 92 h.0 g.0 x y (spelt p q x y (92 ∷ h.0 ∷ []) (92 ∷ g.0 ∷ []) e h.1 g.1) in
    h.1 ∙ ap (λ b. 92 ∷ b ∷ []) letter ∙ sym g.1
same_piece valid p s q t x y (inr (inl h)) (inr (inr g)) e =
    absurd (no_letter h.0 h.3 (same_second 92 92 h.0 117 x (123 ∷ ((g.0 ++ 125 ∷ []) ++ y)) (spelt p q x y (92 ∷ h.0 ∷ []) (92 ∷ 117 ∷ 123 ∷ (g.0 ++ 125 ∷ [])) e h.1 g.1)))
same_piece valid p s q t x y (inr (inr h)) (inl g) e =
    absurd (no_plain valid g.0 g.3 (sym (same_first 92 g.0 (117 ∷ 123 ∷ ((h.0 ++ 125 ∷ []) ++ x)) y (spelt p q x y (92 ∷ 117 ∷ 123 ∷ (h.0 ++ 125 ∷ [])) (g.0 ∷ []) e h.1 g.1))))
same_piece valid p s q t x y (inr (inr h)) (inr (inl g)) e =
    absurd (no_letter g.0 g.3 (sym (same_second 92 92 117 g.0 (123 ∷ ((h.0 ++ 125 ∷ []) ++ x)) y (spelt p q x y (92 ∷ 117 ∷ 123 ∷ (h.0 ++ 125 ∷ [])) (92 ∷ g.0 ∷ []) e h.1 g.1))))
same_piece valid p s q t x y (inr (inr h)) (inr (inr g)) e =
    let whole : 92 ∷ 117 ∷ 123 ∷ ((h.0 ++ 125 ∷ []) ++ x) ≡ 92 ∷ 117 ∷ 123 ∷ ((g.0 ++ 125 ∷ []) ++ y) = spelt p q x y (92 ∷ 117 ∷ 123 ∷ (h.0 ++ 125 ∷ [])) (92 ∷ 117 ∷ 123 ∷ (g.0 ++ 125 ∷ [])) e h.1 g.1 in
    let following : (h.0 ++ 125 ∷ []) ++ x ≡ (g.0 ++ 125 ∷ []) ++ y = cc in
    let digits : h.0 ≡ g.0 = same_digits h.0 g.0 x y h.3 g.3 (sym (append_assoc h.0 (125 ∷ []) x) ∙ following ∙ append_assoc g.0 (125 ∷ []) y) in
    h.1 ∙ ap (λ (u : Text). 92 ∷ 117 ∷ 123 ∷ (u ++ 125 ∷ [])) digits ∙ sym g.1

-- ---- the end of the pieces

-- a string ends here, or its line does
abbrev IsEnd : Text → Type 0
IsEnd bytes = ((rest : Text) × (bytes ≡ 34 ∷ rest)) ⊎ ((rest : Text) × (bytes ≡ 92 ∷ 40 ∷ rest)) ⊎ IsLineEnd bytes

-- no piece begins with these
no_piece_at : (valid byte : ℕ) (p s x rest : Text) → IsPiece valid p s → byte ∷ rest ≡ p ++ x → is_plain valid byte ≡ false → (byte ≡ 92 → ⊥) → ⊥
no_piece_at valid byte p s x rest (inl h) e f g =
    let same : byte ≡ h.0 = same_first byte h.0 rest x (e ∙ ap (λ (u : Text). u ++ x) h.1) in
    let other : is_plain valid h.0 ≡ false = ap (is_plain valid) (sym same) ∙ f in
    let plain = h.3 in cc
no_piece_at valid byte p s x rest (inr (inl h)) e f g = g (same_first byte 92 rest (h.0 ∷ x) (e ∙ ap (λ (u : Text). u ++ x) h.1))
no_piece_at valid byte p s x rest (inr (inr h)) e f g = g (same_first byte 92 rest (117 ∷ 123 ∷ ((h.0 ++ 125 ∷ []) ++ x)) (e ∙ ap (λ (u : Text). u ++ x) h.1))

no_opening_piece : (valid : ℕ) (p s x rest : Text) → IsPiece valid p s → 92 ∷ 40 ∷ rest ≡ p ++ x → ⊥
no_opening_piece valid p s x rest (inl h) e = no_plain valid h.0 h.3 (sym (same_first 92 h.0 (40 ∷ rest) x (e ∙ ap (λ (u : Text). u ++ x) h.1)))
no_opening_piece valid p s x rest (inr (inl h)) e =
    let letter : 40 ≡ h.0 = same_second 92 92 40 h.0 rest x (e ∙ ap (λ (u : Text). u ++ x) h.1) in
    let other : is_escape h.0 ≡ false = ap is_escape (sym letter) in
    let known = h.3 in cc
no_opening_piece valid p s x rest (inr (inr h)) e = let letter : 40 ≡ 117 = same_second 92 92 40 117 rest (123 ∷ ((h.0 ++ 125 ∷ []) ++ x)) (e ∙ ap (λ (u : Text). u ++ x) h.1) in absurd (omega (arith, letter))

some_piece : (valid : ℕ) (p s x : Text) → IsPiece valid p s → [] ≡ p ++ x → ⊥
some_piece valid p s x (inl h) e = let none : [] ≡ h.0 ∷ x = e ∙ ap (λ (u : Text). u ++ x) h.1 in cc
some_piece valid p s x (inr (inl h)) e = let none : [] ≡ 92 ∷ h.0 ∷ x = e ∙ ap (λ (u : Text). u ++ x) h.1 in cc
some_piece valid p s x (inr (inr h)) e = let none : [] ≡ 92 ∷ 117 ∷ 123 ∷ ((h.0 ++ 125 ∷ []) ++ x) = e ∙ ap (λ (u : Text). u ++ x) h.1 in cc

no_line_piece : (valid : ℕ) (bytes p s x : Text) → IsLineEnd bytes → IsPiece valid p s → bytes ≡ p ++ x → ⊥
no_line_piece valid [] p s x l h e = some_piece valid p s x h e
no_line_piece valid (byte ∷ bytes) p s x l h e = no_piece_at valid byte p s x bytes h e (ap (is_plain valid) l) (λ slash. let other : 10 ≡ 92 = sym l ∙ slash in omega (arith, other))

no_end_piece : (valid : ℕ) (bytes p s x : Text) → IsEnd bytes → IsPiece valid p s → bytes ≡ p ++ x → ⊥
no_end_piece valid bytes p s x (inl h) g e = no_piece_at valid 34 p s x h.0 g (sym h.1 ∙ e) refl (λ other. omega (arith, other))
no_end_piece valid bytes p s x (inr (inl h)) g e = no_opening_piece valid p s x h.0 g (sym h.1 ∙ e)
no_end_piece valid bytes p s x (inr (inr h)) g e = no_line_piece valid bytes p s x h g e

-- ---- all pieces

after_same : (p q x y : Text) → p ++ x ≡ q ++ y → p ≡ q → x ≡ y
after_same p q x y e h =
    sym (drop-append_seam p x) ∙ ap (drop (length p)) (e ∙ ap (λ (u : Text). u ++ y) (sym h)) ∙ drop-append_seam p y

same_parts : (valid : ℕ) (a b : List Part) (x y : Text) → ArePieces valid a → ArePieces valid b → IsEnd x → IsEnd y → bytes_of a ++ x ≡ bytes_of b ++ y → (bytes_of a ≡ bytes_of b) × (x ≡ y)
same_parts valid [] [] x y h g m n e = (refl, e)
same_parts valid [] (part ∷ b) x y h g m n e = absurd (no_end_piece valid x part.bytes part.text (bytes_of b ++ y) m g.0 (e ∙ append_assoc part.bytes (bytes_of b) y))
same_parts valid (part ∷ a) [] x y h g m n e = absurd (no_end_piece valid y part.bytes part.text (bytes_of a ++ x) n h.0 (sym e ∙ append_assoc part.bytes (bytes_of a) x))
same_parts valid (one ∷ a) (two ∷ b) x y h g m n e =
    let whole : one.bytes ++ (bytes_of a ++ x) ≡ two.bytes ++ (bytes_of b ++ y) = sym (append_assoc one.bytes (bytes_of a) x) ∙ e ∙ append_assoc two.bytes (bytes_of b) y in
    let first : one.bytes ≡ two.bytes = same_piece valid one.bytes one.text two.bytes two.text (bytes_of a ++ x) (bytes_of b ++ y) h.0 g.0 whole in
    let following : bytes_of a ++ x ≡ bytes_of b ++ y = after_same one.bytes two.bytes (bytes_of a ++ x) (bytes_of b ++ y) whole first in
    let left : ArePieces (valid - length one.bytes) b = subst (λ (u : Text). ArePieces (valid - length u) b) (sym first) g.1 in
    let more = same_parts (valid - length one.bytes) a b x y h.1 left m n following in
    (ap (λ (u : Text). u ++ bytes_of a) first ∙ ap (λ (u : Text). two.bytes ++ u) more.0, more.1)

-- ---- strings

-- pieces up to here, after the first byte
abbrev Parted : ℕ → ℕ → Text → Text → Type 0
Parted mark valid bytes rest = (parts : List Part) × (bytes ≡ mark ∷ (bytes_of parts ++ rest)) × ArePieces (valid - 1) parts

same_parted : (mark valid : ℕ) (bytes x y : Text) (a : Parted mark valid bytes x) (b : Parted mark valid bytes y) → IsEnd x → IsEnd y → (bytes_of a.0 ≡ bytes_of b.0) × (x ≡ y)
same_parted mark valid bytes x y a b m n =
    let whole : mark ∷ (bytes_of a.0 ++ x) ≡ mark ∷ (bytes_of b.0 ++ y) = sym a.1 ∙ b.1 in
    let following : bytes_of a.0 ++ x ≡ bytes_of b.0 ++ y = cc in
    same_parts (valid - 1) a.0 b.0 x y a.2 b.2 m n following

abbrev parted : (mark valid : ℕ) (closing bytes : Text) (size : ℕ) (h : IsString mark closing valid bytes size) → Parted mark valid bytes (closing ++ h.1)
parted mark valid closing bytes size h = (h.0, h.2, h.3)

abbrev open_parted : (mark valid : ℕ) (bytes : Text) (h : IsUnterminatedString mark valid bytes) → Parted mark valid bytes h.1
open_parted mark valid bytes h = (h.0, h.2, h.3)

-- two strings that end alike have the same bytes
pub same_closed : (mark valid : ℕ) (bytes : Text) (size other : ℕ) → IsString mark (34 ∷ []) valid bytes size → IsString mark (34 ∷ []) valid bytes other → size ≡ other
same_closed mark valid bytes size other h g =
    let same = same_parted mark valid bytes (34 ∷ h.1) (34 ∷ g.1) (parted mark valid (34 ∷ []) bytes size h) (parted mark valid (34 ∷ []) bytes other g) (inl (h.1, refl)) (inl (g.1, refl)) in
    omega (arith, h.4, g.4, ap length same.0)

pub same_opened : (mark valid : ℕ) (bytes : Text) (size other : ℕ) → IsString mark opening valid bytes size → IsString mark opening valid bytes other → size ≡ other
same_opened mark valid bytes size other h g =
    let same = same_parted mark valid bytes (92 ∷ 40 ∷ h.1) (92 ∷ 40 ∷ g.1) (parted mark valid opening bytes size h) (parted mark valid opening bytes other g) (inr (inl (h.1, refl))) (inr (inl (g.1, refl))) in
    omega (arith, h.4, g.4, ap length same.0)

-- no string ends in two ways
pub closed_or_opened : (mark valid : ℕ) (bytes : Text) (size other : ℕ) → IsString mark (34 ∷ []) valid bytes size → IsString mark opening valid bytes other → ⊥
closed_or_opened mark valid bytes size other h g =
    let same = same_parted mark valid bytes (34 ∷ h.1) (92 ∷ 40 ∷ g.1) (parted mark valid (34 ∷ []) bytes size h) (parted mark valid opening bytes other g) (inl (h.1, refl)) (inr (inl (g.1, refl))) in
    let ends : 34 ≡ 92 = same_first 34 92 h.1 (40 ∷ g.1) same.1 in
    omega (arith, ends)

no_line_here : (byte : ℕ) (x y : Text) → byte ∷ x ≡ y → IsLineEnd y → (byte ≡ 10 → ⊥) → ⊥
no_line_here byte x [] e l h = cc
no_line_here byte x (other ∷ y) e l h = h (same_first byte other x y e ∙ l)

pub closed_or_open : (mark valid : ℕ) (bytes : Text) (size : ℕ) → IsString mark (34 ∷ []) valid bytes size → IsUnterminatedString mark valid bytes → ⊥
closed_or_open mark valid bytes size h g =
    let same = same_parted mark valid bytes (34 ∷ h.1) g.1 (parted mark valid (34 ∷ []) bytes size h) (open_parted mark valid bytes g) (inl (h.1, refl)) (inr (inr g.4)) in
    no_line_here 34 h.1 g.1 same.1 g.4 (λ e. omega (arith, e))

pub opened_or_open : (mark valid : ℕ) (bytes : Text) (size : ℕ) → IsString mark opening valid bytes size → IsUnterminatedString mark valid bytes → ⊥
opened_or_open mark valid bytes size h g =
    let same = same_parted mark valid bytes (92 ∷ 40 ∷ h.1) g.1 (parted mark valid opening bytes size h) (open_parted mark valid bytes g) (inr (inl (h.1, refl))) (inr (inr g.4)) in
    no_line_here 92 (40 ∷ h.1) g.1 same.1 g.4 (λ e. omega (arith, e))
