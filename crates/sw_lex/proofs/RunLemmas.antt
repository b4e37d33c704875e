-- The pieces of a string, as the code reads them, are what the relations say.
use Rattle.std.proofs.Common.{◌≡◌, ◌≤◌, ℕ, zero, suc, ◌+◌, ◌-◌, List, [], ◌∷◌, ◌++◌, length, take, drop, refl, ap, sym, ◌∙◌, subst, arith, append_assoc, length-append}
use Rattle.std.proofs.Math.Seq.{drop-append_seam}
use Rattle.std.proofs.lemmas.List.{take-append-drop}
use Rattle.std.specs.Prelude.{slice_index}
use Rattle.sw_lex.specs.declared.strings.Piece.{Piece}
use Rattle.sw_lex.specs.declared.strings.Piece.TheVariants.{Plain, Quote, Open, Invalid, LineEnd}
use Rattle.sw_lex.specs.declared.strings.StringSegment.{StringSegment}
use Rattle.sw_lex.specs.declared.strings.StringSegment.TheVariants.{Closed, Opened, Malformed, Unterminated}
use Rattle.sw_lex.specs.Bytes.{Text}
use Rattle.sw_lex.specs.Strings.{Part, IsPiece, ArePieces, bytes_of, text_of}
use Rattle.sw_lex.specs.Lexemes.{IsLineEnd}
use Rattle.sw_lex.specs.Matching.{piece, pieces, after_piece, decoded, piece_len}
use Rattle.sw_lex.proofs.PieceLemmas.{piece_fact, piece_read, Fact}
use Rattle.sw_lex.proofs.StringLemmas.{pieces-plain, decoded_more}

-- ---- pieces are read by the code

pub pieces_read : (n valid : ℕ) (parts : List Part) (rest : Text) → ArePieces valid parts
    → pieces 0 n valid (bytes_of parts ++ rest) ≡ pieces 0 (n + length (bytes_of parts)) (valid - length (bytes_of parts)) rest
pieces_read n valid [] rest h = let a : n ≡ n + 0 = omega arith in let b : valid ≡ valid - 0 = omega arith in
    ap (λ m. pieces 0 m valid rest) a ∙ ap (λ g. pieces 0 (n + 0) g rest) b
pieces_read n valid (part ∷ parts) rest h =
    let more : Text = bytes_of parts ++ rest in
    let size : ℕ = length part.bytes in
    let joined : part.bytes ++ bytes_of parts ++ rest ≡ part.bytes ++ (bytes_of parts ++ rest) = append_assoc part.bytes (bytes_of parts) rest in
    let r = piece_read valid part.bytes part.text (bytes_of parts ++ rest) h.0 in
    let one = pieces-plain n valid (length part.bytes) (part.bytes ++ (bytes_of parts ++ rest)) r.0 r.1 in
    let left : drop (length part.bytes) (part.bytes ++ (bytes_of parts ++ rest)) ≡ bytes_of parts ++ rest = drop-append_seam part.bytes (bytes_of parts ++ rest) in
    let again = pieces_read (n + length part.bytes) (valid - length part.bytes) parts rest h.1 in
    let len = length-append part.bytes (bytes_of parts) in
    let a : n + length part.bytes + length (bytes_of parts) ≡ n + length (part.bytes ++ bytes_of parts) = omega (arith, len) in
    let b : valid - length part.bytes - length (bytes_of parts) ≡ valid - length (part.bytes ++ bytes_of parts) = omega (arith, len) in
    ap (λ z. pieces 0 n valid z) joined ∙ one ∙ ap (λ z. pieces 0 (n + length part.bytes) (valid - length part.bytes) z) left ∙ again
    ∙ ap (λ m. pieces 0 m (valid - length part.bytes - length (bytes_of parts)) rest) a ∙ ap (λ g. pieces 0 (n + length (part.bytes ++ bytes_of parts)) g rest) b

-- what they stand for
pub pieces_decoded : (valid : ℕ) (parts : List Part) → ArePieces valid parts → decoded 0 (bytes_of parts) ≡ text_of parts
pieces_decoded valid [] h = refl
pieces_decoded valid (part ∷ parts) h =
    let r = piece_read valid part.bytes part.text (bytes_of parts) h.0 in
    let some : 1 ≤ length (part.bytes ++ bytes_of parts) = omega (arith, length-append part.bytes (bytes_of parts), r.1) in
    decoded_more (part.bytes ++ bytes_of parts) some
    ∙ ap (λ t. t ++ decoded 0 (drop (piece_len (part.bytes ++ bytes_of parts)) (part.bytes ++ bytes_of parts))) r.2
    ∙ ap (λ n. part.text ++ decoded 0 (drop n (part.bytes ++ bytes_of parts))) r.3
    ∙ ap (λ z. part.text ++ decoded 0 z) (drop-append_seam part.bytes (bytes_of parts))
    ∙ ap (λ t. part.text ++ t) (pieces_decoded (valid - length part.bytes) parts h.1)

-- ---- what the code reads are pieces

-- pieces, and what is left after them
abbrev Run : ℕ → Text → (List Part → Text → Type 0) → Type 0
Run valid bytes Ends = (parts : List Part) × (rest : Text) × (bytes ≡ bytes_of parts ++ rest) × ArePieces valid parts × Ends parts rest

abbrev pub IsRun : ℕ → ℕ → Text → StringSegment → Type 0
IsRun before valid bytes (Closed size) = Run valid bytes (λ parts rest. (more : Text) × (rest ≡ 34 ∷ more) × (size ≡ before + length (bytes_of parts) + 1))
IsRun before valid bytes (Opened size) = Run valid bytes (λ parts rest. (more : Text) × (rest ≡ 92 ∷ 40 ∷ more) × (size ≡ before + length (bytes_of parts) + 2))
IsRun before valid bytes Malformed = Unit {0}
IsRun before valid bytes Unterminated = Run valid bytes (λ parts rest. IsLineEnd rest)

-- a piece before a run
run_more : (before valid : ℕ) (part : Part) (bytes : Text) (segment : StringSegment) → IsPiece valid part.bytes part.text
    → IsRun (before + length part.bytes) (valid - length part.bytes) bytes segment → IsRun before valid (part.bytes ++ bytes) segment
run_more before valid part bytes (Closed size) p r = (
  part ∷ r.0,
  r.1,
  ap (λ z. part.bytes ++ z) r.2 ∙ sym (append_assoc part.bytes (bytes_of r.0) r.1),
  (p, r.3),
  (r.4.0, r.4.1, omega (arith, r.4.2, length-append part.bytes (bytes_of r.0))),
)
run_more before valid part bytes (Opened size) p r = (
  part ∷ r.0,
  r.1,
  ap (λ z. part.bytes ++ z) r.2 ∙ sym (append_assoc part.bytes (bytes_of r.0) r.1),
  (p, r.3),
  (r.4.0, r.4.1, omega (arith, r.4.2, length-append part.bytes (bytes_of r.0))),
)
run_more before valid part bytes Malformed p r = tt
run_more before valid part bytes Unterminated p r = (part ∷ r.0, r.1, ap (λ z. part.bytes ++ z) r.2 ∙ sym (append_assoc part.bytes (bytes_of r.0) r.1), (p, r.3), r.4)

drop_none : (n : ℕ) → drop {A = ℕ} n [] ≡ []
drop_none zero = refl
drop_none (suc n) = refl

length_take : (n : ℕ) (z : Text) → n ≤ length z → length (take n z) ≡ n
length_take zero z h = refl
length_take (suc n) [] h = absurd (omega arith)
length_take (suc n) (b ∷ z) h = omega (arith, length_take n z (omega arith))

first_of_two : (z : Text) → slice_index z 0 ≡ 40 → z ≡ 40 ∷ drop 1 z
first_of_two [] h = absurd (cc)
first_of_two (b ∷ z) h = ap (λ c. c ∷ z) h

-- one step: the piece that begins here, and the run after it
step : (before valid byte : ℕ) (bytes : Text) (it : Piece) → Fact valid byte bytes it
    → ((size : ℕ) → 1 ≤ size → IsRun (before + size) (valid - size) (drop size (byte ∷ bytes)) (pieces (size - 1) (before + 1) (valid - 1) bytes))
    → IsRun before valid (byte ∷ bytes) (after_piece it before (λ size. pieces (size - 1) (before + 1) (valid - 1) bytes))
step before valid byte bytes (Plain size) f again =
    let part : Part = record { bytes = take size (byte ∷ bytes); text = f.0 } in
    let len : length (take size (byte ∷ bytes)) ≡ size = length_take size (byte ∷ bytes) f.3 in
    let it = pieces (size - 1) (before + 1) (valid - 1) bytes in
    let following = subst (λ n. IsRun (before + n) (valid - n) (drop size (byte ∷ bytes)) (pieces (size - 1) (before + 1) (valid - 1) bytes)) (sym len) (again size f.2) in
    subst (λ z. IsRun before valid z (pieces (size - 1) (before + 1) (valid - 1) bytes)) (take-append-drop size (byte ∷ bytes))
    (run_more before valid part (drop size (byte ∷ bytes)) (pieces (size - 1) (before + 1) (valid - 1) bytes) f.1 following)
step before valid byte bytes Quote f again = ([], byte ∷ bytes, refl, tt, (bytes, ap (λ b. b ∷ bytes) f, omega arith))
step before valid byte bytes Open f again = ([], byte ∷ bytes, refl, tt, (drop 1 bytes, ap (λ b. b ∷ bytes) f.0 ∙ ap (λ z. 92 ∷ z) (first_of_two bytes f.1), omega arith))
step before valid byte bytes Invalid f again = tt
step before valid byte bytes LineEnd f again = ([], byte ∷ bytes, refl, tt, f)

moved_run : (n n' g g' : ℕ) (z z' : Text) (s : StringSegment) → n ≡ n' → g ≡ g' → z ≡ z' → IsRun n g z s → IsRun n' g' z' s
moved_run n n' g g' z z' s a b e h = subst (λ m. IsRun m g' z' s) a (subst (λ m. IsRun n m z' s) b (subst (λ y. IsRun n g y s) e h))

drop_less : (size byte : ℕ) (bytes : Text) → 1 ≤ size → drop (size - 1) bytes ≡ drop size (byte ∷ bytes)
drop_less zero byte bytes h = absurd (omega arith)
drop_less (suc n) byte bytes h = let e : suc n - 1 ≡ n = omega arith in ap (λ k. drop k bytes) e

runs : (left before valid : ℕ) (bytes : Text) → IsRun (before + left) (valid - left) (drop left bytes) (pieces left before valid bytes)
runs left before valid [] = ([], drop left [], refl, tt, subst IsLineEnd (sym (drop_none left)) tt)
runs (suc left) before valid (byte ∷ bytes) =
    moved_run (before + 1 + left) (before + suc left) (valid - 1 - left) (valid - suc left) (drop left bytes) (drop left bytes) (pieces left (before + 1) (valid - 1) bytes) (omega arith) (omega arith) refl
    (runs left (before + 1) (valid - 1) bytes)
runs zero before valid (byte ∷ bytes) =
    moved_run before (before + 0) valid (valid - 0) (byte ∷ bytes) (byte ∷ bytes) (pieces 0 before valid (byte ∷ bytes)) (omega arith) (omega arith) refl
    (step before valid byte bytes (piece valid (byte ∷ bytes)) (piece_fact valid byte bytes)
    (λ size some. moved_run (before + 1 + (size - 1)) (before + size) (valid - 1 - (size - 1)) (valid - size) (drop (size - 1) bytes) (drop size (byte ∷ bytes)) (pieces (size - 1) (before + 1) (valid - 1) bytes)
    (omega (arith, some)) (omega (arith, some)) (drop_less size byte bytes some) (runs (size - 1) (before + 1) (valid - 1) bytes)))

pub run_of : (valid : ℕ) (bytes : Text) → IsRun 1 valid bytes (pieces 0 1 valid bytes)
run_of valid bytes = moved_run (1 + 0) 1 (valid - 0) valid bytes bytes (pieces 0 1 valid bytes) (omega arith) (omega arith) refl (runs 0 1 valid bytes)
