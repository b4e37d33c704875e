-- How the pieces of a string follow each other.
use Rattle.std.proofs.lemmas.List.{drop-drop}
use Rattle.std.proofs.Common.{◌<◌, append_assoc, length-drop, ◌≡◌, ◌≤◌, ℕ, zero, suc, ◌+◌, ◌-◌, [], ◌∷◌, drop, refl, ap, sym, ◌∙◌, subst, arith}
use Rattle.sw_lex.specs.declared.strings.Piece.TheVariants.{Plain}
use Rattle.std.specs.Prelude.{slice_index, ◌==◌, Bool, true, false, cond, length, ◌++◌}
use Rattle.sw_lex.specs.Bytes.{Text}
use Rattle.sw_lex.specs.Matching.{piece, pieces, after_piece, hex_len, decoded, piece_text, piece_len}

skipped : (k n g : ℕ) (z : Text) → pieces k n g z ≡ pieces 0 (n + k) (g - k) (drop k z)
skipped zero n g z = let a : n + 0 ≡ n = omega arith in let b : g - 0 ≡ g = omega arith in rw (a, b)
skipped (suc k) n g [] = refl
skipped (suc k) n g (b ∷ z) =
    let a : n + 1 + k ≡ n + suc k = omega arith in
    let b : g - 1 - k ≡ g - suc k = omega arith in
    subst (λ m. pieces k (n + 1) (g - 1) z ≡ pieces 0 m (g - suc k) (drop k z)) a (subst (λ m. pieces k (n + 1) (g - 1) z ≡ pieces 0 (n + 1 + k) m (drop k z)) b (skipped k (n + 1) (g - 1) z))

drop_one : (m b : ℕ) (z : Text) → 1 ≤ m → drop (m - 1) z ≡ drop m (b ∷ z)
drop_one zero b z h = absurd (omega arith)
drop_one (suc n) b z h = let e : suc n - 1 ≡ n = omega arith in ap (λ k. drop k z) e

pub pieces-plain : (n g m : ℕ) (z : Text) → piece g z ≡ Plain m → 1 ≤ m → pieces 0 n g z ≡ pieces 0 (n + m) (g - m) (drop m z)
pieces-plain n g m [] h some = absurd (cc)
pieces-plain n g m (b ∷ z) h some =
    let a : n + 1 + (m - 1) ≡ n + m = omega arith in
    let e : g - 1 - (m - 1) ≡ g - m = omega arith in
    ap (λ p. after_piece p n (λ m. pieces (m - 1) (n + 1) (g - 1) z)) h ∙ skipped (m - 1) (n + 1) (g - 1) z
    ∙ ap (λ j. pieces 0 j (g - 1 - (m - 1)) (drop (m - 1) z)) a
    ∙ ap (λ j. pieces 0 (n + m) j (drop (m - 1) z)) e
    ∙ ap (λ y. pieces 0 (n + m) (g - m) y) (drop_one m b z some)

-- how the texts of the pieces follow each other
passed : (k : ℕ) (z : Text) → decoded k z ≡ decoded 0 (drop k z)
passed zero z = refl
passed (suc k) [] = refl
passed (suc k) (b ∷ z) = passed k z

pub decoded_more : (z : Text) → 1 ≤ length z → decoded 0 z ≡ piece_text z ++ decoded 0 (drop (piece_len z) z)
decoded_more [] h = absurd (omega arith)
decoded_more (b ∷ z) h = ap (λ u. piece_text (b ∷ z) ++ u) (passed (piece_len (b ∷ z) - 1) z ∙ ap (λ u. decoded 0 u) (drop_one (piece_len (b ∷ z)) b z (some b z)))
  where
    some : (b : ℕ) (z : Text) → 1 ≤ piece_len (b ∷ z)
    some b z = branch (slice_index (b ∷ z) 0 == 92) (slice_index (b ∷ z) 1 == 117)
      where
        branch : (s t : Bool) → 1 ≤ cond s (cond t (hex_len (drop 3 (b ∷ z)) + 4) 2) 1
        branch true true = omega arith
        branch true false = omega arith
        branch false t = omega arith

pub decoded_step : (z out out' : Text) (at n : ℕ) → at < length z → out' ≡ out ++ piece_text (drop at z) → n ≡ piece_len (drop at z) → out ++ decoded 0 (drop at z) ≡ decoded 0 z → out' ++ decoded 0 (drop (at + n) z) ≡ decoded 0 z
decoded_step z out out' at n h o e inv =
    let y : Text = drop at z in
    let some : 1 ≤ length (drop at z) = omega (arith, length-drop at z) in
    let back : piece_text (drop at z) ++ decoded 0 (drop (at + n) z) ≡ decoded 0 (drop at z) =
    ap (λ w. piece_text (drop at z) ++ decoded 0 w) (sym (drop-drop n at z) ∙ ap (λ k. drop k (drop at z)) e) ∙ sym (decoded_more (drop at z) some) in
    ap (λ u. u ++ decoded 0 (drop (at + n) z)) o ∙ append_assoc out (piece_text (drop at z)) (decoded 0 (drop (at + n) z)) ∙ ap (λ u. out ++ u) back ∙ inv
