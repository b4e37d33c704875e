-- Two lists that are compared in step.
use Rattle.std.proofs.Common.{◌≡◌, ◌<◌, ◌≤◌, ◌+◌, ◌∙◌, ◌&&◌, ℕ, Bool, true, List, [], ◌∷◌, length, drop, get_or, refl, sym, ap, arith}
use Rattle.std.proofs.lemmas.List.{drop_more, drop_all}
use Rattle.std.specs.Cmp.Lexicographic.{pointwise}
use Rattle.sw_declared.specs.Members.{Label, same_label, same_labels}

-- the first two that remain, and then the others
pub pairs_step : {A : Type 0} (e : A → A → Bool) (xs ys : List A) (i : ℕ) (x y : A) → i < length xs → i < length ys → x ≡ get_or xs i x → y ≡ get_or ys i y
    → pointwise e (drop i xs) (drop i ys) ≡ (e x y && pointwise e (drop (i + 1) xs) (drop (i + 1) ys))
pairs_step e xs ys i x y h k p q =
    ap (λ l. pointwise e l (drop i ys)) (drop_more xs i x h ∙ ap (λ z. z ∷ drop (i + 1) xs) (sym p))
    ∙ ap (λ l. pointwise e (x ∷ drop (i + 1) xs) l) (drop_more ys i y k ∙ ap (λ z. z ∷ drop (i + 1) ys) (sym q))

-- nothing remains
pub pairs_end : {A : Type 0} (e : A → A → Bool) (xs ys : List A) (i : ℕ) → length xs ≤ i → length xs ≡ length ys → pointwise e (drop i xs) (drop i ys) ≡ true
pairs_end e xs ys i h p =
    ap (λ l. pointwise e l (drop i ys)) (drop_all i xs h) ∙ ap (pointwise e []) (drop_all i ys (omega (arith, h, p)))

-- labels are compared as any two lists
pub labels_are_pairs : (xs ys : List Label) → same_labels xs ys ≡ pointwise same_label xs ys
unfolding same_labels
labels_are_pairs [] [] = refl
labels_are_pairs [] (y ∷ ys) = refl
labels_are_pairs (x ∷ xs) [] = refl
labels_are_pairs (x ∷ xs) (y ∷ ys) = ap (λ t. same_label x y && t) (labels_are_pairs xs ys)
