-- Spellings are the same exactly where what they spell is.
use Rattle.std.proofs.Common.{◌≡◌, Bool, true, false, ◌&&◌, Some, None, List, [], ◌∷◌, ◌++◌, refl, ap, ◌∙◌, nat_eq, append_assoc}
use Rattle.std.specs.List.{flat_map}
use Rattle.std.specs.Cmp.Lexicographic.{pointwise}
use Rattle.sw_sight.specs.InSight.{Text, same}
use Rattle.sw_declared.specs.Members.{Label, same_label, same_labels}
use Rattle.sw_declared.specs.Spelling.{spelled_text, spelled_label, spelled_labels, spelled}

and_assoc : (a b c : Bool) → (a && (b && c)) ≡ ((a && b) && c)
and_assoc true b c = refl
and_assoc false b c = refl

pub texts_tell : (a b r s : Text) → same (spelled_text a ++ r) (spelled_text b ++ s) ≡ (same a b && same r s)
unfolding same
texts_tell [] [] r s = refl
texts_tell [] (y ∷ ys) r s = refl
texts_tell (x ∷ xs) [] r s = refl
texts_tell (x ∷ xs) (y ∷ ys) r s = ap (λ t. nat_eq x y && t) (texts_tell xs ys r s) ∙ and_assoc (nat_eq x y) (pointwise nat_eq xs ys) (pointwise nat_eq r s)

label_tells : (a b : Label) (r s : Text) → same (spelled_label a ++ r) (spelled_label b ++ s) ≡ (same_label a b && same r s)
unfolding same spelled_label same_label
label_tells None None r s = refl
label_tells None (Some b) r s = refl
label_tells (Some a) None r s = refl
label_tells (Some a) (Some b) r s = texts_tell a b r s

-- the spelling of labels, the first of which is taken off
uncons : (a : Label) (xs : List Label) → spelled_labels (a ∷ xs) ≡ 1 ∷ (spelled_label a ++ spelled_labels xs)
uncons a xs = ap (λ l. 1 ∷ l) (append_assoc (spelled_label a) (flat_map (λ label. 1 ∷ spelled_label label) xs) (0 ∷ []))

labels_tell : (xs ys : List Label) → same (spelled_labels xs) (spelled_labels ys) ≡ same_labels xs ys
unfolding same same_labels
labels_tell [] [] = refl
labels_tell [] (y ∷ ys) = refl
labels_tell (x ∷ xs) [] = refl
labels_tell (x ∷ xs) (y ∷ ys) =
    ap (λ l. same l (spelled_labels (y ∷ ys))) (uncons x xs) ∙ ap (same (1 ∷ (spelled_label x ++ spelled_labels xs))) (uncons y ys)
    ∙ label_tells x y (spelled_labels xs) (spelled_labels ys) ∙ ap (λ t. same_label x y && t) (labels_tell xs ys)

pub spellings_tell : (a b : Text) (xs ys : List Label) → same (spelled a xs) (spelled b ys) ≡ (same a b && same_labels xs ys)
spellings_tell a b xs ys = texts_tell a b (spelled_labels xs) (spelled_labels ys) ∙ ap (λ t. same a b && t) (labels_tell xs ys)
