-- Members that are looked through, and the labels of a call.
use Rattle.std.proofs.Common.{◌≡◌, ◌<◌, ◌≤◌, ℕ, List, [], ◌∷◌, Bool, true, false, ◌||◌, ◌&&◌, Some, None, length, take, drop, get_or, refl, sym, ap, ◌∙◌, ◌+◌, nat_lt, suc, arith}
use Rattle.std.proofs.lemmas.List.{take-append-drop, take_all, drop_more, drop_all, length-map}
use Rattle.std.proofs.lemmas.List.Folds.{list_any-append}
use Rattle.std.specs.List.{list_any}
use Rattle.sw_sight.specs.InSight.{Text, same}
use Rattle.sw_tree.specs.declared.expr.Argument.{Argument}
use Rattle.sw_declared.specs.Declarations.{argument_labels, label_text}
use Rattle.sw_declared.specs.Members.{Label, Called, same_label, same_labels}
use Rattle.sw_declared.specs.Ranks.{static_rank, call_rank, call_key}
use Rattle.sw_declared.specs.Spelling.{spelled}
use Rattle.sw_declared.proofs.Spellings.{spellings_tell}
use Rattle.sw_declared.proofs.Kept.{none_above}

-- looking through the first few and the others is looking through all
any_few : {A : Type 0} (p : A → Bool) (k : ℕ) (items : List A) → (list_any p (take k items) || list_any p (drop k items)) ≡ list_any p items
any_few p k items = sym (list_any-append p (take k items) (drop k items)) ∙ ap (list_any p) (take-append-drop k items)

pub found_first : {A : Type 0} (p : A → Bool) (k : ℕ) (items : List A) → list_any p (take k items) ≡ true → true ≡ list_any p items
found_first p k items h = ap (λ t. t || list_any p (drop k items)) (sym h) ∙ any_few p k items

pub not_first : {A : Type 0} (p : A → Bool) (k : ℕ) (items : List A) (r : Bool) → list_any p (take k items) ≡ false → r ≡ list_any p (drop k items) → r ≡ list_any p items
not_first p k items r h e = e ∙ ap (λ t. t || list_any p (drop k items)) (sym h) ∙ any_few p k items

pub no_more : {A : Type 0} (p : A → Bool) (k : ℕ) (items : List A) → length items ≤ k → list_any p (take k items) ≡ false → false ≡ list_any p items
no_more p k items l h = sym h ∙ ap (list_any p) (take_all k items l)

-- ---- labels one after another

other_lengths : (xs ys : List Label) → (length xs ≡ length ys → ⊥) → false ≡ same_labels xs ys
unfolding same_labels
other_lengths [] [] h = absurd (h refl)
other_lengths [] (y ∷ ys) h = refl
other_lengths (x ∷ xs) [] h = refl
other_lengths (x ∷ xs) (y ∷ ys) h = go (same_label x y) (other_lengths xs ys (λ e. h (ap suc e)))
  where
    go : (s : Bool) → false ≡ same_labels xs ys → false ≡ (s && same_labels xs ys)
    go true k = k
    go false k = refl

pub other_count : (labels : List Label) (arguments : List Argument) → (length labels ≡ length arguments → ⊥) → false ≡ same_labels labels (argument_labels arguments)
other_count labels arguments h = other_lengths labels (argument_labels arguments) (λ e. h (e ∙ length-map arguments (λ a. label_text a.label)))

-- the first two that remain, and then the others
pub labels_step : (labels : List Label) (arguments : List Argument) (i : ℕ) (l : Label) (a : Argument) → i < length labels → i < length arguments → l ≡ get_or labels i l → a ≡ get_or arguments i a
    → same_labels (drop i labels) (argument_labels (drop i arguments)) ≡ (same_label l (label_text a.label) && same_labels (drop (i + 1) labels) (argument_labels (drop (i + 1) arguments)))
unfolding same_labels
labels_step labels arguments i l a h k e f =
    ap (λ ls. same_labels ls (argument_labels (drop i arguments))) (drop_more labels i l h ∙ ap (λ z. z ∷ drop (i + 1) labels) (sym e))
    ∙ ap (λ given. same_labels (l ∷ drop (i + 1) labels) (argument_labels given)) (drop_more arguments i a k ∙ ap (λ z. z ∷ drop (i + 1) arguments) (sym f))

pub labels_end : (labels : List Label) (arguments : List Argument) (i : ℕ) → length labels ≤ i → length labels ≡ length arguments → true ≡ same_labels (drop i labels) (argument_labels (drop i arguments))
unfolding same_labels
labels_end labels arguments i h e =
    sym (ap (λ ls. same_labels ls (argument_labels (drop i arguments))) (drop_all i labels h) ∙ ap (λ given. same_labels [] (argument_labels given)) (drop_all i arguments (omega arith)))

-- ---- calls

pub call_none : (name x : Text) (o : Called) (n : ℕ) (b : Bool) → o ≡ None → false ≡ (same (call_key name o) x && nat_lt n (call_rank o b))
unfolding call_key call_rank
call_none name x o n b e = none_above (same [] x) n ∙ sym (ap (λ p. same (call_key name p) x && nat_lt n (call_rank p b)) e)

pub call_some : (name x : Text) (o : Called) (ys ls : List Label) (n : ℕ) (b t : Bool) → o ≡ Some ys → t ≡ (same name x && same_labels ys ls)
    → (t && nat_lt n (static_rank b)) ≡ (same (call_key name o) (spelled x ls) && nat_lt n (call_rank o b))
unfolding call_key call_rank
call_some name x o ys ls n b t e h =
    ap (λ s. s && nat_lt n (static_rank b)) (h ∙ sym (spellings_tell name x ys ls)) ∙ sym (ap (λ p. same (call_key name p) (spelled x ls) && nat_lt n (call_rank p b)) e)
