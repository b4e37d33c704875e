-- The keys of a declaration tell what it answers.
use Rattle.std.proofs.Common.{◌≡◌, ℕ, List, [], ◌∷◌, Bool, true, false, ◌||◌, ◌&&◌, Some, None, refl, ap, ◌∙◌, nat_eq}
use Rattle.std.proofs.lemmas.List.Folds.{list_any-append}
use Rattle.std.specs.List.{list_any}
use Rattle.sw_sight.specs.InSight.{Text, same}
use Rattle.sw_declared.specs.Members.{Label, Called, same_label, same_labels, same_call}
use Rattle.sw_declared.specs.Spelling.{spelled}
use Rattle.sw_members.specs.Found.{on_side, is_named}
use Rattle.sw_members.specs.Keys.{fits, answers, question_code, call_code, side_code, key, side_of, keys_on, keys_by_labels, has_key}
use Rattle.sw_members.specs.declared.declaration.Declaration.{Declaration}
use Rattle.sw_members.specs.declared.declaration.Side.{Side}
use Rattle.sw_members.specs.declared.declaration.Side.TheVariants.{Both, Static, Instance}
use Rattle.sw_members.specs.declared.keys.Question.{Question}
use Rattle.sw_members.specs.declared.keys.Question.TheVariants.{Named, Callable, Value}
use Rattle.sw_members.proofs.Words.{same_sym}

-- ---- tests

two_keys : (m a b t : Bool) → ((m && (a && t)) || ((m && (b && t)) || false)) ≡ (m && ((a || b) && t))
two_keys false a b t = refl
two_keys true false false t = refl
two_keys true false true true = refl
two_keys true false true false = refl
two_keys true true b true = refl
two_keys true true false false = refl
two_keys true true true false = refl

first_of_two : (o t : Bool) → ((o && t) || false) ≡ ((t && o) && true)
first_of_two true true = refl
first_of_two true false = refl
first_of_two false true = refl
first_of_two false false = refl

second_of_two : (o t : Bool) → (o && t) ≡ ((t && o) && true)
second_of_two true true = refl
second_of_two true false = refl
second_of_two false true = refl
second_of_two false false = refl

none_of : (s : Bool) → false ≡ (s && false)
none_of true = refl
none_of false = refl

on_then : (o s t : Bool) → (o && (s && t)) ≡ ((s && o) && t)
on_then true true t = refl
on_then true false t = refl
on_then false true t = refl
on_then false false t = refl

-- ---- keys

sides : (s : Side) (b : Bool) → (nat_eq (side_code s) (side_code Both) || nat_eq (side_code s) (side_code (side_of b))) ≡ on_side s b
unfolding side_code side_of on_side
sides Both b = refl
sides Static true = refl
sides Static false = refl
sides Instance true = refl
sides Instance false = refl

on_keys : (c k : ℕ) (s : Side) (b : Bool) (x t : Text) → list_any (same (key c s x)) (keys_on k (side_of b) t) ≡ (nat_eq c k && (on_side s b && same t x))
unfolding same
on_keys c k s b x t =
    two_keys (nat_eq c k) (nat_eq (side_code s) (side_code Both)) (nat_eq (side_code s) (side_code (side_of b))) (same x t)
    ∙ ap (λ o. nat_eq c k && (o && same x t)) (sides s b) ∙ ap (λ e. nat_eq c k && (on_side s b && e)) (same_sym x t)

-- what the keys tell that a declaration has by its labels
abbrev by_labels : ℕ → Bool → Text → Text → Called → Bool
by_labels c on name x None = nat_eq c 2 && (on && same name x)
by_labels c on name x (Some labels) = (nat_eq c 1 && (on && same name x)) || (nat_eq c 3 && (on && same (spelled name labels) x))

labels_keyed : (c : ℕ) (s : Side) (b : Bool) (name x : Text) (o : Called) → list_any (same (key c s x)) (keys_by_labels (side_of b) name o) ≡ by_labels c (on_side s b) name x o
unfolding keys_by_labels question_code
labels_keyed c s b name x None = on_keys c 2 s b x name
labels_keyed c s b name x (Some labels) =
    list_any-append (same (key c s x)) (keys_on 1 (side_of b) name) (keys_on 3 (side_of b) (spelled name labels))
    ∙ ap (λ r. r || list_any (same (key c s x)) (keys_on 3 (side_of b) (spelled name labels))) (on_keys c 1 s b x name)
    ∙ ap (λ r. (nat_eq c 1 && (on_side s b && same name x)) || r) (on_keys c 3 s b x (spelled name labels))

keyed : (c : ℕ) (s : Side) (x : Text) (d : Declaration) → has_key (key c s x) d ≡ ((nat_eq c 0 && (on_side s d.is_static && same d.name x)) || by_labels c (on_side s d.is_static) d.name x d.labels)
unfolding question_code
keyed c s x d =
    list_any-append (same (key c s x)) (keys_on 0 (side_of d.is_static) d.name) (keys_by_labels (side_of d.is_static) d.name d.labels)
    ∙ ap (λ r. r || list_any (same (key c s x)) (keys_by_labels (side_of d.is_static) d.name d.labels)) (on_keys c 0 s d.is_static x d.name)
    ∙ ap (λ r. (nat_eq c 0 && (on_side s d.is_static && same d.name x)) || r) (labels_keyed c s d.is_static d.name x d.labels)

pub name_keyed : (q : Question) (s : Side) (x : Text) (d : Declaration) → has_key (key (question_code q) s x) d ≡ answers q s x d
unfolding question_code fits
name_keyed q s x d = keyed (question_code q) s x d ∙ go q d.labels
  where
    go : (q : Question) (o : Called) → ((nat_eq (question_code q) 0 && (on_side s d.is_static && same d.name x)) || by_labels (question_code q) (on_side s d.is_static) d.name x o) ≡ (is_named s x d && fits q o)
    go Named None = first_of_two (on_side s d.is_static) (same d.name x)
    go Named (Some labels) = first_of_two (on_side s d.is_static) (same d.name x)
    go Callable None = none_of (is_named s x d)
    go Callable (Some labels) = first_of_two (on_side s d.is_static) (same d.name x)
    go Value None = second_of_two (on_side s d.is_static) (same d.name x)
    go Value (Some labels) = none_of (is_named s x d)

label_sym : (a b : Label) → same_label a b ≡ same_label b a
unfolding same_label
label_sym None None = refl
label_sym None (Some b) = refl
label_sym (Some a) None = refl
label_sym (Some a) (Some b) = same_sym a b

labels_sym : (xs ys : List Label) → same_labels xs ys ≡ same_labels ys xs
unfolding same_labels
labels_sym [] [] = refl
labels_sym [] (y ∷ ys) = refl
labels_sym (x ∷ xs) [] = refl
labels_sym (x ∷ xs) (y ∷ ys) = ap (λ t. t && same_labels xs ys) (label_sym x y) ∙ ap (λ t. same_label y x && t) (labels_sym xs ys)

-- two spellings are the same exactly where what they spell is
abbrev pub SpellingsTell : Type 0
SpellingsTell = (a b : Text) (xs ys : List Label) → same (spelled a xs) (spelled b ys) ≡ (same a b && same_labels xs ys)

pub call_keyed : SpellingsTell → (s : Side) (x : Text) (labels : List Label) (d : Declaration) → has_key (key call_code s (spelled x labels)) d ≡ (is_named s x d && same_call (Some labels) d.labels)
unfolding same_call
call_keyed tell s x labels d = keyed 3 s (spelled x labels) d ∙ go d.labels
  where
    go : (o : Called) → by_labels 3 (on_side s d.is_static) d.name (spelled x labels) o ≡ (is_named s x d && same_call (Some labels) o)
    go None = none_of (is_named s x d)
    go (Some ys) =
        ap (λ t. on_side s d.is_static && t) (tell d.name x ys labels ∙ ap (λ t. same d.name x && t) (labels_sym ys labels))
        ∙ on_then (on_side s d.is_static) (same d.name x) (same_labels labels ys)

-- each of the name is an answer to whether there is one
pub is_answer : (s : Side) (x : Text) (d : Declaration) → answers Named s x d ≡ is_named s x d
unfolding fits
is_answer s x d = go (is_named s x d)
  where
    go : (t : Bool) → (t && true) ≡ t
    go true = refl
    go false = refl
