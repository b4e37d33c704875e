-- What is found by name in lists of declarations, where more of them give a type.
use Rattle.std.proofs.Common.{◌≡◌, refl, sym, ap, ◌∙◌, subst, ℕ, zero, suc, Bool, true, false, cond, ◌&&◌, ◌||◌, Option, Some, None, is_none, is_some, List, [], ◌∷◌, slice_get}
use Rattle.std.specs.List.{find, list_any}
use Rattle.sw_sight.specs.InSight.{Text, same}
use Rattle.sw_value.specs.declared.ty.Ty.{Ty}
use Rattle.sw_declared.specs.Members.{Label, same_call}
use Rattle.sw_members.specs.declared.declaration.Declaration.{Declaration}
use Rattle.sw_members.specs.declared.declaration.Side.{Side}
use Rattle.sw_members.specs.Found.{any_callable, any_named, fitting, is_named, on_side, value_named}
use Rattle.sw_monotone.specs.Growth.{AreBelow, IsBelow, Pairwise}

-- there is none in either, or one in both, that stand so to each other
abbrev pub Both : {A : Type 0} → (A → A → Type 0) → Option A → Option A → Type 0
Both R None None = Unit {0}
Both R (Some x) (Some y) = R x y
Both R x y = ⊥

abbrev pub IsThere : {A : Type 0} → Option A → Type 0
IsThere None = ⊥
IsThere (Some x) = Unit {0}

pub there : {A : Type 0} (o : Option A) (x : A) → o ≡ Some x → IsThere o
there o x h = subst IsThere (sym h) tt

pub slice_get_both : {A : Type 0} (R : A → A → Type 0) (xs ys : List A) (i : ℕ) → Pairwise R xs ys → Both R (slice_get xs i) (slice_get ys i)
slice_get_both R [] [] i h = tt
slice_get_both R [] (y ∷ ys) i h = absurd h
slice_get_both R (x ∷ xs) [] i h = absurd h
slice_get_both R (x ∷ xs) (y ∷ ys) zero h = h.0
slice_get_both R (x ∷ xs) (y ∷ ys) (suc i) h = slice_get_both R xs ys i h.1

-- a test that does not ask for the type
abbrev IsSame : (Declaration → Bool) → Type 0
IsSame p = (a b : Declaration) → IsBelow a b → p b ≡ p a

found_below : (a b : Declaration) (found found' : Option Declaration) → IsBelow a b → Both IsBelow found found' → (t : Bool) → Both IsBelow (cond t (Some a) found) (cond t (Some b) found')
found_below a b found found' h rest true = h
found_below a b found found' h rest false = rest

find_below : (p : Declaration → Bool) → IsSame p → (xs ys : List Declaration) → AreBelow xs ys → Both IsBelow (find p xs) (find p ys)
find_below p kept [] [] h = tt
find_below p kept [] (b ∷ ys) h = absurd h
find_below p kept (a ∷ xs) [] h = absurd h
find_below p kept (a ∷ xs) (b ∷ ys) h =
    subst (λ t. Both IsBelow (cond (p a) (Some a) (find p xs)) (cond t (Some b) (find p ys))) (sym (kept a b h.0))
    (found_below a b (find p xs) (find p ys) h.0 (find_below p kept xs ys h.1) (p a))

any_same : (p : Declaration → Bool) → IsSame p → (xs ys : List Declaration) → AreBelow xs ys → list_any p ys ≡ list_any p xs
any_same p kept [] [] h = refl
any_same p kept [] (b ∷ ys) h = absurd h
any_same p kept (a ∷ xs) [] h = absurd h
any_same p kept (a ∷ xs) (b ∷ ys) h = let e = kept a b h.0 in let r = any_same p kept xs ys h.1 in ap (λ t. t || list_any p ys) e ∙ ap (λ t. p a || t) r

named_same : (side : Side) (x : Text) → IsSame (is_named side x)
named_same side x a b h = ap (λ n. same n x && on_side side b.is_static) h.name ∙ ap (λ t. same a.name x && on_side side t) h.is_static

pub value_named_below : (side : Side) (x : Text) (xs ys : List Declaration) → AreBelow xs ys → Both IsBelow (value_named side x xs) (value_named side x ys)
value_named_below side x xs ys h = find_below (λ d. is_named side x d && is_none d.labels)
    (λ a b h. ap (λ t. t && is_none b.labels) (named_same side x a b h) ∙ ap (λ ls. is_named side x a && is_none ls) h.labels) xs ys h

pub fitting_below : (side : Side) (x : Text) (labels : List Label) (xs ys : List Declaration) → AreBelow xs ys → Both IsBelow (fitting side x labels xs) (fitting side x labels ys)
fitting_below side x labels xs ys h = find_below (λ d. is_named side x d && same_call (Some labels) d.labels)
    (λ a b h. ap (λ t. t && same_call (Some labels) b.labels) (named_same side x a b h) ∙ ap (λ ls. is_named side x a && same_call (Some labels) ls) h.labels) xs ys h

pub any_named_same : (side : Side) (x : Text) (xs ys : List Declaration) → AreBelow xs ys → any_named side x ys ≡ any_named side x xs
any_named_same side x xs ys h = any_same (is_named side x) (named_same side x) xs ys h

pub any_callable_same : (side : Side) (x : Text) (xs ys : List Declaration) → AreBelow xs ys → any_callable side x ys ≡ any_callable side x xs
any_callable_same side x xs ys h = any_same (λ d. is_named side x d && is_some d.labels)
    (λ a b h. ap (λ t. t && is_some b.labels) (named_same side x a b h) ∙ ap (λ ls. is_named side x a && is_some ls) h.labels) xs ys h

-- ---- one that gives a type, and one above it

pub gives_same : (a b : Declaration) → IsBelow a b → IsThere a.gives → b.gives ≡ a.gives
gives_same a b h there = go a.gives refl there
  where
    go : (o : Option Ty) → a.gives ≡ o → IsThere o → b.gives ≡ a.gives
    go None e t = absurd t
    go (Some t) e u = h.gives t e ∙ sym e
