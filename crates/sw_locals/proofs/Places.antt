-- What the place of a name tells of the variables in sight, and how the places follow the marks.
use Rattle.std.proofs.Common.{◌≡◌, ◌≤◌, ◌-◌, ℕ, zero, suc, arith, [], ◌∷◌, length, Bool, true, false, cond, refl, sym, ap, subst, ◌∙◌, Option, Some, None}
use Rattle.std.specs.Prelude.{slice_get}
use Rattle.sw_sight.specs.InSight.{Text, same}
use Rattle.sw_sight.specs.Levels.{Entries, level, IsKnown}
use Rattle.sw_locals.specs.InBody.{local_named}
use Rattle.sw_locals.specs.Linked.{Marks, locals_of, place_of, AreLinked, IsLinked}
use Rattle.sw_locals.specs.declared.local.Local.{Local}
use Rattle.sw_locals.specs.declared.locals.Mark.{Mark}
use Rattle.sw_locals.proofs.Words.{same_true, same_sym}

-- ---- what a place tells

pub place_within : (x : Text) (marks : Marks) → place_of x marks ≤ length marks
unfolding place_of
place_within x [] = omega arith
place_within x (None ∷ marks) = let h : place_of x marks ≤ length marks = place_within x marks in omega arith
place_within x (Some mark ∷ marks) = go (place_within x marks) (same x mark.local.name)
  where
    go : place_of x marks ≤ length marks → (t : Bool) → cond t (suc (length marks)) (place_of x marks) ≤ suc (length marks)
    go i true = omega arith
    go i false = omega arith

-- the variable that was found at a depth
abbrev pub found : Option (Option Mark) → Option Local
found None = None
found (Some None) = None
found (Some (Some mark)) = Some mark.local

-- the mark at a depth is one deeper below a new one
below : (m : Option Mark) (marks : Marks) (place : ℕ) → place ≤ length marks → slice_get (m ∷ marks) (suc (length marks) - place) ≡ slice_get marks (length marks - place)
below m marks place h = let e : suc (length marks) - place ≡ suc (length marks - place) = omega arith in ap (slice_get (m ∷ marks)) e

pub found_at_place : (x : Text) (marks : Marks) → found (slice_get marks (length marks - place_of x marks)) ≡ local_named x (locals_of marks)
unfolding place_of local_named
found_at_place x [] = refl
found_at_place x (None ∷ marks) = ap found (below None marks (place_of x marks) (place_within x marks)) ∙ found_at_place x marks
found_at_place x (Some mark ∷ marks) = go (found_at_place x marks) (same x mark.local.name) ∙ ap (λ t. cond t (Some mark.local) (local_named x (locals_of marks))) (same_sym x mark.local.name)
  where
    go : found (slice_get marks (length marks - place_of x marks)) ≡ local_named x (locals_of marks) → (t : Bool)
        → found (slice_get (Some mark ∷ marks) (suc (length marks) - cond t (suc (length marks)) (place_of x marks))) ≡ cond t (Some mark.local) (local_named x (locals_of marks))
    go i true = let e : suc (length marks) - suc (length marks) ≡ zero = omega arith in ap (λ k. found (slice_get (Some mark ∷ marks) k)) e
    go i false = ap found (below (Some mark) marks (place_of x marks) (place_within x marks)) ∙ i

-- the place of a name, as a table keeps it
pub place_kept : (x : Text) (entries : Entries) (marks : Marks) (length_of place : ℕ) → IsLinked record { marks = marks; places = entries } → length_of ≡ length marks → place ≡ level x entries → place ≤ length_of
place_kept x entries marks length_of place i n p =
    let e : place ≡ place_of x marks = p ∙ i.places x in
    let h : place_of x marks ≤ length marks = place_within x marks in
    omega arith

pub found_by : (x : Text) (entries : Entries) (marks : Marks) (length_of place : ℕ) → IsLinked record { marks = marks; places = entries } → length_of ≡ length marks → place ≡ level x entries
    → found (slice_get marks (length_of - place)) ≡ local_named x (locals_of marks)
found_by x entries marks length_of place i n p =
    ap (λ k. found (slice_get marks (k - place))) n ∙ ap (λ k. found (slice_get marks (length marks - k))) (p ∙ i.places x) ∙ found_at_place x marks

-- ---- how the places follow the marks

-- tables that keep no fewer names serve the same marks
pub still_linked : (old new : Entries) (marks : Marks) → ((x : Text) → IsKnown x old → IsKnown x new) → AreLinked old marks → AreLinked new marks
unfolding AreLinked
still_linked old new [] keeps h = tt
still_linked old new (None ∷ marks) keeps h = still_linked old new marks keeps h
still_linked old new (Some mark ∷ marks) keeps h = (h.0, keeps mark.local.name h.1, still_linked old new marks keeps h.2)

-- no mark
pub none_linked : (entries : Entries) (marks : Marks) → entries ≡ [] → marks ≡ [] → IsLinked record { marks = marks; places = entries }
unfolding level place_of AreLinked
none_linked entries marks e m = record { places = λ x. ap (level x) e ∙ sym (ap (place_of x) m); linked = subst (AreLinked entries) (sym m) tt }

-- a name is known that no mark need have
pub known_linked : (old new : Entries) (before marks : Marks) → IsLinked record { marks = before; places = old } → ((x : Text) → level x new ≡ level x old) → ((x : Text) → IsKnown x old → IsKnown x new) → marks ≡ before
    → IsLinked record { marks = marks; places = new }
known_linked old new before marks i levels keeps m = record { places = λ x. levels x ∙ i.places x ∙ sym (ap (place_of x) m); linked = subst (AreLinked new) (sym m) (still_linked old new before keeps i.linked) }

-- a scope begins
pub opened_linked : (entries : Entries) (before marks : Marks) → IsLinked record { marks = before; places = entries } → marks ≡ None ∷ before → IsLinked record { marks = marks; places = entries }
unfolding place_of AreLinked
opened_linked entries before marks i m = record { places = λ x. i.places x ∙ sym (ap (place_of x) m); linked = subst (AreLinked entries) (sym m) i.linked }

-- a scope ends
pub closed_linked : (entries : Entries) (before marks : Marks) → IsLinked record { marks = before; places = entries } → before ≡ None ∷ marks → IsLinked record { marks = marks; places = entries }
unfolding place_of AreLinked
closed_linked entries before marks i m = record { places = λ x. i.places x ∙ ap (place_of x) m; linked = subst (AreLinked entries) m i.linked }

-- a variable is bound
pub bound_linked : (old new : Entries) (before marks : Marks) (mark : Mark) → IsLinked record { marks = before; places = old } → marks ≡ Some mark ∷ before → mark.hidden ≡ level mark.local.name old → IsKnown mark.local.name old
    → ((x : Text) → level x new ≡ cond (same x mark.local.name) (length marks) (level x old)) → ((x : Text) → IsKnown x old → IsKnown x new) → IsLinked record { marks = marks; places = new }
unfolding place_of AreLinked
bound_linked old new before marks mark i m hidden known set keeps = record {
  places = λ x. set x ∙ ap (λ n. cond (same x mark.local.name) n (level x old)) (ap length m) ∙ ap (cond (same x mark.local.name) (suc (length before))) (i.places x) ∙ sym (ap (place_of x) m);
  linked = subst (AreLinked new) (sym m) (hidden ∙ i.places mark.local.name, keeps mark.local.name known, still_linked old new before keeps i.linked);
}

-- the name of the newest mark is known
pub newest_known : (entries : Entries) (before marks : Marks) (mark : Mark) → IsLinked record { marks = before; places = entries } → before ≡ Some mark ∷ marks → IsKnown mark.local.name entries
unfolding AreLinked
newest_known entries before marks mark i m = let linked : AreLinked entries (Some mark ∷ marks) = subst (AreLinked entries) m i.linked in linked.1

-- the newest variable goes out of sight
pub unbound_linked : (old new : Entries) (before marks : Marks) (mark : Mark) → IsLinked record { marks = before; places = old } → before ≡ Some mark ∷ marks
    → ((x : Text) → level x new ≡ cond (same x mark.local.name) mark.hidden (level x old)) → ((x : Text) → IsKnown x old → IsKnown x new) → IsLinked record { marks = marks; places = new }
unfolding place_of AreLinked
unbound_linked old new before marks mark i m set keeps =
    let linked : AreLinked old (Some mark ∷ marks) = subst (AreLinked old) m i.linked in
    record { places = λ x. set x ∙ restored x linked.0 (same x mark.local.name) refl (i.places x ∙ ap (place_of x) m); linked = still_linked old new marks keeps linked.2 }
  where
    restored : (x : Text) → mark.hidden ≡ place_of mark.local.name marks → (t : Bool) → same x mark.local.name ≡ t → level x old ≡ cond t (suc (length marks)) (place_of x marks) → cond t mark.hidden (level x old) ≡ place_of x marks
    restored x h true p k = h ∙ ap (λ y. place_of y marks) (sym (same_true x mark.local.name p))
    restored x h false p k = k
