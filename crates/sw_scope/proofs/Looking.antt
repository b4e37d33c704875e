-- What is in sight is what is seen by looking back, so a walk finds what its events break.
use Rattle.std.proofs.Common.{◌≡◌, ◌⊎◌, ℕ, zero, suc, List, [], ◌∷◌, ◌++◌, ◌||◌, ◌&&◌, not, refl, sym, ap, subst, ◌∙◌, Option, inl, inr}
use Rattle.sw_rules.specs.declared.Refusal.{Refusal}
use Rattle.sw_rules.specs.declared.Rule.TheVariants.{N1, N3, N4}
use Rattle.sw_findings.specs.Found.{Has, keep_all, when}
use Rattle.sw_sight.specs.InSight.{Text, same, Sight, closed, in_sight, in_scope}
use Rattle.sw_scope.specs.Around.{Around, is_declared, needs_instance}
use Rattle.sw_scope.specs.Events.{Event, opens, closes, binds, reads, types, inner, instance}
use Rattle.sw_scope.specs.Rules.{sees, sees_here, breaks, reversed_onto, Breaks}
use Rattle.sw_scope.proofs.Keeping.{keep_nothing, keep_append}
use Rattle.sw_scope.specs.Walk.{shifted, found_at, step, run, broken_after, broken}

-- ---- looking back

-- the names in sight after these events, of which the nearest stands first
sight_of : List Event → Sight
sight_of [] = []
sight_of (event ∷ before) = shifted (sight_of before) event

-- without so many scopes
out_of : ℕ → Sight → Sight
out_of zero sight = sight
out_of (suc n) sight = out_of n (closed sight)

nothing_closed : (n : ℕ) → out_of n [] ≡ []
unfolding out_of closed
nothing_closed zero = refl
nothing_closed (suc n) = nothing_closed n

looks : (n : ℕ) (x : Text) (before : List Event) → sees n x before ≡ in_sight x (out_of n (sight_of before))
unfolding out_of sight_of shifted in_sight closed
looks n x [] = sym (ap (in_sight x) (nothing_closed n))
looks n x (closes ∷ before) = looks (suc n) x before
looks zero x (opens ∷ before) = looks zero x before
looks (suc n) x (opens ∷ before) = looks n x before
looks zero x (binds name ∷ before) = ap (λ t. same name.text x || t) (looks zero x before)
looks (suc n) x (binds name ∷ before) = looks (suc n) x before
looks zero x (reads name called ∷ before) = looks zero x before
looks (suc n) x (reads name called ∷ before) = looks (suc n) x before
looks zero x (types name ∷ before) = looks zero x before
looks (suc n) x (types name ∷ before) = looks (suc n) x before
looks zero x (inner outer name ∷ before) = looks zero x before
looks (suc n) x (inner outer name ∷ before) = looks (suc n) x before
looks zero x (instance at ∷ before) = looks zero x before
looks (suc n) x (instance at ∷ before) = looks (suc n) x before

looks_here : (n : ℕ) (x : Text) (before : List Event) → sees_here n x before ≡ in_scope x (out_of n (sight_of before))
unfolding out_of sight_of shifted in_scope closed
looks_here n x [] = sym (ap (in_scope x) (nothing_closed n))
looks_here n x (closes ∷ before) = looks_here (suc n) x before
looks_here zero x (opens ∷ before) = refl
looks_here (suc n) x (opens ∷ before) = looks_here n x before
looks_here zero x (binds name ∷ before) = ap (λ t. same name.text x || t) (looks_here zero x before)
looks_here (suc n) x (binds name ∷ before) = looks_here (suc n) x before
looks_here zero x (reads name called ∷ before) = looks_here zero x before
looks_here (suc n) x (reads name called ∷ before) = looks_here (suc n) x before
looks_here zero x (types name ∷ before) = looks_here zero x before
looks_here (suc n) x (types name ∷ before) = looks_here (suc n) x before
looks_here zero x (inner outer name ∷ before) = looks_here zero x before
looks_here (suc n) x (inner outer name ∷ before) = looks_here (suc n) x before
looks_here zero x (instance at ∷ before) = looks_here zero x before
looks_here (suc n) x (instance at ∷ before) = looks_here (suc n) x before

same_at : (around : Around) (before : List Event) (event : Event) → found_at around (sight_of before) event ≡ breaks around before event
unfolding found_at out_of
same_at around before opens = refl
same_at around before closes = refl
same_at around before (binds name) = ap (λ t. when t N1 name.span) (sym (looks_here zero name.text before))
same_at around before (reads name called) =
    ap (λ t. when (not t && not (is_declared around name.text)) N3 name.span ++ when (not t && not around.has_instance && needs_instance around.own name.text called) N4 name.span) (sym (looks zero name.text before))
same_at around before (types name) = refl
same_at around before (inner outer name) = refl
same_at around before (instance at) = refl

-- ---- what a walk finds

-- a walk that goes on after some events
kept_after : (around : Around) (before events : List Event) (found : Option Refusal)
    → (run around events (record { sight = sight_of before; found = found })).found ≡ keep_all found (broken_after around before events)
unfolding run step broken_after sight_of
kept_after around before [] found = sym (keep_nothing found)
kept_after around before (event ∷ events) found =
    kept_after around (event ∷ before) events (keep_all found (found_at around (sight_of before) event))
    ∙ ap (λ l. keep_all (keep_all found l) (broken_after around (event ∷ before) events)) (same_at around before event)
    ∙ sym (keep_append found (breaks around before event) (broken_after around (event ∷ before) events))

pub kept : (around : Around) (events : List Event) (found : Option Refusal)
    → (run around events (record { sight = []; found = found })).found ≡ keep_all found (broken around events)
unfolding sight_of
kept around events found = kept_after around [] events found

-- ---- which rules are broken

has_left : (xs ys : List Refusal) (r : Refusal) → Has xs r → Has (xs ++ ys) r
has_left [] ys r h = absurd h
has_left (x ∷ xs) ys r (inl e) = inl e
has_left (x ∷ xs) ys r (inr h) = inr (has_left xs ys r h)

has_right : (xs ys : List Refusal) (r : Refusal) → Has ys r → Has (xs ++ ys) r
has_right [] ys r h = h
has_right (x ∷ xs) ys r h = inr (has_right xs ys r h)

has_either : (xs ys : List Refusal) (r : Refusal) → Has (xs ++ ys) r → Has xs r ⊎ Has ys r
has_either [] ys r h = inr h
has_either (x ∷ xs) ys r (inl e) = inl (inl e)
has_either (x ∷ xs) ys r (inr h) = go (has_either xs ys r h)
  where
    go : Has xs r ⊎ Has ys r → Has (x ∷ xs) r ⊎ Has ys r
    go (inl k) = inl (inr k)
    go (inr k) = inr k

-- one of these events breaks a rule, after those
BreaksAfter : Around → List Event → List Event → Refusal → Type 0
BreaksAfter around before events r =
    (earlier : List Event) × (event : Event) × (later : List Event) × (events ≡ earlier ++ event ∷ later) × Has (breaks around (reversed_onto earlier before) event) r

to_breaks : (around : Around) (before events : List Event) (r : Refusal) → Has (broken_after around before events) r → BreaksAfter around before events r
unfolding broken_after BreaksAfter
to_breaks around before [] r h = absurd h
to_breaks around before (event ∷ events) r h = go (to_breaks around (event ∷ before) events r) (has_either (breaks around before event) (broken_after around (event ∷ before) events) r h)
  where
    go : (Has (broken_after around (event ∷ before) events) r → BreaksAfter around (event ∷ before) events r)
        → Has (breaks around before event) r ⊎ Has (broken_after around (event ∷ before) events) r → BreaksAfter around before (event ∷ events) r
    go next (inl k) = ([], event, events, refl, k)
    go next (inr k) = let n = next k in (event ∷ n.0, n.1, n.2, ap (λ l. event ∷ l) n.3, n.4)

from_breaks : (around : Around) (before events earlier : List Event) (event : Event) (later : List Event) (r : Refusal)
    → events ≡ earlier ++ event ∷ later → Has (breaks around (reversed_onto earlier before) event) r → Has (broken_after around before events) r
unfolding broken_after
from_breaks around before events [] event later r e h =
    subst (λ l. Has (broken_after around before l) r) (sym e) (has_left (breaks around before event) (broken_after around (event ∷ before) later) r h)
from_breaks around before events (first ∷ earlier) event later r e h =
    subst (λ l. Has (broken_after around before l) r) (sym e)
    (has_right (breaks around before first) (broken_after around (first ∷ before) (earlier ++ event ∷ later)) r
    (from_breaks around (first ∷ before) (earlier ++ event ∷ later) earlier event later r refl h))

pub told_to : (around : Around) (events : List Event) (r : Refusal) → Has (broken around events) r → Breaks around events r
unfolding BreaksAfter
told_to around events r h = to_breaks around [] events r h

pub told_from : (around : Around) (events : List Event) (r : Refusal) → Breaks around events r → Has (broken around events) r
told_from around events r h = from_breaks around [] events h.0 h.1 h.2 r h.3 h.4
