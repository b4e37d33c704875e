-- The rules of names that an event breaks. Each looks at the event, at those before it, and at what the file and the own
-- type declare.
use Rattle.std.specs.Prelude.{◌≡◌, ℕ, zero, suc, Bool, false, ◌||◌, ◌&&◌, not, List, [], ◌∷◌, ◌++◌}
use Rattle.sw_rules.specs.declared.Refusal.{Refusal}
use Rattle.sw_rules.specs.declared.Rule.TheVariants.{N1, N2, N3, N4}
use Rattle.sw_findings.specs.Found.{Has, when}
use Rattle.sw_sight.specs.InSight.{Text, same}
use Rattle.sw_scope.specs.Events.{Event, opens, closes, binds, reads, types, inner, instance}
use Rattle.sw_scope.specs.Around.{Around, is_type, is_inner, is_declared, needs_instance}

-- ---- names in sight

-- A name is in sight at a place: looking back from there, the nearest event first, a scope that has not ended binds it.
-- The number counts the scopes that ended on the way and have not begun yet.
abbrev pub sees : ℕ → Text → List Event → Bool
sees ended x [] = false
sees ended x (closes ∷ before) = sees (suc ended) x before
sees zero x (opens ∷ before) = sees zero x before
sees (suc ended) x (opens ∷ before) = sees ended x before
sees zero x (binds name ∷ before) = same name.text x || sees zero x before
sees (suc ended) x (binds name ∷ before) = sees (suc ended) x before
sees ended x (event ∷ before) = sees ended x before

-- the same, back to where the innermost scope begins
abbrev pub sees_here : ℕ → Text → List Event → Bool
sees_here ended x [] = false
sees_here ended x (closes ∷ before) = sees_here (suc ended) x before
sees_here zero x (opens ∷ before) = false
sees_here (suc ended) x (opens ∷ before) = sees_here ended x before
sees_here zero x (binds name ∷ before) = same name.text x || sees_here zero x before
sees_here (suc ended) x (binds name ∷ before) = sees_here (suc ended) x before
sees_here ended x (event ∷ before) = sees_here ended x before

-- ---- the rules

-- What an event breaks, by the events before it, the nearest first.
-- N1: a name is bound twice in one scope; at the second.
-- N2: a type name is unknown; at it.
-- N3: a name is unknown; at it.
-- N4: `self`, written or not, where there is no instance; at `self`, or at the member's name.
abbrev pub breaks : Around → List Event → Event → List Refusal
breaks around before (binds name) = when (sees_here 0 name.text before) N1 name.span
breaks around before (types name) = when (not (is_type around name.text)) N2 name.span
breaks around before (inner outer name) =
    when (not (is_type around outer.text)) N2 outer.span
    ++ when (is_type around outer.text && not (is_inner around outer.text name.text)) N2 name.span
breaks around before (reads name called) =
    when (not (sees 0 name.text before) && not (is_declared around name.text)) N3 name.span
    ++ when (not (sees 0 name.text before) && not around.has_instance && needs_instance around.own name.text called) N4 name.span
breaks around before (instance at) = when (not around.has_instance) N4 at
breaks around before event = []

-- these events and those before them, the nearest first
abbrev pub reversed_onto : List Event → List Event → List Event
reversed_onto [] before = before
reversed_onto (event ∷ events) before = reversed_onto events (event ∷ before)

-- One of these events breaks a rule at a place.
abbrev pub Breaks : Around → List Event → Refusal → Type 0
Breaks around events refusal =
    (earlier : List Event) × (event : Event) × (later : List Event)
    × (events ≡ earlier ++ event ∷ later) × Has (breaks around (reversed_onto earlier []) event) refusal
