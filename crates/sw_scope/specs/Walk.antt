-- What a walk over events leaves: the names in sight, and what it has found.
use Rattle.std.specs.Prelude.{◌&&◌, not, Some, None, List, [], ◌∷◌, ◌++◌}
use Rattle.sw_rules.specs.declared.Refusal.{Refusal}
use Rattle.sw_rules.specs.declared.Rule.TheVariants.{N1, N2, N3, N4}
use Rattle.sw_findings.specs.Found.{keep_all, when}
use Rattle.sw_sight.specs.InSight.{Sight, closed, in_sight, in_scope}
use Rattle.sw_scope.specs.Events.{Event, opens, closes, binds, reads, types, inner, instance}
use Rattle.sw_scope.specs.Around.{Around, is_type, is_inner, is_declared, needs_instance}
use Rattle.sw_scope.specs.Rules.{breaks}
use Rattle.sw_scope.specs.declared.seen.Seen.{Seen}

-- ---- one event after another, with the names in sight

-- the names in sight after an event
unfoldable pub shifted : Sight → Event → Sight
shifted sight opens = None ∷ sight
shifted sight closes = closed sight
shifted sight (binds name) = Some name.text ∷ sight
shifted sight event = sight

-- what an event breaks, by the names in sight before it
unfoldable pub found_at : Around → Sight → Event → List Refusal
found_at around sight (binds name) = when (in_scope name.text sight) N1 name.span
found_at around sight (types name) = when (not (is_type around name.text)) N2 name.span
found_at around sight (inner outer name) =
    when (not (is_type around outer.text)) N2 outer.span
    ++ when (is_type around outer.text && not (is_inner around outer.text name.text)) N2 name.span
found_at around sight (reads name called) =
    when (not (in_sight name.text sight) && not (is_declared around name.text)) N3 name.span
    ++ when (not (in_sight name.text sight) && not around.has_instance && needs_instance around.own name.text called) N4 name.span
found_at around sight (instance at) = when (not around.has_instance) N4 at
found_at around sight event = []

-- what is seen after one more event
unfoldable pub step : Around → Event → Seen → Seen
step around event seen = record { sight = shifted seen.sight event; found = keep_all seen.found (found_at around seen.sight event) }

-- and after more
unfoldable pub run : Around → List Event → Seen → Seen
run around [] seen = seen
run around (event ∷ events) seen = run around events (step around event seen)

-- ---- all that events break, by looking back

-- what these events break, after others, of which the nearest stands first
unfoldable pub broken_after : Around → List Event → List Event → List Refusal
broken_after around before [] = []
broken_after around before (event ∷ events) = breaks around before event ++ broken_after around (event ∷ before) events

-- what these events break, one after another
abbrev pub broken : Around → List Event → List Refusal
broken around events = broken_after around [] events
