-- What a part of a source says of names, one event after another.
use Rattle.std.specs.Prelude.{List, [], ◌∷◌, ◌++◌, Option, Some, None}
use Rattle.sw_base.specs.declared.ids.Span.{Span}
use Rattle.sw_tree.specs.declared.expr.Name.{Name}
use Rattle.sw_declared.specs.Members.{Called}

pub data Event : Type 0 where
  -- a scope begins
  opens : Event
  -- the innermost scope ends
  closes : Event
  -- from here on this name is in sight, in the innermost scope
  binds : Name → Event
  -- a name stands as a value; where it is called, with these labels
  reads : Name → Called → Event
  -- a name stands as a type
  types : Name → Event
  -- after a name and a `.` another stands as a type
  inner : Name → Name → Event
  -- `self`
  instance : Span → Event

-- a scope of its own
abbrev pub scope : List Event → List Event
scope events = opens ∷ (events ++ closes ∷ [])

-- one after another
abbrev pub in_turn : List (List Event) → List Event
in_turn [] = []
in_turn (x ∷ xs) = x ++ in_turn xs

-- those of each item
abbrev pub each : {A : Type 0} → (A → List Event) → List A → List Event
each f [] = []
each f (x ∷ xs) = f x ++ each f xs

-- those of an item, where there is one
abbrev pub perhaps : {A : Type 0} → (A → List Event) → Option A → List Event
perhaps f None = []
perhaps f (Some x) = f x
