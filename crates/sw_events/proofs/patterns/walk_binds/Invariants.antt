use Rattle.std.proofs.Common.{◌≡◌, take}
use Rattle.sw_scope.specs.Walk.{run}
use Rattle.sw_scope.specs.Events.{each}
use Rattle.sw_events.specs.Bodies.{bind_events}
use Rattle.sw_events.proofs.patterns.walk_binds.Given as goal

abbrev pub invariant-loop-item : goal.invariant-loop-item
invariant-loop-item l = l.seen ≡ run l.around (each bind_events (take l.item-index l.binds)) l.initial.seen
