use Rattle.std.proofs.Common.{◌≡◌, take}
use Rattle.sw_scope.specs.Walk.{run}
use Rattle.sw_scope.specs.Events.{each}
use Rattle.sw_events.specs.Bodies.{pattern_events}
use Rattle.sw_events.proofs.patterns.walk_patterns.Given as goal

abbrev pub invariant-loop-pattern : goal.invariant-loop-pattern
invariant-loop-pattern l = l.seen ≡ run l.around (each pattern_events (take l.pattern-index l.patterns)) l.initial.seen
