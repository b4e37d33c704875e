use Rattle.std.proofs.Common.{◌≡◌, take}
use Rattle.sw_scope.specs.Walk.{run}
use Rattle.sw_scope.specs.Events.{each}
use Rattle.sw_events.specs.Bodies.{condition_events}
use Rattle.sw_events.proofs.patterns.walk_conditions.Given as goal

abbrev pub invariant-loop-condition : goal.invariant-loop-condition
invariant-loop-condition l = l.seen ≡ run l.around (each condition_events (take l.condition-index l.conditions)) l.initial.seen
