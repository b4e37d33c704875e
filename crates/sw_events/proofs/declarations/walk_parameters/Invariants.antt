use Rattle.std.proofs.Common.{◌≡◌, take}
use Rattle.sw_scope.specs.Walk.{run}
use Rattle.sw_scope.specs.Events.{each}
use Rattle.sw_events.specs.Parts.{parameter_events}
use Rattle.sw_events.proofs.declarations.walk_parameters.Given as goal

abbrev pub invariant-loop-parameter : goal.invariant-loop-parameter
invariant-loop-parameter l = l.seen ≡ run l.around (each parameter_events (take l.parameter-index l.parameters)) l.initial.seen
