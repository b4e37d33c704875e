use Rattle.std.proofs.Common.{◌≡◌, take}
use Rattle.sw_scope.specs.Walk.{run}
use Rattle.sw_scope.specs.Events.{each}
use Rattle.sw_events.specs.Parts.{case_events}
use Rattle.sw_events.proofs.declarations.walk_cases.Given as goal

abbrev pub invariant-loop-case : goal.invariant-loop-case
invariant-loop-case l = l.seen ≡ run l.around (each case_events (take l.case-index l.cases)) l.initial.seen
