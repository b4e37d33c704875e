use Rattle.std.proofs.Common.{◌≡◌, take}
use Rattle.sw_scope.specs.Walk.{run}
use Rattle.sw_scope.specs.Events.{each}
use Rattle.sw_tree.specs.declared.decl.Payload.{Payload}
use Rattle.sw_events.specs.Bodies.{type_events}
use Rattle.sw_events.proofs.declarations.walk_payload.Given as goal

abbrev pub invariant-loop-part : goal.invariant-loop-part
invariant-loop-part l = l.seen ≡ run l.around (each (λ (p : Payload). type_events p.declared) (take l.part-index l.parts)) l.initial.seen
