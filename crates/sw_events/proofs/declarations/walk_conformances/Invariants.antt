use Rattle.std.proofs.Common.{◌≡◌, take, [], ◌∷◌}
use Rattle.sw_scope.specs.Walk.{run}
use Rattle.sw_scope.specs.Events.{each}
use Rattle.sw_tree.specs.declared.expr.Name.{Name}
use Rattle.sw_scope.specs.Events.{types}
use Rattle.sw_events.proofs.declarations.walk_conformances.Given as goal

abbrev pub invariant-loop-name : goal.invariant-loop-name
invariant-loop-name l = l.seen ≡ run l.around (each (λ (name : Name). types name ∷ []) (take l.name-index l.names)) l.initial.seen
