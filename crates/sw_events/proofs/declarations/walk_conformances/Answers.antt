use Rattle.std.proofs.Common.{[], ◌∷◌}
use Rattle.sw_events.proofs.Runs.{each_start, each_step, each_end}
use Rattle.sw_tree.specs.declared.expr.Name.{Name}
use Rattle.sw_scope.specs.Events.{types}
use Rattle.sw_events.proofs.declarations.walk_conformances.Goals as goal

pub loop-name-init : goal.loop-name-init
loop-name-init c = each_start (λ (name : Name). types name ∷ []) _ _ c.args.names.now

pub loop-name-preserved : goal.loop-name-preserved
loop-name-preserved c = each_step (λ (name : Name). types name ∷ []) _ _ _ _ _ _ _ c.loop-name-test.true c.name-item.is c.loop-name.invariant c.name_type.ensures

pub returns : goal.returns
returns c = each_end (λ (name : Name). types name ∷ []) _ _ _ _ _ c.loop-name.invariant c.loop-name-test.false
