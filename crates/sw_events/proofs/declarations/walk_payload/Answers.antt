use Rattle.sw_events.proofs.Runs.{each_start, each_step, each_end}
use Rattle.sw_tree.specs.declared.decl.Payload.{Payload}
use Rattle.sw_events.specs.Bodies.{type_events}
use Rattle.sw_events.proofs.declarations.walk_payload.Goals as goal

pub loop-part-init : goal.loop-part-init
loop-part-init c = each_start (λ (p : Payload). type_events p.declared) _ _ c.args.parts.now

pub loop-part-preserved : goal.loop-part-preserved
loop-part-preserved c = each_step (λ (p : Payload). type_events p.declared) _ _ _ _ _ _ _ c.loop-part-test.true c.part-item.is c.loop-part.invariant c.walk_type.ensures

pub returns : goal.returns
returns c = each_end (λ (p : Payload). type_events p.declared) _ _ _ _ _ c.loop-part.invariant c.loop-part-test.false
