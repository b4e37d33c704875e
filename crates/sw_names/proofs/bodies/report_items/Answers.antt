use Rattle.std.proofs.Common.{ap, ◌∙◌, sym}
use Rattle.std.proofs.lemmas.List.Folds.{flat_map-map}
use Rattle.sw_findings.specs.Found.{keep_all}
use Rattle.sw_events.specs.Parts.{item_part}
use Rattle.sw_names.specs.Walk.{part_broken}
use Rattle.sw_names.proofs.Findings.{each_start, each_step, each_end}
use Rattle.sw_names.proofs.bodies.report_items.Goals as goal

pub loop-item-init : goal.loop-item-init
loop-item-init c = each_start (λ x. part_broken c.args.names.now c.args.own.now (item_part x)) c.args.items.now _

pub loop-item-preserved : goal.loop-item-preserved
loop-item-preserved c = each_step (λ x. part_broken c.args.names.now c.args.own.now (item_part x)) _ _ _ _ _ _ c.loop-item-test.true c.item-item.is c.loop-item.invariant c.in_ok-found.ensures

pub returns : goal.returns
returns c =
    each_end (λ x. part_broken c.args.names.now c.args.own.now (item_part x)) _ _ _ _ c.loop-item.invariant c.loop-item-test.false
    ∙ ap (keep_all c.args.found) (sym (flat_map-map (part_broken c.args.names.now c.args.own.now) item_part c.args.items.now))
