use Rattle.std.proofs.Common.{ap, ◌∙◌, sym}
use Rattle.std.proofs.lemmas.List.Folds.{flat_map-map}
use Rattle.sw_findings.specs.Found.{keep_all}
use Rattle.sw_events.specs.Parts.{requirement_part}
use Rattle.sw_names.specs.Walk.{part_broken}
use Rattle.sw_names.proofs.Findings.{each_start, each_step, each_end}
use Rattle.sw_names.proofs.bodies.report_requirements.Goals as goal

pub loop-requirement-init : goal.loop-requirement-init
loop-requirement-init c = each_start (λ x. part_broken c.args.names.now c.args.own.now (requirement_part x)) c.args.requirements.now _

pub loop-requirement-preserved : goal.loop-requirement-preserved
loop-requirement-preserved c = each_step (λ x. part_broken c.args.names.now c.args.own.now (requirement_part x)) _ _ _ _ _ _ c.loop-requirement-test.true c.requirement-item.is c.loop-requirement.invariant c.in_ok-found.ensures

pub returns : goal.returns
returns c =
    each_end (λ x. part_broken c.args.names.now c.args.own.now (requirement_part x)) _ _ _ _ c.loop-requirement.invariant c.loop-requirement-test.false
    ∙ ap (keep_all c.args.found) (sym (flat_map-map (part_broken c.args.names.now c.args.own.now) requirement_part c.args.requirements.now))
