use Rattle.std.proofs.Common.{ap, ◌∙◌, sym}
use Rattle.std.proofs.lemmas.List.Folds.{flat_map-map}
use Rattle.sw_findings.specs.Found.{keep_all}
use Rattle.sw_events.specs.Parts.{member_part}
use Rattle.sw_names.specs.Walk.{part_broken}
use Rattle.sw_names.proofs.Findings.{each_start, each_step, each_end}
use Rattle.sw_names.proofs.bodies.report_members.Goals as goal

pub loop-member-init : goal.loop-member-init
loop-member-init c = each_start (λ x. part_broken c.args.names.now c.args.own.now (member_part x)) c.args.members.now _

pub loop-member-preserved : goal.loop-member-preserved
loop-member-preserved c = each_step (λ x. part_broken c.args.names.now c.args.own.now (member_part x)) _ _ _ _ _ _ c.loop-member-test.true c.member-item.is c.loop-member.invariant c.in_ok-found.ensures

pub returns : goal.returns
returns c =
    each_end (λ x. part_broken c.args.names.now c.args.own.now (member_part x)) _ _ _ _ c.loop-member.invariant c.loop-member-test.false
    ∙ ap (keep_all c.args.found) (sym (flat_map-map (part_broken c.args.names.now c.args.own.now) member_part c.args.members.now))
