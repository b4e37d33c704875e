use Rattle.std.proofs.Common.{◌≡◌, IfOk, subst}
use Rattle.std.specs.List.{flat_map}
use Rattle.sw_findings.specs.Found.{keep_all}
use Rattle.sw_events.specs.Parts.{parts_of}
use Rattle.sw_names.specs.Walk.{inside_broken, part_broken}
use Rattle.sw_names.proofs.bodies.report_inside.Goals as goal

pub returns : goal.returns
unfolding inside_broken
returns c =
    subst (λ own. IfOk c.report_parts.result (λ more. more ≡ keep_all c.args.found (flat_map (part_broken c.args.names.now own) (parts_of c.args.decl.now))))
    c.in_ok-own.ensures c.report_parts.ensures
