use Rattle.std.proofs.Common.{◌≡◌, take}
use Rattle.std.specs.List.{flat_map}
use Rattle.sw_findings.specs.Found.{keep_all}
use Rattle.sw_events.specs.Parts.{requirement_part}
use Rattle.sw_names.specs.Walk.{part_broken}
use Rattle.sw_names.proofs.bodies.report_requirements.Given as goal

abbrev pub invariant-loop-requirement : goal.invariant-loop-requirement
invariant-loop-requirement l = l.found ≡ keep_all l.initial.found (flat_map (λ x. part_broken l.names l.own (requirement_part x)) (take l.requirement-index l.requirements))
