use Rattle.std.proofs.Common.{◌≡◌, take}
use Rattle.std.specs.List.{flat_map}
use Rattle.sw_findings.specs.Found.{keep_all}
use Rattle.sw_events.specs.Parts.{member_part}
use Rattle.sw_names.specs.Walk.{part_broken}
use Rattle.sw_names.proofs.bodies.report_members.Given as goal

abbrev pub invariant-loop-member : goal.invariant-loop-member
invariant-loop-member l = l.found ≡ keep_all l.initial.found (flat_map (λ x. part_broken l.names l.own (member_part x)) (take l.member-index l.members))
