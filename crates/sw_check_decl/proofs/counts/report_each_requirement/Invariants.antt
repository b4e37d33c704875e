use Rattle.std.proofs.Common.{◌≡◌, take}
use Rattle.std.specs.List.{flat_map}
use Rattle.sw_findings.specs.Found.{keep_all}
use Rattle.sw_check_decl.specs.Counts.{requirement_counted}
use Rattle.sw_check_decl.proofs.counts.report_each_requirement.Given as goal

abbrev pub invariant-loop-requirement : goal.invariant-loop-requirement
invariant-loop-requirement l = l.found ≡ keep_all l.initial.found (flat_map requirement_counted (take l.requirement-index l.requirements))
