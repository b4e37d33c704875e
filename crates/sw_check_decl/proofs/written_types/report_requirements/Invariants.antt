use Rattle.std.proofs.Common.{◌≡◌, take}
use Rattle.std.specs.List.{flat_map}
use Rattle.sw_findings.specs.Found.{keep_all}
use Rattle.sw_check_decl.specs.TypesInSource.{requirement_broken}
use Rattle.sw_check_decl.proofs.written_types.report_requirements.Given as goal

abbrev pub invariant-loop-requirement : goal.invariant-loop-requirement
invariant-loop-requirement l = l.found ≡ keep_all l.initial.found (flat_map (requirement_broken l.names l.own) (take l.requirement-index l.requirements))
