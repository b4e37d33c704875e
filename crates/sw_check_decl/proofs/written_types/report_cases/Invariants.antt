use Rattle.std.proofs.Common.{◌≡◌, take}
use Rattle.std.specs.List.{flat_map}
use Rattle.sw_findings.specs.Found.{keep_all}
use Rattle.sw_check_decl.specs.TypesInSource.{case_broken}
use Rattle.sw_check_decl.proofs.written_types.report_cases.Given as goal

abbrev pub invariant-loop-case : goal.invariant-loop-case
invariant-loop-case l = l.found ≡ keep_all l.initial.found (flat_map (case_broken l.names l.own) (take l.case-index l.cases))
