use Rattle.std.proofs.Common.{◌≡◌, take}
use Rattle.std.specs.List.{flat_map}
use Rattle.sw_findings.specs.Found.{keep_all}
use Rattle.sw_check_decl.specs.Counts.{case_counted}
use Rattle.sw_check_decl.proofs.counts.report_cases.Given as goal

abbrev pub invariant-loop-case : goal.invariant-loop-case
invariant-loop-case l = l.found ≡ keep_all l.initial.found (flat_map case_counted (take l.case-index l.cases))
