use Rattle.std.proofs.Common.{◌≡◌, take}
use Rattle.std.specs.List.{flat_map}
use Rattle.sw_findings.specs.Found.{keep_all}
use Rattle.sw_check_decl.specs.Conformances.{conformance_broken}
use Rattle.sw_check_decl.proofs.conformances.report_conformances.Given as goal

abbrev pub invariant-loop-name : goal.invariant-loop-name
invariant-loop-name l = l.found ≡ keep_all l.initial.found (flat_map (conformance_broken l.names l.own l.on_actor) (take l.name-index l.conformances))
