use Rattle.std.proofs.Common.{◌≡◌, take}
use Rattle.std.specs.List.{flat_map}
use Rattle.sw_findings.specs.Found.{keep_all}
use Rattle.sw_check_decl.specs.TypesInSource.{type_broken}
use Rattle.sw_check_decl.proofs.written_types.report_parts.Given as goal

abbrev pub invariant-loop-part : goal.invariant-loop-part
invariant-loop-part l = l.found ≡ keep_all l.initial.found (flat_map (λ p. type_broken l.names l.own p.declared) (take l.part-index l.parts))
