use Rattle.std.proofs.Common.{◌≡◌, take}
use Rattle.std.specs.List.{flat_map}
use Rattle.sw_findings.specs.Found.{keep_all}
use Rattle.sw_names.specs.Walk.{decl_broken}
use Rattle.sw_names.proofs.pass.report_decls.Given as goal

abbrev pub invariant-loop-decl : goal.invariant-loop-decl
invariant-loop-decl l = l.found ≡ keep_all l.initial.found (flat_map (decl_broken l.names) (take l.decl-index l.decls))
