use Rattle.std.proofs.Common.{◌≡◌, take}
use Rattle.std.specs.List.{flat_map}
use Rattle.sw_findings.specs.Found.{keep_all}
use Rattle.sw_check_decl.specs.Forms.{requirement_form}
use Rattle.sw_check_decl.proofs.forms.report_protocol.Given as goal

abbrev pub invariant-loop-requirement : goal.invariant-loop-requirement
invariant-loop-requirement l = l.found ≡ keep_all l.initial.found (flat_map requirement_form (take l.requirement-index l.requirements))
