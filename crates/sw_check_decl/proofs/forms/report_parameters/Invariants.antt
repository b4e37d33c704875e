use Rattle.std.proofs.Common.{◌≡◌, take}
use Rattle.std.specs.List.{flat_map}
use Rattle.sw_findings.specs.Found.{keep_all}
use Rattle.sw_check_decl.specs.Forms.{parameter_form}
use Rattle.sw_check_decl.proofs.forms.report_parameters.Given as goal

abbrev pub invariant-loop-parameter : goal.invariant-loop-parameter
invariant-loop-parameter l = l.found ≡ keep_all l.initial.found (flat_map parameter_form (take l.parameter-index l.parameters))
