use Rattle.std.proofs.Common.{◌≡◌, take}
use Rattle.std.specs.List.{flat_map}
use Rattle.sw_findings.specs.Found.{keep_all}
use Rattle.sw_check_decl.specs.Forms.{item_form}
use Rattle.sw_check_decl.proofs.forms.report_enum.Given as goal

abbrev pub invariant-loop-item : goal.invariant-loop-item
invariant-loop-item l = l.found ≡ keep_all l.initial.found (flat_map item_form (take l.item-index l.items))
