use Rattle.std.proofs.Common.{◌≡◌, ◌+◌, length, take}
use Rattle.std.specs.List.{flat_map}
use Rattle.sw_check_decl.specs.Counts.{cases_in}
use Rattle.sw_check_decl.proofs.counts.case_too_many.Given as goal

abbrev pub invariant-loop-item : goal.invariant-loop-item
invariant-loop-item l = l.left + length (flat_map cases_in (take l.item-index l.items)) ≡ 255
