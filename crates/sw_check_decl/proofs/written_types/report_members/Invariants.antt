use Rattle.std.proofs.Common.{◌≡◌, take}
use Rattle.std.specs.List.{flat_map}
use Rattle.sw_findings.specs.Found.{keep_all}
use Rattle.sw_check_decl.specs.TypesInSource.{member_broken}
use Rattle.sw_check_decl.proofs.written_types.report_members.Given as goal

abbrev pub invariant-loop-member : goal.invariant-loop-member
invariant-loop-member l = l.found ≡ keep_all l.initial.found (flat_map (member_broken l.names l.own) (take l.member-index l.members))
