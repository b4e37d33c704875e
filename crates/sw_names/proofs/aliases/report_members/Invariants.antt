use Rattle.std.proofs.Common.{◌≡◌, take}
use Rattle.std.specs.List.{flat_map}
use Rattle.sw_findings.specs.Found.{keep_all}
use Rattle.sw_names.specs.Pass.{member_breaks}
use Rattle.sw_names.proofs.aliases.report_members.Given as goal

abbrev pub invariant-loop-member : goal.invariant-loop-member
invariant-loop-member l = l.found ≡ keep_all l.initial.found (flat_map (member_breaks l.distributed) (take l.member-index l.members))
