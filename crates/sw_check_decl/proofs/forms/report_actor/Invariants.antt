use Rattle.std.proofs.Common.{◌≡◌, take}
use Rattle.std.specs.List.{flat_map}
use Rattle.sw_findings.specs.Found.{keep_all}
use Rattle.sw_check_decl.specs.Forms.{actor_member_form}
use Rattle.sw_check_decl.proofs.forms.report_actor.Given as goal

abbrev pub invariant-loop-member : goal.invariant-loop-member
invariant-loop-member l = l.found ≡ keep_all l.initial.found (flat_map actor_member_form (take l.member-index l.members))
