use Rattle.std.proofs.Common.{take}
use Rattle.std.specs.List.{flat_map}
use Rattle.sw_names.specs.Keys.{member_keys}
use Rattle.sw_names.specs.Meeting.{Meets}
use Rattle.sw_names.proofs.keys.meet_members.Given as goal

abbrev pub invariant-loop-member : goal.invariant-loop-member
invariant-loop-member l = Meets (flat_map member_keys (take l.member-index l.members)) l.initial.scope l.scope
