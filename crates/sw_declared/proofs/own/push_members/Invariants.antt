use Rattle.std.proofs.Common.{◌≡◌, ◌++◌, take}
use Rattle.std.specs.List.{flat_map}
use Rattle.sw_declared.specs.Declarations.{members_of}
use Rattle.sw_declared.proofs.own.push_members.Given as goal

abbrev pub invariant-loop-member : goal.invariant-loop-member
invariant-loop-member l = l.own ≡ l.initial.own ++ flat_map members_of (take l.member-index l.members)
