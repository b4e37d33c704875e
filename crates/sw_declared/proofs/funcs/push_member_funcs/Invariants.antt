use Rattle.std.proofs.Common.{◌≡◌, ◌++◌, take}
use Rattle.std.specs.List.{flat_map}
use Rattle.sw_declared.specs.Declarations.{member_funcs}
use Rattle.sw_declared.proofs.funcs.push_member_funcs.Given as goal

abbrev pub invariant-loop-member : goal.invariant-loop-member
invariant-loop-member l = l.funcs ≡ l.initial.funcs ++ flat_map (member_funcs l.owner) (take l.member-index l.members)
