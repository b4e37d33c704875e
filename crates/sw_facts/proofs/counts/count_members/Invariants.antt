use Rattle.std.proofs.Common.{◌≡◌, ◌+◌, drop, length}
use Rattle.std.specs.List.{flat_map}
use Rattle.sw_declared.specs.Declarations.{member_funcs}
use Rattle.sw_facts.specs.Numbers.{any_owner}
use Rattle.sw_facts.proofs.counts.count_members.Given as goal

abbrev pub invariant-loop-x : goal.invariant-loop-x
invariant-loop-x l = l.n + length (flat_map (member_funcs any_owner) (drop l.x-index l.members)) ≡ length (flat_map (member_funcs any_owner) l.members)
