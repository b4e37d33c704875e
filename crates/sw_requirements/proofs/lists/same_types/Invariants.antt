use Rattle.std.proofs.Common.{◌≡◌, drop}
use Rattle.sw_requirements.specs.Met.{same_types}
use Rattle.sw_requirements.proofs.lists.same_types.Given as goal

abbrev pub invariant-loop-i : goal.invariant-loop-i
invariant-loop-i l = same_types l.a l.b ≡ same_types (drop l.i l.a) (drop l.i l.b)
