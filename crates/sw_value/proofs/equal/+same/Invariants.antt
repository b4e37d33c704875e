use Rattle.std.proofs.Common.{◌≡◌, take}
use Rattle.sw_value.proofs.equal.+same.Given as goal

-- the elements so far are equal
abbrev pub invariant-each_alike-loop-i : goal.invariant-each_alike-loop-i
invariant-each_alike-loop-i l = take l.i l.a ≡ take l.i l.b
