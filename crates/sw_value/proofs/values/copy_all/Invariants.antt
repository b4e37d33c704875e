use Rattle.std.proofs.Common.{◌≡◌, take}
use Rattle.sw_value.proofs.values.copy_all.Given as goal

-- the values so far are copied
abbrev pub invariant-loop-value : goal.invariant-loop-value
invariant-loop-value l = l.copied ≡ take l.value-index l.values
