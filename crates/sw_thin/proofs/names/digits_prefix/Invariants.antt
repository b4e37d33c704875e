use Rattle.std.proofs.Common.{take}
use Rattle.sw_thin.specs.TreeReading.{IsDigits}
use Rattle.sw_thin.proofs.names.digits_prefix.Given as goal

abbrev pub invariant-loop-i : goal.invariant-loop-i
invariant-loop-i l = IsDigits (take l.i l.bytes)
