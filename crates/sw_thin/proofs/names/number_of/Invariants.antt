use Rattle.std.proofs.Common.{◌≡◌, drop}
use Rattle.sw_thin.specs.TreeReading.{number_from}
use Rattle.sw_thin.proofs.names.number_of.Given as goal

abbrev pub invariant-loop-c : goal.invariant-loop-c
invariant-loop-c l = number_from l.number (drop l.c-index l.digits) ≡ number_from 0 l.digits
