use Rattle.std.proofs.Common.{◌≡◌, ◌≤◌, drop}
use Rattle.sw_base.specs.Limits.{greatest_integer}
use Rattle.sw_lex.specs.Rules as spec
use Rattle.sw_lex.proofs.limits.is_above_greatest.Given as goal

abbrev pub invariant-loop-byte : goal.invariant-loop-byte
invariant-loop-byte l = (spec.number l.number (drop l.byte-index l.digits) ≡ spec.number 0 l.digits) × (l.number ≤ greatest_integer)
