use Rattle.std.proofs.Common.{◌≡◌, ◌-◌, ◌++◌, length, drop}
use Rattle.sw_lex.specs.Matching.{decoded}
use Rattle.sw_lex.proofs.strings.decoded.Given as goal

abbrev pub invariant-loop-at : goal.invariant-loop-at
invariant-loop-at l = l.out.items ++ decoded 0 (drop l.at l.bytes) ≡ decoded 0 l.bytes

abbrev pub decreases-loop-at : goal.decreases-loop-at
decreases-loop-at l = length l.bytes - l.at
