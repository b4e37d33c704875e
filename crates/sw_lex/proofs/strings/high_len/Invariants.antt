use Rattle.std.proofs.Common.{◌≡◌, ◌≤◌, ◌+◌, ◌-◌, length, drop}
use Rattle.sw_lex.specs.Matching as spec
use Rattle.sw_lex.proofs.strings.high_len.Given as goal

-- the bytes so far are not of ASCII
abbrev pub invariant-loop-end : goal.invariant-loop-end
invariant-loop-end l = record {
  so_far : l.end + spec.high_len (drop l.end l.bytes) ≡ spec.high_len l.bytes;
  inside : l.end ≤ length l.bytes;
}

abbrev pub decreases-loop-end : goal.decreases-loop-end
decreases-loop-end l = length l.bytes - l.end
