use Rattle.std.proofs.Common.{◌≡◌, ◌≤◌, ◌+◌, ◌-◌, length, drop}
use Rattle.std.specs.List.{prefix_len}
use Rattle.sw_lex.specs.Bytes.{is_in}
use Rattle.sw_lex.proofs.bytes.run_len.Given as goal

-- the bytes so far are of the class
abbrev pub invariant-loop-end : goal.invariant-loop-end
invariant-loop-end l = record {
  so_far : l.end + prefix_len (is_in l.class) (drop l.end l.bytes) ≡ prefix_len (is_in l.class) l.bytes;
  inside : l.end ≤ length l.bytes;
}

abbrev pub decreases-loop-end : goal.decreases-loop-end
decreases-loop-end l = length l.bytes - l.end
