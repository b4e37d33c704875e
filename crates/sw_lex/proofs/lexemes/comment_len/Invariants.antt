use Rattle.std.proofs.Common.{◌≡◌, ◌≤◌, ◌-◌, length, drop}
use Rattle.sw_lex.specs.Matching.{comment_len}
use Rattle.sw_lex.proofs.lexemes.comment_len.Given as goal

-- the comment is still open
abbrev pub invariant-loop-at : goal.invariant-loop-at
invariant-loop-at l = record {
  so_far : comment_len 0 l.depth l.at (drop l.at l.bytes) ≡ comment_len 0 1 2 (drop 2 l.bytes);
  inside : l.at ≤ length l.bytes;
  some_open : 1 ≤ l.depth;
  shallow : l.depth ≤ l.at;
}

abbrev pub decreases-loop-at : goal.decreases-loop-at
decreases-loop-at l = length l.bytes - l.at
