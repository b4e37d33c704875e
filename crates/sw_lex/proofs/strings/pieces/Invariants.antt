use Rattle.std.proofs.Common.{◌≡◌, ◌≤◌, ◌-◌, length, drop}
use Rattle.sw_lex.specs.Characters.{valid_ahead}
use Rattle.sw_lex.specs.Matching as spec
use Rattle.sw_lex.proofs.strings.pieces.Given as goal

-- the pieces so far are plain
abbrev pub invariant-pieces : goal.invariant-pieces
invariant-pieces l = record {
  so_far : spec.pieces 0 l.at (valid_ahead l.valid_so_far (drop l.at l.bytes)) (drop l.at l.bytes) ≡ spec.pieces 0 1 (valid_ahead l.valid_so_far l.bytes - 1) (drop 1 l.bytes);
  inside : l.at ≤ length l.bytes;
}

abbrev pub decreases-pieces : goal.decreases-pieces
decreases-pieces l = length l.bytes - l.at
