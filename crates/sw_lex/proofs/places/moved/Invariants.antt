use Rattle.std.proofs.Common.{◌≡◌, ◌≤◌, ◌+◌, drop}
use Rattle.sw_lex.specs.Tokens as spec
use Rattle.sw_lex.proofs.places.moved.Given as goal

abbrev pub invariant-loop-byte : goal.invariant-loop-byte
invariant-loop-byte l = record {
  so_far : spec.moved l.place (drop l.byte-index l.bytes) ≡ spec.moved l.fn.place l.bytes;
  line : l.place.line ≤ l.fn.place.line + l.byte-index;
  column : l.place.column ≤ l.fn.place.column + l.byte-index;
}
