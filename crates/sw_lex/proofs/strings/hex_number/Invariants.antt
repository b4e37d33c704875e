use Rattle.std.proofs.Common.{◌≡◌, ◌≤◌, drop, min}
use Rattle.sw_lex.specs.Strings.{hex_number}
use Rattle.sw_lex.proofs.strings.hex_number.Given as goal

abbrev pub invariant-loop-digit : goal.invariant-loop-digit
invariant-loop-digit l = record {
  so_far : min (hex_number l.number (drop l.digit-index l.digits)) 1114112 ≡ min (hex_number 0 l.digits) 1114112;
  small : l.number ≤ 1114112;
}
