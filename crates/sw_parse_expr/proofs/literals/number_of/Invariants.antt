use Rattle.std.proofs.Common.{◌≡◌, ◌≤◌, drop}
use Rattle.sw_base.specs.Limits.{greatest_integer}
use Rattle.sw_lex.specs.Rules.{number}
use Rattle.sw_parse_expr.proofs.literals.number_of.Given as goal

abbrev pub invariant-loop-byte : goal.invariant-loop-byte
invariant-loop-byte l = (number l.so_far (drop l.byte-index l.digits) ≡ number 0 l.digits) × (l.so_far ≤ greatest_integer)
