use Rattle.std.proofs.Common.{arith, ◌≡◌, ◌<◌, ◌*◌, ◌+◌, ◌-◌, false, ◌==◌}
use Rattle.std.specs.Prelude.{slice_index}
use Rattle.std.proofs.lemmas.Grind.{common_steps}
use Rattle.sw_base.specs.Limits.{greatest_integer}
use Rattle.sw_lex.specs.Rules.{number}
use Rattle.sw_lex.proofs.NumberLemmas.{number_large}
use Rattle.sw_lex.proofs.limits.is_above_greatest.Goals as goal

pub returns-then-number-digit : goal.returns-then-number-digit
returns-then-number-digit c =
    let z = c.args.digits.now in
    let other : (slice_index z c.loop-byte.byte-index == 95) ≡ false = grind (arith, common_steps) in
    let above : greatest_integer < c.loop-byte.number * 10 + (slice_index z c.loop-byte.byte-index - 48) = omega arith in
    let large = number_large greatest_integer c.loop-byte.number c.loop-byte.byte-index z (omega arith) other above in
    let all : greatest_integer < number 0 z = omega (arith, large, c.loop-byte.invariant.0) in
    grind (arith, common_steps, all)
