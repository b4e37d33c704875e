use Rattle.std.proofs.Common.{arith, ◌+◌, drop, [], ◌∷◌, sym, ap, ◌∙◌}
use Rattle.std.specs.Prelude.{slice_index}
use Rattle.sw_lex.specs.Rules.{number}
use Rattle.sw_parse_expr.proofs.NumberLemmas.{number_grows, number_next}
use Rattle.sw_parse_expr.proofs.literals.number_of.Goals as goal

pub with_digit-so_far-requires : goal.with_digit-so_far-requires
with_digit-so_far-requires c =
    let z = c.args.digits.now in
    let next = number_next c.loop-byte.so_far c.loop-byte.byte-index z (omega arith) in
    let grows = number_grows (number c.loop-byte.so_far (slice_index z c.loop-byte.byte-index ∷ [])) (drop (c.loop-byte.byte-index + 1) z) in
    omega (arith, next, grows, c.loop-byte.invariant.0, c.requires)

pub loop-byte-preserved : goal.loop-byte-preserved
loop-byte-preserved c =
    let z = c.args.digits.now in
    let next = number_next c.loop-byte.so_far c.loop-byte.byte-index z (omega arith) in
    let grows = number_grows (number c.loop-byte.so_far (slice_index z c.loop-byte.byte-index ∷ [])) (drop (c.loop-byte.byte-index + 1) z) in
    (ap (λ n. number n (drop (c.loop-byte.byte-index + 1) z)) c.with_digit-so_far.ensures ∙ sym next ∙ c.loop-byte.invariant.0, omega (arith, next, grows, c.loop-byte.invariant.0, c.requires, c.with_digit-so_far.ensures))
