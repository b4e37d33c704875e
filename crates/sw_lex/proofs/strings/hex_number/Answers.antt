use Rattle.std.proofs.Common.{◌≡◌, ◌+◌, ◌*◌, drop, min, ap, sym, ◌∙◌, arith}
use Rattle.std.specs.Prelude.{slice_index}
use Rattle.std.proofs.lemmas.List.{drop_more}
use Rattle.sw_lex.specs.Strings.{hex_number, hex_digit}
use Rattle.sw_lex.proofs.HexLemmas.{hex_least}
use Rattle.sw_lex.proofs.strings.hex_number.Goals as goal

pub loop-digit-preserved : goal.loop-digit-preserved
loop-digit-preserved c =
    let digits = c.args.digits.now in
    let at = c.loop-digit.digit-index in
    let number = c.loop-digit.number in
    let more = number * 16 + hex_digit (slice_index digits at) in
    let new : c.min-number.result ≡ min more 1114112 = cc in
    let step : hex_number number (drop at digits) ≡ hex_number more (drop (at + 1) digits) = ap (hex_number number) (drop_more digits at 0 (c.loop-digit-test.true)) in
    record {
      so_far = ap (λ n. min (hex_number n (drop (at + 1) digits)) 1114112) new ∙ hex_least more (drop (at + 1) digits) ∙ ap (λ n. min n 1114112) (sym step) ∙ c.loop-digit.invariant.so_far;
      small = omega (arith, new);
    }
