use Rattle.std.proofs.Common.{arith, ◌≡◌, ◌++◌, drop}
use Rattle.std.proofs.lemmas.List.{take_rest}
use Rattle.sw_lex.specs.Matching.{piece_text, piece_len}
use Rattle.sw_lex.proofs.StringLemmas.{decoded_step}
use Rattle.sw_lex.proofs.strings.decoded.Goals as goal

pub loop-at-preserved : goal.loop-at-preserved
loop-at-preserved c =
    let bytes = c.args.bytes.now in
    let at = c.loop-at.at in
    let pushed : c.push_piece_text.new.out.items ≡ c.loop-at.out.items ++ piece_text (drop at bytes) = rw take_rest at c.in_ok-push_piece_text.ensures in
    let size : c.piece_len-at.result ≡ piece_len (drop at bytes) = rw take_rest at c.piece_len-at.ensures.value in
    decoded_step bytes c.loop-at.out.items c.push_piece_text.new.out.items at c.piece_len-at.result (omega arith) pushed size c.loop-at.invariant
