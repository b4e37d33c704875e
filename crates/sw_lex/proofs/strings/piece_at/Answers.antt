use Rattle.std.proofs.Common.{◌≡◌, ◌∙◌, sym, arith}
use Rattle.std.proofs.lemmas.List.{take_rest}
use Rattle.std.specs.Prelude.{slice_index}
use Rattle.sw_lex.specs.Characters.{valid_ahead}
use Rattle.sw_lex.specs.Matching.{piece}
use Rattle.sw_lex.proofs.ValidLemmas.{escape_piece, goes_on, one_utf8, piece_utf8}
use Rattle.sw_lex.proofs.strings.piece_at.Goals as goal

pub returns-in-92-clause-value : goal.returns-in-92-clause-value
returns-in-92-clause-value c =
    let bytes = c.args.bytes.now in
    let slash : slice_index bytes 0 ≡ 92 = cc in
    let it : piece (valid_ahead c.args.valid_so_far bytes) bytes ≡ c.escape.result = escape_piece (valid_ahead c.args.valid_so_far bytes) bytes (omega arith) slash ∙ sym (rw take_rest at c.escape.ensures.value) in
    goes_on (valid_ahead c.args.valid_so_far bytes) bytes c.escape.result _ it c.escape.ensures.within

pub returns-in-92-clause-valid : goal.returns-in-92-clause-valid
returns-in-92-clause-valid c = λ valid_so_far.
    let bytes = c.args.bytes.now in
    let slash : slice_index bytes 0 ≡ 92 = cc in
    let it : piece (valid_ahead c.args.valid_so_far bytes) bytes ≡ c.escape.result = escape_piece (valid_ahead c.args.valid_so_far bytes) bytes (omega arith) slash ∙ sym (rw take_rest at c.escape.ensures.value) in
    piece_utf8 (valid_ahead c.args.valid_so_far bytes) bytes c.escape.result (omega arith) (omega (arith, c.in-92.is)) it

pub returns-in_default-2-clause-valid : goal.returns-in_default-2-clause-valid
returns-in_default-2-clause-valid c = λ valid_so_far. one_utf8 c.args.bytes.now (omega arith) (omega arith)
