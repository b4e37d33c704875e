use Rattle.std.proofs.Common.{◌≡◌, ◌≤◌, ◌∙◌, ap, arith, drop, length, take, true}
use Rattle.std.proofs.lemmas.List.{take_rest}
use Rattle.std.specs.Str.{IsUtf8}
use Rattle.sw_lex.specs.declared.strings.Piece.TheVariants.{Plain}
use Rattle.sw_lex.specs.Characters.{valid_ahead}
use Rattle.sw_lex.specs.Matching.{GoesOn, pieces}
use Rattle.sw_lex.proofs.ValidLemmas.{ahead_more, one_utf8, run_on}
use Rattle.sw_lex.proofs.strings.pieces.Goals as goal

pub pieces-init : goal.pieces-init
pieces-init c =
    let bytes = c.args.bytes.now in
    record {
      so_far = ap (λ n. pieces 0 1 n (drop 1 bytes)) (ahead_more c.args.valid_so_far bytes 1 (λ valid_so_far. one_utf8 bytes (omega arith) c.requires.ascii) c.requires.some);
      inside = c.requires.some;
    }

pub pieces-preserved : goal.pieces-preserved
pieces-preserved c =
    let bytes = c.args.bytes.now in
    let at = c.pieces.at in
    let on : GoesOn (valid_ahead c.args.valid_so_far (drop at bytes)) (drop at bytes) (Plain c.in-Plain.size) = rw take_rest at c.in-Plain.ensures.value in
    let chars : c.args.valid_so_far ≡ true → IsUtf8 (take c.in-Plain.size (drop at bytes)) = rw take_rest at c.in-Plain.ensures.valid in
    let within : c.in-Plain.size ≤ length (drop at bytes) = rw take_rest at (c.in-Plain.ensures.within.1) in
    record {
      so_far = run_on c.args.valid_so_far bytes at c.in-Plain.size on chars within ∙ c.pieces.invariant.so_far;
      inside = grind arith;
    }
