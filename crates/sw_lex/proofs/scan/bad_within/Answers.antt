use Rattle.std.proofs.Common.{◌≡◌, ◌≤◌, ◌-◌, length, drop, take, arith, length-drop}
use Rattle.std.proofs.lemmas.List.{length-take, take_rest}
use Rattle.sw_lex.specs.Cut.{IsValidPrefix}
use Rattle.sw_lex.proofs.CharacterLemmas.{bad_ahead, bad_before_boundary, prefix_more, part_bad, part_valid}
use Rattle.sw_lex.proofs.ScanLemmas.{place_ahead, spot_near}
use Rattle.sw_lex.proofs.scan.bad_within.Goals as goal

pub returns-then-valid-size-clause-prefix : goal.returns-then-valid-size-clause-prefix
returns-then-valid-size-clause-prefix c =
    let source = c.args.source.now in
    let at = c.args.here.at in
    let whole : c.valid_len-valid.result ≡ c.args.size = cc in
    let valid : IsValidPrefix (take c.args.size (drop at source)) c.valid_len-valid.result = rw take_rest at c.valid_len-valid.ensures in
    prefix_more source at c.args.size c.requires.valid_so_far (part_valid (drop at source) c.args.size c.valid_len-valid.result valid whole)

pub moved-requires-clause-lines : goal.moved-requires-clause-lines
moved-requires-clause-lines c =
    let source = c.args.source.now in
    let at = c.args.here.at in
    let near = spot_near source at c.args.here.place c.requires.place in
    omega (arith, near.0, length-take c.valid_len-valid.result (take (length source - at) (drop at source)), length-take (length source - at) (drop at source), length-drop at source)

pub moved-requires-clause-columns : goal.moved-requires-clause-columns
moved-requires-clause-columns c =
    let source = c.args.source.now in
    let at = c.args.here.at in
    let near = spot_near source at c.args.here.place c.requires.place in
    omega (arith, near.1, length-take c.valid_len-valid.result (take (length source - at) (drop at source)), length-take (length source - at) (drop at source), length-drop at source)

pub returns-clause-prefix : goal.returns-clause-prefix
returns-clause-prefix c =
    let source = c.args.source.now in
    let at = c.args.here.at in
    let within : c.args.size ≤ length (drop at source) = omega (arith, length-drop at source) in
    let valid : IsValidPrefix (take c.args.size (drop at source)) c.valid_len-valid.result = rw take_rest at c.valid_len-valid.ensures in
    let bad = part_bad (drop at source) c.args.size c.valid_len-valid.result within valid c.if-valid-size.false in
    (bad_ahead source at c.valid_len-valid.result c.requires.valid_so_far (omega arith) (bad_before_boundary (drop at source) c.args.size c.valid_len-valid.result within c.requires.boundary bad.0), omega (arith, bad.1))

pub returns-clause-placed : goal.returns-clause-placed
returns-clause-placed c =
    place_ahead c.args.source.now c.args.here.at c.valid_len-valid.result c.args.here.place c.moved.result c.requires.place (rw take_rest at c.moved.ensures.value)
