use Rattle.std.proofs.Common.{ap, ◌∙◌}
use Rattle.sw_lex.specs.FirstBroken.{fault_found, large_found}
use Rattle.sw_lex.specs.Scanning.{by_offset}
use Rattle.std.specs.Str.Lossy.{utf8_valid_len}
use Rattle.sw_lex.proofs.CharacterLemmas.{valid_is}
use Rattle.sw_lex.proofs.RuleLemmas.{first_of_all}
use Rattle.sw_lex.proofs.broken.first_broken.Goals as goal

found : goal.returns-clause-first
found c =
    let read = c.requires.read in
    first_of_all c.args.source.now (utf8_valid_len c.args.source.now) read.items c.args.stop (by_offset c.earlier.result) _ c.requires.short
    (valid_is c.args.source.now) read.cut read.stopped
    (rw (← c.bad_found-bad.ensures.value, ← (c.stop_found-fault.ensures.value ∙ ap (fault_found c.args.stop) read.stop_place)) c.earlier.ensures.first)
    (rw (← (c.large_found-large.ensures.value ∙ ap large_found read.large)) c.earlier-2.ensures.first)

pub returns-clause-first : goal.returns-clause-first
returns-clause-first c = found c

pub returns-clause-place : goal.returns-clause-place
returns-clause-place c =
    let source = c.args.source.now in
    let places = c.requires.read.places in
    let fault = c.stop_found-fault.ensures.placed source places in
    let large = c.large_found-large.ensures.placed source places in
    c.earlier-2.ensures.placed source (c.earlier.ensures.placed source c.bad_found-bad.ensures.placed fault) large
