use Rattle.std.proofs.Common.{◌≡◌, ◌+◌, ◌-◌, ◌∙◌, ap, drop, length, length-drop, subst, sym, arith}
use Rattle.std.proofs.lemmas.List.{length-take, take_rest}
use Rattle.sw_lex.specs.declared.places.Spot.{Spot}
use Rattle.sw_lex.specs.Characters.{IsFirstBad, IsBoundary}
use Rattle.sw_lex.specs.Lexemes.{size_of}
use Rattle.sw_lex.specs.Scanning.{first_large, outermost}
use Rattle.sw_lex.proofs.ScanLemmas.{known_more, next_boundary, spot_near}
use Rattle.sw_lex.proofs.scan.Scan.advance.Goals as goal

pub write-requires-clause-lines : goal.write-requires-clause-lines
write-requires-clause-lines c =
    let source = c.args.source.now in
    let at = c.args.self.now.at in
    let near = spot_near source at c.args.self.now.emitted.here.place c.requires.known.places.here in
    omega (arith, near.0, c.requires.short, c.requires.known.inside, length-take (length source - at) (drop at source), length-drop at source)

pub write-requires-clause-columns : goal.write-requires-clause-columns
write-requires-clause-columns c =
    let source = c.args.source.now in
    let at = c.args.self.now.at in
    let near = spot_near source at c.args.self.now.emitted.here.place c.requires.known.places.here in
    omega (arith, near.1, c.requires.short, c.requires.known.inside, length-take (length source - at) (drop at source), length-drop at source)

pub first_bad-self-requires-clause-boundary : goal.first_bad-self-requires-clause-boundary
first_bad-self-requires-clause-boundary c =
    let source = c.args.source.now in
    let at : c.args.self.now.at ≡ c.here-here.result.at = sym (ap (λ (spot : Spot). spot.at) c.here-here.ensures) in
    let size : size_of c.args.item ≡ c.size_of-size.result = sym c.size_of-size.ensures.value in
    subst (λ n. IsBoundary (drop n source) c.size_of-size.result) at
    (subst (λ n. IsBoundary (drop c.args.self.now.at source) n) size (next_boundary source c.args.self.now c.args.item c.requires.next c.requires.some))

pub returns-clause-known : goal.returns-clause-known
returns-clause-known c =
    let source = c.args.source.now in
    let scan = c.args.self.now in
    let ends : c.here-here.result.at + c.size_of-size.result ≡ scan.at + size_of c.args.item =
    ap (λ (spot : Spot). spot.at + c.size_of-size.result) c.here-here.ensures ∙ ap (λ n. scan.at + n) c.size_of-size.ensures.value in
    known_more source scan c.args.item _ _ _ _ _ _
    c.requires.known c.requires.next c.requires.some c.requires.within
    (ap (λ n. scan.at + n) c.size_of-size.ensures.value)
    c.in_ok-track.ensures
    (c.outermost-self.ensures ∙ ap (outermost scan.opens scan.outer) c.here-here.ensures)
    (rw take_rest at c.first_large-self.ensures ∙ ap (first_large scan.large (drop scan.at source) c.args.item) c.here-here.ensures)
    (subst (λ n. IsFirstBad source n c.first_bad-self.result) ends c.first_bad-self.ensures.prefix)
    c.first_bad-self.ensures.placed
    (rw take_rest at c.in_ok-write.ensures)
