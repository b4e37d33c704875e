use Rattle.std.proofs.Common.{◌≡◌, ◌+◌, ◌-◌, ap, drop, subst, arith}
use Rattle.sw_lex.specs.Characters.{IsBoundary}
use Rattle.sw_lex.specs.Lexemes.{size_of}
use Rattle.sw_lex.proofs.LongLemmas.{known_more, next_boundary}
use Rattle.sw_lex.proofs.long.Prefix.advance.Goals as goal

pub are_characters-self-requires-clause-boundary : goal.are_characters-self-requires-clause-boundary
are_characters-self-requires-clause-boundary c =
    let source = c.args.source.now in
    let prefix = c.args.self.now in
    let size : size_of c.args.item ≡ prefix.at + c.size_of.result - prefix.at = omega (arith, c.size_of.ensures.value) in
    subst (λ n. IsBoundary (drop prefix.at source) n) size (next_boundary source prefix c.args.item c.requires.next c.requires.some)

pub returns-clause-known : goal.returns-clause-known
returns-clause-known c =
    let prefix = c.args.self.now in
    known_more c.args.source.now prefix c.args.item _ _ _
    c.requires.known c.requires.start c.requires.next c.requires.some c.requires.within
    (ap (λ n. prefix.at + n) c.size_of.ensures.value) c.in_ok-track.ensures c.are_characters-self.ensures
