use Rattle.std.proofs.Common.{ap, arith}
use Rattle.sw_lex.specs.declared.places.Spot.{Spot}
use Rattle.sw_lex.proofs.RuleLemmas.{bad_none, bad_some}
use Rattle.sw_lex.proofs.broken.bad_found.Goals as goal

pub returns-in-None-clause-value : goal.returns-in-None-clause-value
returns-in-None-clause-value c =
    let source = c.args.source.now in
    let at = ap (λ (spot : Spot). spot.at) c.here.ensures in
    bad_none source _ c.in-None.ensures.prefix (omega (arith, at, c.requires.inside))

pub returns-in-Some-clause-value : goal.returns-in-Some-clause-value
returns-in-Some-clause-value c = bad_some c.args.source.now c.in-Some.spot.at c.in-Some.ensures.prefix.0
