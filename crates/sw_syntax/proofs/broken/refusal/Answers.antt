use Rattle.std.proofs.Common.{refl}
use Rattle.sw_lex.specs.Tokens.{token_of}
use Rattle.sw_syntax.proofs.ByPlace.{first_by_place}
use Rattle.sw_syntax.proofs.PlaceLemmas.{stands_at}
use Rattle.sw_syntax.proofs.broken.refusal.Goals as goal

pub returns-clause-names : goal.returns-clause-names
returns-clause-names c = (c.at.result.span, refl, stands_at c.args.tokens.now c.args.position (token_of c.at.result) c.at.ensures.token)

pub returns-clause-cause : goal.returns-clause-cause
returns-clause-cause c = λ s at broken.
    first_by_place s c.args.tokens.now at c.args.rule c.args.position c.at.result.span c.at.ensures.ordered broken
    (stands_at c.args.tokens.now c.args.position (token_of c.at.result) c.at.ensures.token)
