use Rattle.std.proofs.Common.{ap, ◌∙◌}
use Rattle.sw_lex.specs.Tokens.{token_of}
use Rattle.sw_syntax.proofs.SightLemmas as sights
use Rattle.sw_syntax.specs.Tokens.{same_kind}
use Rattle.sw_syntax.proofs.view.is_next.Goals as goal

pub returns-in-Some : goal.returns-in-Some
returns-in-Some c = c.same_kind.ensures ∙ ap (λ t. same_kind t.kind c.args.kind) (sights.read_at c.args.tokens.now c.args.at (token_of c.in-Some.token) c.in-Some.ensures.value).1 ∙ sights.next_kind c.args.kind c.args.broken c.args.at c.args.tokens.now (token_of c.in-Some.token) (sights.read_at c.args.tokens.now c.args.at (token_of c.in-Some.token) c.in-Some.ensures.value).0

pub returns-in-None : goal.returns-in-None
returns-in-None c = sights.next_none c.args.kind c.args.broken c.args.at c.args.tokens.now (sights.read_none c.args.tokens.now c.args.at c.in-None.ensures.value)
