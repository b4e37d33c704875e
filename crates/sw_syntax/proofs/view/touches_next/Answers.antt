use Rattle.std.proofs.Common.{sym, ap, ◌∙◌}
use Rattle.sw_syntax.specs.Broken.{broken_if}
use Rattle.sw_lex.specs.Tokens.{token_of}
use Rattle.sw_syntax.proofs.SightLemmas as sights
use Rattle.std.proofs.Common.{nat_eq}
use Rattle.sw_syntax.proofs.view.touches_next.Goals as goal

pub returns-in-Some : goal.returns-in-Some
returns-in-Some c = c.touches.ensures ∙ ap (λ t. (broken_if (nat_eq c.args.at c.args.broken) t).touches) (sights.read_at c.args.tokens.now c.args.at (token_of c.in-Some.token) c.in-Some.ensures.value).1 ∙ sym (sights.next_touches c.args.broken c.args.at c.args.tokens.now (token_of c.in-Some.token) (sights.read_at c.args.tokens.now c.args.at (token_of c.in-Some.token) c.in-Some.ensures.value).0)

pub returns-in-None : goal.returns-in-None
returns-in-None c = sights.touches_none c.args.broken c.args.at c.args.tokens.now (sights.read_none c.args.tokens.now c.args.at c.in-None.ensures.value)
