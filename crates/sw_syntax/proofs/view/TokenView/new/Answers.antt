use Rattle.std.proofs.Common.{ap, ◌∙◌}
use Rattle.sw_syntax.specs.Broken.{broken_at}
use Rattle.sw_syntax.specs.Tokens.{sighted}
use Rattle.sw_syntax.proofs.SightLemmas as sights
use Rattle.sw_syntax.proofs.view.TokenView.new.Goals as goal

pub returns-clause-value : goal.returns-clause-value
returns-clause-value c = ap (λ n. sighted (broken_at n c.args.tokens.now)) c.len.ensures.value ∙ ap (λ r. sighted r) (sights.unbroken c.args.tokens.now)
