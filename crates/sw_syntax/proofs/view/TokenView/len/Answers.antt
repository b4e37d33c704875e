use Rattle.std.proofs.Common.{length, sym, ap, ◌∙◌}
use Rattle.sw_syntax.proofs.SightLemmas as sights
use Rattle.sw_syntax.proofs.view.TokenView.len.Goals as goal

pub returns : goal.returns
returns c = c.len.ensures.value ∙ sym (sights.source_length c.self.inside.broken c.self.inside.tokens.now) ∙ ap (λ r. length r) (c.self.view_is)
