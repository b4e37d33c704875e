use Rattle.std.proofs.Common.{drop, sym, ◌∙◌}
use Rattle.sw_syntax.proofs.SightLemmas as sights
use Rattle.sw_syntax.proofs.view.TokenView.is.Goals as goal

pub returns-in-Some-clause-value : goal.returns-in-Some-clause-value
returns-in-Some-clause-value c = c.passes.ensures ∙ sights.tested c.args.test (drop c.args.at c.args.self.now) c.in-Some.sight (sym c.in-Some.is ∙ c.sight.ensures.value)
