use Rattle.std.proofs.Common.{drop, sym, ◌∙◌}
use Rattle.sw_syntax.proofs.OpeningLemmas as openings
use Rattle.sw_syntax.proofs.decl_tests.stands.Goals as goal

pub returns-in-Some-clause-value : goal.returns-in-Some-clause-value
returns-in-Some-clause-value c = c.passes.ensures ∙ openings.tested c.args.test (drop c.args.at c.args.view.now) c.in-Some.sight (sym c.in-Some.is ∙ c.sight.ensures.value)

pub returns-in-None-clause-value : goal.returns-in-None-clause-value
returns-in-None-clause-value c = openings.untested c.args.test (drop c.args.at c.args.view.now) (sym c.in-None.is ∙ c.sight.ensures.value)
