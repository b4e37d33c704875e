use Rattle.std.proofs.Common.{sym, ◌∙◌}
use Rattle.sw_graph.proofs.LeastLemmas.{tells}
use Rattle.sw_graph.proofs.least_sets.saturate.Goals as goal

pub returns-clause-least : goal.returns-clause-least
returns-clause-least c = tells _ _ _ (c.requires.allowed ∙ sym (c.sweep.ensures.length ∙ c.loop.invariant.counts)) (c.sweep.ensures.sound c.loop.invariant.sound) (c.sweep.ensures.closed c.loop-test.false)
