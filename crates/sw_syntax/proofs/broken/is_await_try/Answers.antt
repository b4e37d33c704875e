use Rattle.std.proofs.Common.{sym, ◌∙◌}
use Rattle.sw_syntax.proofs.PlaceLemmas.{both_there, no_await, no_try}
use Rattle.sw_syntax.proofs.broken.is_await_try.Goals as goal

pub returns-then-not-is-clause-otherwise : goal.returns-then-not-is-clause-otherwise
returns-then-not-is-clause-otherwise c = λ _. no_await c.args.view.now c.args.at c.args.position (sym c.is.ensures.value ∙ c.if-not-is.true)

pub returns-clause-told : goal.returns-clause-told
returns-clause-told c = λ is. both_there c.args.view.now c.args.at c.args.position c.if-position-at.false (sym c.is.ensures.value ∙ c.if-not-is.false) (sym c.is-2.ensures.value ∙ is)

pub returns-clause-otherwise : goal.returns-clause-otherwise
returns-clause-otherwise c = λ is. no_try c.args.view.now c.args.at c.args.position (sym c.is-2.ensures.value ∙ is)
