use Rattle.sw_monotone.proofs.Order.{facts_onward, facts_themselves}
use Rattle.sw_monotone.proofs.laws.facts_are_ordered.Goals as goal

pub returns-clause-itself : goal.returns-clause-itself
returns-clause-itself c = facts_themselves

pub returns-clause-onward : goal.returns-clause-onward
returns-clause-onward c = facts_onward
