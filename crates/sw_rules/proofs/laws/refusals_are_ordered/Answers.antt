use Rattle.sw_rules.proofs.Precedence.{asymmetric, compared, transitive}
use Rattle.sw_rules.proofs.laws.refusals_are_ordered.Goals as goal

pub returns-clause-total : goal.returns-clause-total
returns-clause-total c = compared

pub returns-clause-one_way : goal.returns-clause-one_way
returns-clause-one_way c = asymmetric

pub returns-clause-onward : goal.returns-clause-onward
returns-clause-onward c = transitive
