use Rattle.sw_findings.proofs.Least.{keep_all-append, finds}
use Rattle.sw_findings.proofs.laws.finds_first.Goals as goal

pub returns-clause-finds : goal.returns-clause-finds
returns-clause-finds c = finds c.refusals_are_ordered.ensures.total c.refusals_are_ordered.ensures.onward

pub returns-clause-appends : goal.returns-clause-appends
returns-clause-appends c = keep_all-append
