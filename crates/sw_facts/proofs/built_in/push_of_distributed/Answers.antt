use Rattle.sw_facts.proofs.Lists.{three}
use Rattle.sw_facts.proofs.built_in.push_of_distributed.Goals as goal

pub returns : goal.returns
returns c = three _ _ _ _ _ _ _ c.in_ok-push_value.ensures c.in_ok-push_value-2.ensures c.in_ok-push_resolve.ensures
