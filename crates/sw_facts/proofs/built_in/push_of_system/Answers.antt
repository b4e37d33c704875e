use Rattle.sw_facts.proofs.Lists.{three}
use Rattle.sw_facts.proofs.built_in.push_of_system.Goals as goal

pub returns : goal.returns
returns c = three _ _ _ _ _ _ _ c.in_ok-push_value.ensures c.in_ok-push_func_of.ensures c.in_ok-push_func_of-2.ensures
