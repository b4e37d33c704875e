use Rattle.sw_thin.proofs.ThinTreeLemmas.{takes_one}
use Rattle.sw_thin.proofs.main_body.takes_system.Goals as goal

pub returns-in-len1 : goal.returns-in-len1
returns-in-len1 c = takes_one _ c.parameter-item.result _ c.in-len1.len_at_least c.in-len1.len_below c.parameter-item.is c.is_system.ensures
