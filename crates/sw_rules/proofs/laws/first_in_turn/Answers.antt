use Rattle.sw_rules.proofs.Passes.{first_is, first_of}
use Rattle.sw_rules.proofs.laws.first_in_turn.Goals as goal

pub returns : goal.returns
returns g c = λ r. (first_is g.Earlier.Pass.refuses g.Later.Pass.refuses r, first_of g.Earlier.Pass.refuses g.Later.Pass.refuses r)
