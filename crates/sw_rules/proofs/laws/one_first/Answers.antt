use Rattle.sw_rules.proofs.Passes as passes
use Rattle.sw_rules.proofs.laws.one_first.Goals as goal

pub returns : goal.returns
returns g c = λ a b p q. passes.one_first g.P.Pass.refuses a b p q
