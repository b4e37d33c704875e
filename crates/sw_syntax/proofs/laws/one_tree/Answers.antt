use Rattle.sw_syntax.proofs.Law as law
use Rattle.sw_syntax.proofs.laws.one_tree.Goals as goal

pub returns : goal.returns
returns c = law.one_tree
