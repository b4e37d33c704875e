use Rattle.sw_syntax.proofs.Law as law
use Rattle.sw_syntax.proofs.laws.readings_answer.Goals as goal

pub returns : goal.returns
returns c = law.exact
