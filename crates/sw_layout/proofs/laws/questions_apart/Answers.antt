use Rattle.sw_layout.proofs.Questions.{questions_apart}
use Rattle.sw_layout.proofs.laws.questions_apart.Goals as goal

pub returns : goal.returns
returns c = questions_apart
