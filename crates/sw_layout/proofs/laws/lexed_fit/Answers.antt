use Rattle.sw_layout.proofs.Lexed.{lexed_fit}
use Rattle.sw_layout.proofs.laws.lexed_fit.Goals as goal

pub returns : goal.returns
returns c = lexed_fit
