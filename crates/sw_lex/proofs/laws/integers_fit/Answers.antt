use Rattle.sw_lex.proofs.FitLemmas.{integers_fit}
use Rattle.sw_lex.proofs.laws.integers_fit.Goals as goal

pub returns : goal.returns
returns c = integers_fit
