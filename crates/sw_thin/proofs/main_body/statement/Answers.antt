use Rattle.sw_thin.proofs.ThinTreeLemmas.{none_of, no_print}
use Rattle.sw_thin.proofs.main_body.statement.Goals as goal

pub returns-in_default-printed : goal.returns-in_default-printed
returns-in_default-printed c = λ stmt of _. no_print _ _ c.in-Expr.is (none_of _ _ c.printed.ensures c.in_default-printed.is) stmt of
