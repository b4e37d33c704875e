use Rattle.sw_lex.specs.Tables.{marks}
use Rattle.sw_lex.proofs.tables.mark.Goals as goal

pub returns-clause-value : goal.returns-clause-value
unfolding marks
returns-clause-value c = c.first_mark.ensures.value
