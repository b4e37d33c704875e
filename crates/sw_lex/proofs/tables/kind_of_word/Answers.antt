use Rattle.sw_lex.specs.Tables.{words}
use Rattle.sw_lex.proofs.tables.kind_of_word.Goals as goal

pub returns : goal.returns
unfolding words
returns c = c.kind_in.ensures
