use Rattle.std.proofs.Common.{◌==◌, ap}
use Rattle.sw_lex.proofs.LongLemmas.{bad_start, no_valid_start}
use Rattle.sw_lex.proofs.PieceLemmas.{equal}
use Rattle.sw_lex.proofs.long.starts_badly.Goals as goal

pub returns-clause-bad : goal.returns-clause-bad
returns-clause-bad c = λ none. bad_start c.args.source.now c.valid_len.result c.requires c.valid_len.ensures (equal c.valid_len.result 0 none)

pub returns-clause-valid : goal.returns-clause-valid
returns-clause-valid c = λ bad. ap (λ n. n == 0) (no_valid_start c.args.source.now c.valid_len.result c.valid_len.ensures bad)
