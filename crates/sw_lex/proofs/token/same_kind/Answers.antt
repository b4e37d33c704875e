use Rattle.std.proofs.Common.{rules}
use Rattle.sw_lex.specs.Tables.{same_kind}
use Rattle.sw_lex.proofs.token.same_kind.Goals as goal

pub returns : goal.returns
unfolding same_kind
returns c = search rules
