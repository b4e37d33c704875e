use Rattle.sw_lex.proofs.KeptLemmas.{text_at, got_at}
use Rattle.sw_lex.proofs.kept.KeptTokens.at.Goals as goal

pub at-requires : goal.at-requires
at-requires c = text_at c.self.inside.texts c.self.inside.entries.items c.as_slice.result.now c.args.self.now c.args.at c.as_slice.ensures.value c.self.invariant c.self.view_is c.requires

pub returns-clause-token : goal.returns-clause-token
returns-clause-token c = got_at c.self.inside.texts c.self.inside.entries.items c.as_slice.result.now c.args.self.now c.args.at c.at.result.now c.as_slice.ensures.value c.self.view_is c.requires c.at.ensures
