use Rattle.std.proofs.Common.{◌∙◌}
use Rattle.sw_declared.specs.Facts.{rank_of}
use Rattle.sw_declared.proofs.Asked.{asked_named}
use Rattle.sw_declared.proofs.member_table.Members.has.Goals as goal

pub returns : goal.returns
unfolding rank_of
returns c = c.tells.ensures ∙ asked_named c.args.self.now c.args.name.now
