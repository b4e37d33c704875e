use Rattle.std.proofs.Common.{◌∙◌}
use Rattle.sw_declared.specs.Facts.{rank_of}
use Rattle.sw_declared.proofs.Asked.{asked_type}
use Rattle.sw_declared.proofs.member_table.Members.has_type.Goals as goal

pub returns : goal.returns
unfolding rank_of
returns c = c.tells.ensures ∙ asked_type c.args.self.now c.args.name.now
