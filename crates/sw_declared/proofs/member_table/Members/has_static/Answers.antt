use Rattle.std.proofs.Common.{◌∙◌}
use Rattle.sw_declared.specs.Facts.{rank_of}
use Rattle.sw_declared.proofs.Asked.{asked_static}
use Rattle.sw_declared.proofs.member_table.Members.has_static.Goals as goal

pub returns : goal.returns
unfolding rank_of
returns c = c.tells.ensures ∙ asked_static c.args.self.now c.args.name.now
