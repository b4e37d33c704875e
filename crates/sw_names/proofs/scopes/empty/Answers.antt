use Rattle.std.proofs.Common.{[], sym, subst}
use Rattle.sw_names.specs.Meeting.{AreMet}
use Rattle.sw_names.proofs.Meetings.{nothing_met}
use Rattle.sw_names.proofs.scopes.empty.Goals as goal

pub returns : goal.returns
returns c = subst (AreMet []) (sym c.new.ensures) nothing_met
