use Rattle.sw_rules.proofs.Passes.{none_of_both, none_of_earlier, none_of_later}
use Rattle.sw_rules.proofs.laws.none_in_turn.Goals as goal

pub returns : goal.returns
returns g c = (
  λ h. (none_of_earlier g.Earlier.Pass.refuses g.Later.Pass.refuses h, none_of_later g.Earlier.Pass.refuses g.Later.Pass.refuses h),
  λ h. none_of_both g.Earlier.Pass.refuses g.Later.Pass.refuses h.0 h.1,
)
