use Rattle.std.proofs.Common.{sym, ◌∙◌}
use Rattle.sw_holding.proofs.MemberLemmas.{member}
use Rattle.sw_holding.proofs.members.is_member.Goals as goal

pub returns-clause-codable : goal.returns-clause-codable
returns-clause-codable c = λ kinds m.
    let two = member kinds c.args.table.now m c.args.t.now.base in
    (λ h. two.0 (sym c.is_among.ensures ∙ h), λ h. c.is_among.ensures ∙ two.1 h)
