use Rattle.std.proofs.Common.{◌≡◌, sym, ◌∙◌, ap}
use Rattle.sw_value.specs.Codable.{among}
use Rattle.sw_value.specs.Settled.{declared}
use Rattle.sw_value.proofs.SettledLemmas.{least}
use Rattle.sw_value.proofs.codable.is_codable.Goals as goal

pub returns : goal.returns
returns c =
    let law = least c.args.kinds.now c.levels-levels.result.now c.levels-levels.ensures c.args.t.now.base in
    let is : c.is_among.result ≡ among (declared c.args.kinds.now) c.args.t.now.base = c.is_among.ensures ∙ ap (λ ks. among (declared ks) c.args.t.now.base) c.as_slice.ensures in
    (λ h. law.0 (sym is ∙ h), λ h. is ∙ law.1 h)
