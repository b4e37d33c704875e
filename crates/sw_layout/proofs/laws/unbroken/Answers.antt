use Rattle.sw_layout.proofs.PageRules.{page_unbroken}
use Rattle.sw_layout.proofs.laws.unbroken.Goals as goal

pub returns : goal.returns
returns c = λ words s fit short refusal h. page_unbroken words s fit short refusal.rule h.0 h.1
