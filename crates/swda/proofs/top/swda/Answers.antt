use Rattle.swda.proofs.TopLemmas.{answered}
use Rattle.swda.proofs.top.swda.Goals as goal

pub returns : goal.returns
returns g c = answered _ _ c.serve.result c.serve.ensures.answers c.serve.ensures.loads c.serve.ensures.writes
