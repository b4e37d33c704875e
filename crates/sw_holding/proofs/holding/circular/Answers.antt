use Rattle.std.proofs.Common.{◌∙◌}
use Rattle.std.proofs.lemmas.Result.{IfOk-weaker}
use Rattle.sw_holding.proofs.HoldsLemmas.{are_circular}
use Rattle.sw_holding.proofs.holding.circular.Goals as goal

pub returns : goal.returns
returns c = IfOk-weaker c.on_cycles.result _ _ (λ table a. are_circular c.args.kinds.now c.args.graph.now c.requires.graph c.as_slice.result.now (c.as_slice.ensures.value ∙ c.in_ok-chosen.ensures) table.items a) c.on_cycles.ensures
