use Rattle.std.proofs.Common.{sym, ◌∙◌, subst}
use Rattle.sw_graph.specs.Levels.{AreLevels}
use Rattle.sw_holding.proofs.HoldsLemmas.{if_both}
use Rattle.sw_holding.proofs.LevelLemmas.{levels}
use Rattle.sw_holding.proofs.SettledLemmas.{settled}
use Rattle.sw_holding.proofs.holding.levels_in.Goals as goal

pub returns-clause-levels : goal.returns-clause-levels
returns-clause-levels c = if_both c.settle.result _ _ _
    (λ table n e. levels c.args.kinds.now c.args.graph.now c.as_slice.result.now c.requires.graph (c.as_slice.ensures.value ∙ c.in_ok-passed.ensures) c.as_slice-2.result.now table n
    (subst (λ walks. AreLevels c.args.graph.now c.as_slice.result.now 65 walks) (sym c.as_slice-2.ensures.value) c.in_ok-walks.ensures.levels) e)
    c.settle.ensures.length c.settle.ensures.each

pub returns-clause-settled : goal.returns-clause-settled
returns-clause-settled c = if_both c.settle.result _ _ _
    (λ table n e keep. settled c.args.kinds.now c.args.graph.now c.requires.graph table
    (levels c.args.kinds.now c.args.graph.now c.as_slice.result.now c.requires.graph (c.as_slice.ensures.value ∙ c.in_ok-passed.ensures) c.as_slice-2.result.now table n
    (subst (λ walks. AreLevels c.args.graph.now c.as_slice.result.now 65 walks) (sym c.as_slice-2.ensures.value) c.in_ok-walks.ensures.levels) e) keep)
    c.settle.ensures.length c.settle.ensures.each
