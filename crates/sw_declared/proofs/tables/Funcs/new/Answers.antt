use Rattle.sw_declared.specs.Ranks.{func_rank}
use Rattle.sw_declared.proofs.Ranked.{none_ranked}
use Rattle.sw_declared.proofs.tables.Funcs.new.Goals as goal

pub invariant_of-result : goal.invariant_of-result
invariant_of-result c = none_ranked (λ f. f.name) (λ f. func_rank f.kind) c.new.result c.new-2.result c.new.ensures c.new-2.ensures
