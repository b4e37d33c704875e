use Rattle.sw_declared.specs.Ranks.{actor_rank}
use Rattle.sw_declared.proofs.Ranked.{none_ranked}
use Rattle.sw_declared.proofs.Asked.{none_numbered}
use Rattle.sw_declared.proofs.tables.Types.new.Goals as goal

pub invariant_of-result : goal.invariant_of-result
invariant_of-result c = record {
  numbers = none_numbered c.new.result c.new-2.result c.new.ensures c.new-2.ensures;
  actors = none_ranked (λ t. t.name) (λ t. actor_rank t.form) c.new.result c.new-3.result c.new.ensures c.new-3.ensures;
}
