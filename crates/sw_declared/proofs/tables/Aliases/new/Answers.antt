use Rattle.sw_declared.specs.Ranks.{alias_rank, id_rank}
use Rattle.sw_declared.proofs.Ranked.{none_ranked}
use Rattle.sw_declared.proofs.tables.Aliases.new.Goals as goal

pub invariant_of-result : goal.invariant_of-result
invariant_of-result c = record {
  named = none_ranked (λ a. a.name) (λ a. alias_rank a.inner) c.new.result c.new-2.result c.new.ensures c.new-2.ensures;
  ids = none_ranked (λ a. a.name) (λ a. id_rank a.inner) c.new.result c.new-3.result c.new.ensures c.new-3.ensures;
}
