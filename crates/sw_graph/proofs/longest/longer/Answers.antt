use Rattle.std.proofs.Common.{◌∙◌, length, arith}
use Rattle.sw_graph.specs.Graphs.{marked, successors}
use Rattle.sw_graph.specs.Levels.{any_in}
use Rattle.sw_graph.proofs.LevelLemmas.{any_in_same, any_in_past}
use Rattle.sw_graph.proofs.MarkLemmas.{table_whole}
use Rattle.sw_graph.proofs.longest.longer.Goals as goal

pub returns-clause-each : goal.returns-clause-each
returns-clause-each c t =
    table_whole (λ u. any_in (marked c.in_ok-through.through.items) (successors c.args.graph.now u)) c.loop-t.next.items (length c.args.graph.now) (omega arith) (λ k h. any_in_past c.args.graph.now _ k (omega arith)) (λ k h. c.loop-t.invariant.each k (omega arith)) t
    ∙ any_in_same _ _ (successors c.args.graph.now t) c.in_ok-through.ensures
