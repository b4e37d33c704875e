use Rattle.std.proofs.Common.{sym, subst, arith}
use Rattle.sw_graph.specs.Search.{Has}
use Rattle.sw_graph.proofs.MarkLemmas.{has_at}
use Rattle.sw_graph.proofs.TableLemmas.{marks_more}
use Rattle.sw_graph.proofs.cycles.mark_seen.Goals as goal

pub loop-u-preserved : goal.loop-u-preserved
loop-u-preserved c = marks_more _ _ c.args.table.now.items c.loop-u.table.items c.mark_one.new.table.items
    (λ u p. (subst (Has c.args.numbers.now) (sym p.0) (has_at c.args.numbers.now c.loop-u.u-index (omega arith)), p.1, p.2))
    c.loop-u.invariant c.mark_one.ensures
