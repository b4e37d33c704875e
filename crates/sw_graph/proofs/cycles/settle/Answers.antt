use Rattle.sw_graph.proofs.TableLemmas.{below_more}
use Rattle.sw_graph.proofs.cycles.settle.Goals as goal

pub returns-clause-table : goal.returns-clause-table
returns-clause-table c = below_more c.args.graph.now c.args.chosen.now c.args.found.now.table.items c.args.t c.requires.table c.args.turned.now c.args.ranks.now c.search.new.seen.table.items c.search.new.seen.queue.items c.mark_circle.new.found.table.items
    c.requires.within c.requires.ranks c.requires.turned c.in_ok-search.ensures c.in_ok-mark_circle.ensures.marks c.in_ok-mark_circle.ensures.here
