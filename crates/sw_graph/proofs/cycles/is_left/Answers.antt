use Rattle.std.proofs.Common.{sym, ◌∙◌, subst}
use Rattle.sw_graph.specs.Graphs.{successors}
use Rattle.sw_graph.specs.Search.{Has}
use Rattle.sw_graph.proofs.MarkLemmas.{has_from}
use Rattle.sw_graph.proofs.CycleLemmas.{no_rank}
use Rattle.sw_graph.proofs.cycles.is_left.Goals as goal

pub returns-clause-settled : goal.returns-clause-settled
returns-clause-settled c = λ n h o. absurd (no_rank c.args.graph.now c.args.ranks.now c.args.t c.requires.ranks (λ u k e. c.has_rank.ensures n u (subst (λ xs. Has xs u) (sym c.successors.ensures) (has_from (successors c.args.graph.now c.args.t) u k)) (e ∙ sym c.entry.ensures)) o)
