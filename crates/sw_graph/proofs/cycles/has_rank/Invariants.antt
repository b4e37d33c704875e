use Rattle.std.proofs.Common.{◌≡◌, ℕ, drop}
use Rattle.sw_graph.specs.Graphs.{entry}
use Rattle.sw_graph.specs.Search.{Has}
use Rattle.sw_graph.proofs.cycles.has_rank.Given as goal

abbrev pub invariant-loop-u : goal.invariant-loop-u
invariant-loop-u l = (u : ℕ) → Has l.numbers u → entry l.ranks u ≡ l.rank → Has (drop l.u-index l.numbers) u
