use Rattle.std.proofs.Common.{◌≡◌, ℕ, true, length, drop}
use Rattle.sw_graph.specs.Graphs.{marked}
use Rattle.sw_graph.specs.Search.{Has}
use Rattle.sw_graph.proofs.cycles.unmark_all.Given as goal

abbrev pub invariant-loop-u : goal.invariant-loop-u
invariant-loop-u l = record {
  size : length l.table.items ≡ length l.fn.table.items;
  left : (u : ℕ) → marked l.table.items u ≡ true → Has (drop l.u-index l.numbers) u;
}
