use Rattle.std.proofs.Common.{◌≡◌, drop}
use Rattle.sw_graph.specs.Graphs.{marked}
use Rattle.sw_graph.specs.Least.{all_in}
use Rattle.sw_graph.proofs.marks.all_marked.Given as goal

abbrev pub invariant-loop-a : goal.invariant-loop-a
invariant-loop-a l = all_in (marked l.table) (drop l.a-index l.numbers) ≡ all_in (marked l.table) l.numbers
