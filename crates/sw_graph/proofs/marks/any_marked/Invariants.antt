use Rattle.std.proofs.Common.{◌≡◌, drop}
use Rattle.sw_graph.specs.Graphs.{marked}
use Rattle.sw_graph.specs.Levels.{any_in}
use Rattle.sw_graph.proofs.marks.any_marked.Given as goal

abbrev pub invariant-loop-a : goal.invariant-loop-a
invariant-loop-a l = any_in (marked l.table) (drop l.a-index l.numbers) ≡ any_in (marked l.table) l.numbers
