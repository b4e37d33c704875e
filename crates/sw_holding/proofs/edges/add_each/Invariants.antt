use Rattle.std.proofs.Common.{take}
use Rattle.sw_holding.specs.Edges.{Adds, IsFromListed}
use Rattle.sw_holding.proofs.edges.add_each.Given as goal

abbrev pub invariant-loop-p : goal.invariant-loop-p
invariant-loop-p l = Adds l.fn.graph.items l.graph.items (IsFromListed l.kinds (take l.p-index l.protocols) l.u)
