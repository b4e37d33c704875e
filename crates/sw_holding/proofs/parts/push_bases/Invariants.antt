use Rattle.std.proofs.Common.{◌≡◌, ◌++◌, take}
use Rattle.sw_holding.specs.Edges.{bases_of}
use Rattle.sw_holding.proofs.parts.push_bases.Given as goal

abbrev pub invariant-loop-t : goal.invariant-loop-t
invariant-loop-t l = l.bases ≡ l.fn.bases ++ bases_of (take l.t-index l.types)
