use Rattle.std.proofs.Common.{◌≡◌, map, take}
use Rattle.sw_holding.specs.Edges.{could_cross}
use Rattle.sw_holding.proofs.members.all_that_could.Given as goal

abbrev pub invariant-loop-kind : goal.invariant-loop-kind
invariant-loop-kind l = l.table.items ≡ map could_cross (take l.kind-index l.kinds)
