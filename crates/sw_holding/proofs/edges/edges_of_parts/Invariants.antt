use Rattle.std.proofs.Common.{◌≡◌, map, take}
use Rattle.sw_holding.specs.Edges.{bases_in, held_by}
use Rattle.sw_holding.proofs.edges.edges_of_parts.Given as goal

abbrev pub invariant-loop-kind : goal.invariant-loop-kind
invariant-loop-kind l = l.graph.items ≡ map (λ kind. held_by l.kinds (bases_in kind)) (take l.kind-index l.kinds)
