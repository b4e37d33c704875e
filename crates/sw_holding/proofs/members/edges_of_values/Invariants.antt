use Rattle.std.proofs.Common.{◌≡◌, map, take}
use Rattle.std.specs.List.{flat_map}
use Rattle.sw_holding.specs.Edges.{bases_in, value_number}
use Rattle.sw_holding.proofs.members.edges_of_values.Given as goal

abbrev pub invariant-loop-kind : goal.invariant-loop-kind
invariant-loop-kind l = l.graph.items ≡ map (λ kind. flat_map value_number (bases_in kind)) (take l.kind-index l.kinds)
