use Rattle.std.proofs.Common.{◌<◌}
use Rattle.sw_holding.specs.Edges.{Adds, IsOfProtocol}
use Rattle.sw_holding.proofs.edges.add_conforming.Given as goal

abbrev pub invariant-loop-u : goal.invariant-loop-u
invariant-loop-u l = Adds l.fn.graph.items l.graph.items (λ p t. (t < l.u) × IsOfProtocol l.kinds p t)
