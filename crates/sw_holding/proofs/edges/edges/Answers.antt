use Rattle.std.proofs.Common.{◌∙◌, ap, length}
use Rattle.std.proofs.lemmas.List.{length-map}
use Rattle.sw_holding.specs.Edges.{held_by, bases_in}
use Rattle.sw_holding.proofs.EdgeLemmas.{holding}
use Rattle.sw_holding.proofs.edges.edges.Goals as goal

pub returns : goal.returns
returns c = holding c.args.kinds.now c.in_ok-graph.graph.items c.add_conforming.new.graph.items c.in_ok-graph.ensures
    (ap length c.in_ok-graph.ensures ∙ length-map c.args.kinds.now (λ kind. held_by c.args.kinds.now (bases_in kind)))
    c.in_ok-add_conforming.ensures
