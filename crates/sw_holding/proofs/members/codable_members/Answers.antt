use Rattle.std.proofs.Common.{◌∙◌, ap, subst, length, map}
use Rattle.std.specs.List.{flat_map}
use Rattle.std.proofs.lemmas.List.{length-map}
use Rattle.sw_graph.specs.Least.{IsLeast}
use Rattle.sw_holding.specs.Edges.{bases_in, value_number, could_cross}
use Rattle.sw_holding.proofs.HoldsLemmas.{if_both}
use Rattle.sw_holding.proofs.MemberLemmas.{members}
use Rattle.sw_holding.proofs.members.codable_members.Goals as goal

pub returns : goal.returns
returns c =
    let graph = c.as_slice-2.ensures.value ∙ c.in_ok-graph.ensures in
    let allowed = c.as_slice-3.ensures.value ∙ c.in_ok-allowed.ensures in
    if_both c.least.result _ _ _
    (λ table n l. members c.args.kinds.now table.items (n ∙ (ap length graph ∙ length-map c.args.kinds.now (λ kind. flat_map value_number (bases_in kind))))
    (subst (λ g. IsLeast g (map could_cross c.args.kinds.now) table.items) graph (subst (λ a. IsLeast c.as_slice-2.result.now a table.items) allowed l)))
    c.least.ensures.length c.least.ensures.least
