use Rattle.std.specs.Prelude.{unwrap_or, []}
use Rattle.std.proofs.Common.{◌≡◌, ◌<◌, true, length, sym, ap, ◌∙◌, arith, subst}
use Rattle.std.proofs.lemmas.Option.{slice_get-get_or}
use Rattle.sw_graph.specs.Graphs.{marked, successors}
use Rattle.sw_graph.specs.Least.{all_in}
use Rattle.sw_graph.proofs.LeastLemmas.{least_add}
use Rattle.sw_graph.proofs.MarkLemmas.{at}
use Rattle.sw_graph.proofs.least_sets.add.Goals as goal

pub returns-clause-sound : goal.returns-clause-sound
returns-clause-sound c a =
    let within : c.args.t < length c.args.graph.now = omega arith in
    let allowed : marked c.args.allowed.now c.args.t ≡ true = at c.args.allowed.now c.args.t (omega arith) ∙ c.if-not-allowed-t.false in
    let there : successors c.args.graph.now c.args.t ≡ c.as_slice.result.now = ap (λ o. unwrap_or o []) (slice_get-get_or c.args.graph.now c.args.t c.index-graph-t.result within) ∙ (sym c.index-graph-t.is ∙ sym c.as_slice.ensures) in
    let all : all_in (marked c.args.table.now) (successors c.args.graph.now c.args.t) ≡ true =
    subst (λ xs. all_in (marked c.args.table.now) xs ≡ true) (sym there) (sym c.all_marked.ensures ∙ c.if-not-all_marked.false) in
    least_add _ _ _ _ c.requires.within a allowed all
