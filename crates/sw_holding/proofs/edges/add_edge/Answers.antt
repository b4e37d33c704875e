use Rattle.std.proofs.Common.{◌++◌, [], ◌∷◌, sym, ◌∙◌, ap, unwrap_or}
use Rattle.std.proofs.lemmas.Option.{slice_get-get_or}
use Rattle.std.proofs.lemmas.Result.{on_ok_weaker}
use Rattle.sw_holding.proofs.EdgeLemmas.{added}
use Rattle.sw_holding.proofs.edges.add_edge.Goals as goal

pub returns : goal.returns
returns c = on_ok_weaker c.push.result
    (λ e. added c.args.graph.now.items c.args.from c.args.to c.push.new.self c.requires
    (e ∙ ap (λ xs. xs ++ c.args.to ∷ []) (c.index_mut.ensures.value ∙ sym (ap (λ o. unwrap_or o []) (slice_get-get_or c.args.graph.now.items c.args.from c.index_mut.result.now c.requires)))))
    c.push.ensures.ok
