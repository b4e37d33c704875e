use Rattle.std.proofs.Common.{◌≡◌, length, sym, ◌∙◌, ap, arith, Some, unwrap_or}
use Rattle.std.specs.List.{slice_get}
use Rattle.std.proofs.lemmas.Option.{slice_get-get_or, slice_get_past}
use Rattle.std.proofs.lemmas.List.{length-append}
use Rattle.sw_value.specs.declared.kinds.Kind.{Kind}
use Rattle.sw_holding.specs.Edges.{settled, settled_form}
use Rattle.sw_holding.proofs.Lists.{table_push, table_whole}
use Rattle.sw_holding.proofs.holding.settle.Goals as goal

pub returns-clause-each : goal.returns-clause-each
returns-clause-each c =
    table_whole 0 (λ k. settled (slice_get c.args.kinds.now k) (unwrap_or (slice_get c.args.walks.now k) 0)) c.loop-t.levels c.loop-t.t c.loop-t.invariant.count
    (λ k h. ap (λ o. settled o (unwrap_or (slice_get c.args.walks.now k) 0)) (slice_get_past c.args.kinds.now k (omega arith)))
    c.loop-t.invariant.below

pub loop-t-preserved : goal.loop-t-preserved
loop-t-preserved c =
    let more = c.in_ok-push.ensures.ok in
    let at : slice_get c.args.kinds.now c.loop-t.t ≡ Some c.index-kinds-t.result = slice_get-get_or c.args.kinds.now c.loop-t.t c.index-kinds-t.result c.loop-t-test.true ∙ ap Some (sym c.index-kinds-t.is) in
    let is : c.settled.result ≡ settled (slice_get c.args.kinds.now c.loop-t.t) (unwrap_or (slice_get c.args.walks.now c.loop-t.t) 0) =
    c.settled.ensures ∙ (ap (λ (kind : Kind). settled_form kind.form c.level_of.result) (sym c.index-kinds-t.is) ∙ (ap (settled_form c.index-kinds-t.result.form) c.level_of.ensures ∙ sym (ap (λ o. settled o (unwrap_or (slice_get c.args.walks.now c.loop-t.t) 0)) at))) in
    record {
      count = omega (arith, simp length-append at (ap length more), c.loop-t.invariant.count);
      below = table_push 0 (λ k. settled (slice_get c.args.kinds.now k) (unwrap_or (slice_get c.args.walks.now k) 0)) c.loop-t.levels c.push.new.self c.settled.result c.loop-t.t more c.loop-t.invariant.count is c.loop-t.invariant.below;
    }
