use Rattle.std.proofs.Common.{◌≡◌, ◌∙◌, sym, ap, refl, Some, slice_get, unwrap_or, true, length, inl, inr, arith}
use Rattle.std.proofs.lemmas.Option.{slice_get_read, slice_get_cases}
use borrow.Author.Count.{below_more}
use Rattle.sw_value.specs.Settled.{settled_at, is_settled}
use Rattle.sw_value.proofs.settled.is_settled.Goals as goal

pub loop-i-preserved : goal.loop-i-preserved
loop-i-preserved c =
    let kinds = c.args.kinds.now in
    let levels = c.args.levels.now in
    let level = unwrap_or (slice_get levels c.loop-i.i) 0 in
    let here : slice_get kinds c.loop-i.i ≡ Some c.index-kinds-i.result = slice_get_read kinds (length kinds) c.loop-i.i c.index-kinds-i.result refl c.loop-i-test.true c.index-kinds-i.is in
    below_more (λ t. settled_at kinds levels (unwrap_or (slice_get levels t) 0) (slice_get kinds t) ≡ true) c.loop-i.i c.loop-i.invariant
    (ap (settled_at kinds levels level) here ∙ ap (λ n. is_settled kinds levels n c.index-kinds-i.result) (sym c.level_of.ensures) ∙ sym c.settled_at.ensures ∙ c.if-not-settled_at.false)

pub returns : goal.returns
returns c =
    let kinds = c.args.kinds.now in
    let levels = c.args.levels.now in (
      λ _ t. elim ((slice_get_cases kinds t).1) [
        | inl within ↦ c.loop-i.invariant t (omega (arith, within.1))
        | inr past ↦ ap (settled_at kinds levels (unwrap_or (slice_get levels t) 0)) past.1
      ],
      λ _. refl,
    )
