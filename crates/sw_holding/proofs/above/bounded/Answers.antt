use Rattle.std.proofs.Common.{◌≡◌, ◌<◌, ℕ, true, ◌∙◌, ap, length, arith}
use Rattle.std.proofs.lemmas.Result.{IfOk-weaker}
use Rattle.sw_graph.specs.Graphs.{marked}
use Rattle.sw_holding.proofs.Lists.{marked_within}
use Rattle.sw_holding.proofs.AboveLemmas.{are_bounded}
use Rattle.sw_holding.proofs.above.bounded.Goals as goal

pub returns : goal.returns
returns c =
    let is = c.as_slice.ensures.value in
    let inside : (a : ℕ) → marked c.as_slice.result.now a ≡ true → a < length c.args.graph.now = λ a m. let w = marked_within c.as_slice.result.now a m in omega (arith, w, ap length is, c.in_ok-allowed.ensures.length) in
    IfOk-weaker c.least.result _ _
    (λ table l. are_bounded c.args.kinds.now c.args.graph.now c.requires.graph c.as_slice.result.now table.items
    (λ a k. ap (λ xs. marked xs a) is ∙ c.in_ok-allowed.ensures.each a k) inside l)
    c.least.ensures.least
