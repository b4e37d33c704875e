use Rattle.std.proofs.Common.{ℕ, sym, ap, ◌∙◌, ◌+◌, length}
use Rattle.sw_thin.proofs.LoweringLemmas.{depth_found}
use Rattle.sw_thin.proofs.lowering.Vars.depth_of.Goals as goal

pub returns-in-Some : goal.returns-in-Some
returns-in-Some c =
    let parts = c.args.parts.now in
    c.in-Some.ensures.1 ∙ ap (λ (n : ℕ). n + c.newer_than.result) c.len.ensures ∙ ap (λ (n : ℕ). length parts + n) c.newer_than.ensures
    ∙ sym (depth_found c.args.name.now c.args.parts.now c.args.self.now)
