use Rattle.std.proofs.Common.{◌≡◌, ◌∙◌, None, ap, sym, subst}
use Rattle.sw_findings.specs.Found.{Finds, Has, keep_all}
use Rattle.sw_typed.specs.SyntaxOf.{expr_of}
use Rattle.sw_check_expr.specs.Typing.{checked}
use Rattle.sw_check_expr.proofs.walk.judged.Goals as goal

pub returns-in-None-clause-unbroken : goal.returns-in-None-clause-unbroken
returns-in-None-clause-unbroken c =
    let faults = (checked c.args.scope.now (expr_of c.args.e.now) c.args.need.now).faults in
    let q : keep_all None faults ≡ None =
    ap (λ k. keep_all k faults) (sym c.new-found.ensures) ∙ sym c.in_ok-made.ensures.found ∙ sym c.first.ensures ∙ c.in-None.is in
    subst (Finds (Has faults)) q (c.finds_first.ensures.finds faults)
