use Rattle.std.proofs.Common.{subst, ◌≤◌, ◌-◌}
use Rattle.sw_tree.specs.declared.expr.Expr.{Expr as Tree}
use Rattle.sw_thin.specs.Program.{Expr}
use Rattle.sw_thin.specs.Thin.{IsSum, terms, IsExprOf}
use Rattle.sw_thin.proofs.ThinTreeLemmas.{terms_some, no_left, none_of}
use Rattle.sw_thin.proofs.main_body.+sum.Goals as goal

pub returns-then-most-eq0 : goal.returns-then-most-eq0
returns-then-most-eq0 t c e sum few of = terms_some e (subst (λ n. terms e ≤ n) c.if-most-eq0.true few)

pub returns-in_default-2 : goal.returns-in_default-2
returns-in_default-2 t c = no_left _ _ _ _ _ c.in-Binary-Add-default-default.is (subst (λ (p : Tree × Tree). (e : Expr) → IsSum e → terms e ≤ c.args.most - 1 → IsExprOf e p.0 → ⊥) c.get.ensures (none_of _ _ c.in_ok-left-in-Binary-Add-default-default.ensures c.in_default-2.is))
