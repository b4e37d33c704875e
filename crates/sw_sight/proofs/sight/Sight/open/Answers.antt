use Rattle.std.proofs.Common.{◌≡◌, ◌+◌, ℕ, suc, sym, ap, subst, ◌∙◌, None, ◌∷◌, arith}
use Rattle.sw_sight.specs.InSight.{Text}
use Rattle.sw_sight.specs.Levels.{level}
use Rattle.sw_sight.specs.Linked.{Marks, scopes, level_of, AreLinked, IsLinked}
use Rattle.sw_sight.proofs.sight.Sight.open.Goals as goal

pub invariant_of-self-2 : goal.invariant_of-self-2
unfolding scopes level_of AreLinked
invariant_of-self-2 c =
    let h = c.in_ok-push.ensures.ok in
    let i = c.self.invariant in
    let d : c.in-Some.deeper ≡ suc (scopes c.self.inside.marks) = omega (arith, c.in-Some.ensures.1, i.depth) in
    record {
      depth = d ∙ sym (ap scopes h);
      levels = λ x. i.levels x ∙ sym (ap (level_of x) h);
      linked = subst (AreLinked c.self.inside.levels) (sym h) i.linked;
    }
