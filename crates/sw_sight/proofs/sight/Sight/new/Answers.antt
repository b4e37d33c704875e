use Rattle.std.proofs.Common.{◌≡◌, refl, sym, ap, subst, ◌∙◌}
use Rattle.sw_sight.specs.Levels.{level}
use Rattle.sw_sight.specs.Linked.{scopes, level_of, AreLinked}
use Rattle.sw_sight.proofs.Marks.{none_linked}
use Rattle.sw_sight.proofs.sight.Sight.new.Goals as goal

pub invariant_of-result : goal.invariant_of-result
unfolding scopes level_of AreLinked
invariant_of-result c = record {
  depth = sym (ap scopes c.new.ensures);
  levels = λ x. none_linked _ c.new-2.ensures x ∙ sym (ap (level_of x) c.new.ensures);
  linked = subst (AreLinked c.new-2.result) (sym c.new.ensures) tt;
}
