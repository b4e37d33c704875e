use Rattle.std.proofs.Common.{◌≡◌, ℕ, suc, ◌-◌, ◌++◌, ◌∷◌, [], sym, ap, subst, ◌∙◌, Some, None, cond, arith}
use Rattle.sw_sight.specs.InSight.{closed, same}
use Rattle.sw_sight.specs.Levels.{level, IsKnown}
use Rattle.sw_sight.specs.Linked.{Marks, scopes, level_of, AreLinked, words_of}
use Rattle.sw_sight.specs.declared.sight.Local.{Local}
use Rattle.sw_sight.proofs.Marks.{still_linked, unbound}
use Rattle.sw_sight.proofs.sight.Sight.pop.Goals as goal

pub invariant_of-self : goal.invariant_of-self
unfolding scopes AreLinked
invariant_of-self c =
    let i = c.self.invariant in
    let l : Local = c.in-Some-Some.local in
    let h : c.self.inside.marks ≡ Some l ∷ c.pop.new.self = c.in-Some-Some.ensures ∙ ap (λ m. m ∷ c.pop.new.self) c.in-Some-Some.field-0-is in
    let linked = subst (AreLinked c.self.inside.levels) h i.linked in
    let n = c.as_bytes.ensures in
    let set = c.set.ensures.levels (subst (λ w. IsKnown w c.self.inside.levels) (sym n) linked.1) in
    record {
      depth = i.depth ∙ ap scopes h;
      levels = λ x. unbound c.self.inside.levels c.set.new.self l c.pop.new.self linked.0 (λ y. i.levels y ∙ ap (level_of y) h) (λ y. set y ∙ ap (λ w. cond (same y w) l.hidden (level y c.self.inside.levels)) n) x;
      linked = still_linked c.self.inside.levels c.set.new.self c.pop.new.self c.set.ensures.keeps linked.2;
    }

pub overflow_sub-self : goal.overflow_sub-self
unfolding scopes
overflow_sub-self c =
    let h : c.self.inside.marks ≡ None ∷ c.pop.new.self = c.in-Some-None.ensures ∙ ap (λ m. m ∷ c.pop.new.self) c.in-Some-None.field-0-is in
    let d : c.self.inside.depth ≡ suc (scopes c.pop.new.self) = c.self.invariant.depth ∙ ap scopes h in omega arith

pub invariant_of-self-in-Some-None : goal.invariant_of-self-in-Some-None
unfolding scopes level_of AreLinked
invariant_of-self-in-Some-None c =
    let i = c.self.invariant in
    let h : c.self.inside.marks ≡ None ∷ c.pop.new.self = c.in-Some-None.ensures ∙ ap (λ m. m ∷ c.pop.new.self) c.in-Some-None.field-0-is in
    let d : c.self.inside.depth ≡ suc (scopes c.pop.new.self) = i.depth ∙ ap scopes h in
    record {
      depth = omega (arith, d);
      levels = λ x. i.levels x ∙ ap (level_of x) h;
      linked = subst (AreLinked c.self.inside.levels) h i.linked;
    }

pub returns-in-Some-Some-clause-closes : goal.returns-in-Some-Some-clause-closes
unfolding closed
returns-in-Some-Some-clause-closes c =
    let l : Local = c.in-Some-Some.local in
    let h : c.self.inside.marks ≡ Some l ∷ c.pop.new.self = c.in-Some-Some.ensures ∙ ap (λ m. m ∷ c.pop.new.self) c.in-Some-Some.field-0-is in
    ap closed (sym c.self.view_is) ∙ ap (λ m. closed (words_of m)) h

pub returns-in-Some-None-clause-closes : goal.returns-in-Some-None-clause-closes
unfolding closed
returns-in-Some-None-clause-closes c =
    let h : c.self.inside.marks ≡ None ∷ c.pop.new.self = c.in-Some-None.ensures ∙ ap (λ m. m ∷ c.pop.new.self) c.in-Some-None.field-0-is in
    ap closed (sym c.self.view_is) ∙ ap (λ m. closed (words_of m)) h

pub returns-in-None-clause-closes : goal.returns-in-None-clause-closes
unfolding closed
returns-in-None-clause-closes c = ap closed (sym c.self.view_is) ∙ ap (λ m. closed (words_of m)) c.in-None.ensures.0 ∙ ap words_of (sym c.in-None.ensures.1)
