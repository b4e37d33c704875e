use Rattle.std.proofs.Common.{◌≡◌, ◌+◌, ℕ, suc, sym, ap, subst, ◌∙◌, None, Some, ◌∷◌, arith, cond}
use Rattle.sw_sight.specs.InSight.{Text, same}
use Rattle.sw_sight.specs.Levels.{level, IsKnown}
use Rattle.sw_sight.specs.Linked.{Marks, scopes, level_of, AreLinked, IsLinked}
use Rattle.sw_sight.specs.declared.sight.Local.{Local}
use Rattle.sw_sight.proofs.Marks.{still_linked, bound}
use Rattle.sw_sight.proofs.sight.Sight.bind.Goals as goal

pub invariant_of-self : goal.invariant_of-self
invariant_of-self c =
    let i = c.self.invariant in
    record { depth = i.depth; levels = λ x. c.add.ensures.levels x ∙ i.levels x; linked = still_linked c.self.inside.levels c.add.new.self c.self.inside.marks c.add.ensures.keeps i.linked }

pub invariant_of-self-in_err-push : goal.invariant_of-self-in_err-push
invariant_of-self-in_err-push c =
    let i = c.self.invariant in
    let h = c.in_err-push.ensures.err in
    record {
      depth = i.depth ∙ sym (ap scopes h);
      levels = λ x. c.add.ensures.levels x ∙ i.levels x ∙ sym (ap (level_of x) h);
      linked = subst (AreLinked c.add.new.self) (sym h) (still_linked c.self.inside.levels c.add.new.self c.self.inside.marks c.add.ensures.keeps i.linked);
    }

pub invariant_of-self-2 : goal.invariant_of-self-2
unfolding scopes AreLinked
invariant_of-self-2 c =
    let i = c.self.invariant in
    let h = c.in_ok-push.ensures.ok in
    let l : Local = record { name = c.in_ok-text.text; hidden = c.get-hidden.result } in
    let n = c.in_ok-text.ensures in
    let known = c.in_ok-add.ensures.known in
    let set = c.set.ensures.levels known in
    record {
      depth = i.depth ∙ sym (ap scopes h);
      levels = λ x. bound c.add.new.self c.set.new.self l c.self.inside.marks c.self.inside.depth c.in-Some.level i.depth c.in-Some.ensures.1 (c.get-hidden.ensures ∙ ap (λ w. level w c.add.new.self) (sym n))
          (λ y. c.add.ensures.levels y ∙ i.levels y) (λ y. set y ∙ ap (λ w. cond (same y w) c.in-Some.level (level y c.add.new.self)) (sym n)) x ∙ sym (ap (level_of x) h);
      linked = subst (AreLinked c.set.new.self) (sym h) (
        c.get-hidden.ensures ∙ c.add.ensures.levels c.args.name.now ∙ i.levels c.args.name.now ∙ ap (λ w. level_of w c.self.inside.marks) (sym n),
        subst (λ w. IsKnown w c.set.new.self) (sym n) (c.set.ensures.keeps c.args.name.now known),
        still_linked c.self.inside.levels c.set.new.self c.self.inside.marks (λ y k. c.set.ensures.keeps y (c.add.ensures.keeps y k)) i.linked,
      );
    }
