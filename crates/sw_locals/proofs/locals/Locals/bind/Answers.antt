use Rattle.std.proofs.Common.{ap, subst, refl, ◌∙◌}
use Rattle.std.specs.Prelude.{slice_get}
use Rattle.sw_sight.specs.Levels.{level, IsKnown}
use Rattle.sw_locals.specs.declared.locals.Mark.{Mark}
use Rattle.sw_locals.proofs.Places.{known_linked, bound_linked}
use Rattle.sw_locals.proofs.locals.Locals.bind.Goals as goal

pub invariant_of-self : goal.invariant_of-self
invariant_of-self c = known_linked c.self.inside.places c.add.new.self c.self.inside.marks c.self.inside.marks c.self.invariant c.add.ensures.levels c.add.ensures.keeps refl

pub invariant_of-self-in_err-push : goal.invariant_of-self-in_err-push
invariant_of-self-in_err-push c = known_linked c.self.inside.places c.add.new.self c.self.inside.marks c.push.new.self c.self.invariant c.add.ensures.levels c.add.ensures.keeps c.in_err-push.ensures.err

pub invariant_of-self-2 : goal.invariant_of-self-2
invariant_of-self-2 c =
    let mark : Mark = record { local = c.args.local; hidden = c.get-hidden.result } in
    let known = subst (λ w. IsKnown w c.add.new.self) c.as_bytes.ensures c.in_ok-add.ensures.known in
    let before = known_linked c.self.inside.places c.add.new.self c.self.inside.marks c.self.inside.marks c.self.invariant c.add.ensures.levels c.add.ensures.keeps refl in
    bound_linked c.add.new.self c.keep_place_of_newest.new.places c.self.inside.marks c.push.new.self mark before c.in_ok-push.ensures.ok (c.get-hidden.ensures ∙ ap (λ w. level w c.add.new.self) c.as_bytes-2.ensures) known
    (c.keep_place_of_newest.ensures.levels mark (ap (λ marks. slice_get marks 0) c.in_ok-push.ensures.ok) known) c.keep_place_of_newest.ensures.keeps
