use Rattle.std.proofs.Common.{◌≡◌, ◌∷◌, sym, ap, ◌∙◌, Some, None}
use Rattle.sw_locals.specs.InBody.{closed}
use Rattle.sw_locals.specs.Linked.{locals_of}
use Rattle.sw_locals.specs.declared.locals.Mark.{Mark}
use Rattle.sw_locals.proofs.Places.{closed_linked, unbound_linked, newest_known}
use Rattle.sw_locals.proofs.locals.Locals.pop.Goals as goal

pub invariant_of-self : goal.invariant_of-self
invariant_of-self c =
    let i = c.self.invariant in
    let mark : Mark = c.in-Some-Some.mark in
    let before : c.self.inside.marks ≡ Some mark ∷ c.pop.new.self = c.in-Some-Some.ensures ∙ ap (λ m. m ∷ c.pop.new.self) c.in-Some-Some.field-0-is in
    unbound_linked c.self.inside.places c.restore_hidden.new.places c.self.inside.marks c.pop.new.self mark i before (c.restore_hidden.ensures.levels (newest_known c.self.inside.places c.self.inside.marks c.pop.new.self mark i before))
    c.restore_hidden.ensures.keeps

pub invariant_of-self-in-Some-None : goal.invariant_of-self-in-Some-None
invariant_of-self-in-Some-None c = closed_linked c.self.inside.places c.self.inside.marks c.pop.new.self c.self.invariant (c.in-Some-None.ensures ∙ ap (λ m. m ∷ c.pop.new.self) c.in-Some-None.field-0-is)

pub returns-in-Some-Some-clause-closes : goal.returns-in-Some-Some-clause-closes
unfolding closed
returns-in-Some-Some-clause-closes c =
    let mark : Mark = c.in-Some-Some.mark in
    let before : c.self.inside.marks ≡ Some mark ∷ c.pop.new.self = c.in-Some-Some.ensures ∙ ap (λ m. m ∷ c.pop.new.self) c.in-Some-Some.field-0-is in
    ap closed (sym c.self.view_is) ∙ ap (λ m. closed (locals_of m)) before

pub returns-in-Some-None-clause-closes : goal.returns-in-Some-None-clause-closes
unfolding closed
returns-in-Some-None-clause-closes c =
    let before : c.self.inside.marks ≡ None ∷ c.pop.new.self = c.in-Some-None.ensures ∙ ap (λ m. m ∷ c.pop.new.self) c.in-Some-None.field-0-is in
    ap closed (sym c.self.view_is) ∙ ap (λ m. closed (locals_of m)) before

pub returns-in-None-clause-closes : goal.returns-in-None-clause-closes
unfolding closed
returns-in-None-clause-closes c = ap closed (sym c.self.view_is) ∙ ap (λ m. closed (locals_of m)) c.in-None.ensures.0 ∙ ap locals_of (sym c.in-None.ensures.1)
