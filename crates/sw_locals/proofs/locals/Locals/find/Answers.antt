use Rattle.std.proofs.Common.{sym, ap, ◌∙◌, Some}
use Rattle.sw_locals.specs.InBody.{local_named}
use Rattle.sw_locals.proofs.Places.{place_kept, found, found_by}
use Rattle.sw_locals.proofs.locals.Locals.find.Goals as goal

pub overflow_sub-len : goal.overflow_sub-len
overflow_sub-len c = place_kept c.args.name.now c.self.inside.places c.self.inside.marks c.len.result c.get-place.result c.self.invariant c.len.ensures c.get-place.ensures

pub returns-in-Some-Some : goal.returns-in-Some-Some
returns-in-Some-Some c =
    ap (λ m. found (Some m)) (sym c.in-Some-Some.field-0-is) ∙ ap found c.in-Some-Some.ensures.value
    ∙ found_by c.args.name.now c.self.inside.places c.self.inside.marks c.len.result c.get-place.result c.self.invariant c.len.ensures c.get-place.ensures ∙ ap (local_named c.args.name.now) c.self.view_is

pub returns-in-Some-None : goal.returns-in-Some-None
returns-in-Some-None c =
    ap (λ m. found (Some m)) (sym c.in-Some-None.field-0-is) ∙ ap found c.in-Some-None.ensures.value
    ∙ found_by c.args.name.now c.self.inside.places c.self.inside.marks c.len.result c.get-place.result c.self.invariant c.len.ensures c.get-place.ensures ∙ ap (local_named c.args.name.now) c.self.view_is

pub returns-in-None : goal.returns-in-None
returns-in-None c =
    ap found c.in-None.ensures.value
    ∙ found_by c.args.name.now c.self.inside.places c.self.inside.marks c.len.result c.get-place.result c.self.invariant c.len.ensures c.get-place.ensures ∙ ap (local_named c.args.name.now) c.self.view_is
