use Rattle.std.proofs.Common.{ap, sym, ◌∙◌}
use Rattle.std.specs.List.{position}
use Rattle.sw_members.specs.Keys.{answers}
use Rattle.sw_members.proofs.Places.{place_found, no_place}
use Rattle.sw_members.proofs.declarations.Declarations.sought.Goals as goal

pub returns-in-Some : goal.returns-in-Some
returns-in-Some c =
    let p = answers c.args.question c.args.side c.args.name.now in
    place_found p c.args.self.now c.in-Some.at (sym (c.index_of.ensures.index ∙ ap (position p) (c.as_slice.ensures ∙ c.self.view_is)) ∙ c.in-Some.is)

pub returns-in-None : goal.returns-in-None
returns-in-None c =
    let p = answers c.args.question c.args.side c.args.name.now in
    no_place p c.args.self.now (sym (c.index_of.ensures.index ∙ ap (position p) (c.as_slice.ensures ∙ c.self.view_is)) ∙ c.in-None.is)
