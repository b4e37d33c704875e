use Rattle.std.proofs.Common.{ap, sym, ◌∙◌}
use Rattle.sw_members.specs.Keys.{at_place}
use Rattle.sw_members.proofs.Places.{one_before}
use Rattle.sw_members.proofs.declarations.Declarations.at_place.Goals as goal

pub returns-then-place-eq0 : goal.returns-then-place-eq0
unfolding at_place
returns-then-place-eq0 c = sym (ap (λ n. at_place n c.args.self.now) c.if-place-eq0.true)

pub returns : goal.returns
returns c = c.get.ensures.value ∙ one_before c.args.place c.self.inside.items c.if-place-eq0.false ∙ ap (at_place c.args.place) c.self.view_is
