use Rattle.std.proofs.Common.{ap, ◌∙◌}
use Rattle.sw_members.specs.Keys.{answers, at_place, fits}
use Rattle.sw_members.specs.declared.keys.Question.TheVariants.{Value}
use Rattle.sw_members.proofs.Places.{found_at}
use Rattle.sw_members.proofs.declarations.Declarations.value_named.Goals as goal

pub returns : goal.returns
unfolding fits
returns c = c.at_place.ensures ∙ ap (λ n. at_place n c.args.self.now) c.place_of.ensures ∙ found_at (answers Value c.args.side c.args.name.now) c.args.self.now
