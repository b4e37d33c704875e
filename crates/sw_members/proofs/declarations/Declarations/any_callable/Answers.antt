use Rattle.std.proofs.Common.{ap, ◌∙◌, nat_lt}
use Rattle.sw_members.specs.Keys.{answers, fits}
use Rattle.sw_members.specs.declared.keys.Question.TheVariants.{Callable}
use Rattle.sw_members.proofs.Places.{some_place}
use Rattle.sw_members.proofs.declarations.Declarations.any_callable.Goals as goal

pub returns : goal.returns
unfolding fits
returns c = ap (nat_lt 0) c.place_of.ensures ∙ some_place (answers Callable c.args.side c.args.name.now) c.args.self.now
