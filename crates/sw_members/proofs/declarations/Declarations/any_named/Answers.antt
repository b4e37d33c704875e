use Rattle.std.proofs.Common.{ap, ◌∙◌, nat_lt}
use Rattle.sw_members.specs.Keys.{answers}
use Rattle.sw_members.specs.Found.{is_named}
use Rattle.sw_members.specs.declared.keys.Question.TheVariants.{Named}
use Rattle.sw_members.proofs.Places.{some_place, place_as}
use Rattle.sw_members.proofs.Keyed.{is_answer}
use Rattle.sw_members.proofs.declarations.Declarations.any_named.Goals as goal

pub returns : goal.returns
returns c =
    let side = c.args.side in
    let x = c.args.name.now in
    ap (nat_lt 0) (c.place_of.ensures ∙ place_as (answers Named side x) (is_named side x) (is_answer side x) c.args.self.now) ∙ some_place (is_named side x) c.args.self.now
