use Rattle.std.proofs.Common.{ap, ◌∙◌, ◌&&◌, ◌||◌, codes}
use Rattle.std.specs.List.{list_any}
use Rattle.sw_sight.specs.InSight.{same}
use Rattle.sw_declared.specs.declared.facts.Question.TheVariants.{IdAliased}
use Rattle.sw_declared.specs.Facts.{rank_of, is_above}
use Rattle.sw_declared.proofs.Asked.{asked_inner}
use Rattle.sw_declared.proofs.member_table.Members.has_inner.Goals as goal

pub returns : goal.returns
unfolding rank_of
returns c =
    let x = c.args.name.now in
    let y = c.args.inner.now in
    let id = same (codes "ID") y in
    let actor = same (codes "ActorID") y in
    c.is_inner.ensures
    ∙ ap (λ t. (id && t) || (actor && c.tells-2.result)) c.tells.ensures
    ∙ ap (λ t. (id && list_any (is_above IdAliased x 0) c.args.self.now) || (actor && t)) c.tells-2.ensures
    ∙ asked_inner c.args.self.now x y
