use Rattle.std.proofs.Common.{ap, ◌∙◌, nat_lt, ◌&&◌, ◌||◌, codes}
use Rattle.sw_sight.specs.InSight.{same}
use Rattle.sw_declared.specs.Names.{has_alias_inner}
use Rattle.std.specs.List.{list_any}
use Rattle.sw_declared.specs.Ranks.{id_rank}
use Rattle.sw_declared.proofs.Asked.{asked_alias_inner}
use Rattle.sw_declared.proofs.tables.Aliases.has_inner.Goals as goal

pub returns : goal.returns
returns c =
    let x = c.args.name.now in
    let y = c.args.inner.now in
    let id = same (codes "ID") y in
    let actor = same (codes "ActorID") y in
    c.is_inner.ensures
    ∙ ap (λ t. (id && t) || (actor && nat_lt 1 c.get-2.result)) (ap (nat_lt 0) c.get.ensures ∙ c.self.invariant.ids x 0)
    ∙ ap (λ t. (id && list_any (λ a. same a.name x && nat_lt 0 (id_rank a.inner)) c.self.inside.items) || (actor && t)) (ap (nat_lt 1) c.get-2.ensures ∙ c.self.invariant.named x 1)
    ∙ asked_alias_inner c.self.inside.items x y ∙ ap (λ l. has_alias_inner l x y) c.self.view_is
