use Rattle.std.proofs.Common.{ap, ◌∙◌, nat_lt, ◌&&◌, codes}
use Rattle.sw_sight.specs.InSight.{same}
use Rattle.sw_declared.specs.Names.{has_type_inner}
use Rattle.sw_declared.proofs.Asked.{asked_type_inner}
use Rattle.sw_declared.proofs.tables.Types.has_inner.Goals as goal

pub returns : goal.returns
returns c =
    let x = c.args.name.now in
    let y = c.args.inner.now in
    c.is_id.ensures ∙ ap (λ t. same (codes "ID") y && t) (ap (nat_lt 0) c.get.ensures ∙ c.self.invariant.actors x 0)
    ∙ asked_type_inner c.self.inside.items x y ∙ ap (λ l. has_type_inner l x y) c.self.view_is
