use Rattle.std.proofs.Common.{◌≡◌, ◌++◌, [], ◌∷◌, true, false, OnOk, Some, codes, ap, ◌∙◌, subst, List, Option}
use Rattle.sw_value.specs.declared.ty.Ty.{Ty}
use Rattle.sw_value.specs.declared.ty.Base.TheVariants as base
use Rattle.sw_typed.specs.declared.entity.Entity.TheVariants as entity
use Rattle.sw_typed.specs.declared.entity.BuiltIn.TheVariants as built_in
use Rattle.sw_declared.specs.Members.{Label}
use Rattle.sw_members.specs.declared.declaration.Declaration.{Declaration}
use Rattle.sw_typing.specs.Types.{bare}
use Rattle.sw_facts.specs.BuiltIns.{callable, resolve}
use Rattle.sw_facts.proofs.built_in.push_resolve.Goals as goal

pub returns : goal.returns
returns c =
    let made : List Label → List (Option Ty) → Declaration = λ labels takes.
    callable (codes "resolve") true (entity.BuiltIn (built_in.Resolve c.args.owner)) labels takes (Some (bare (base.Distributed c.args.owner))) false in
    let labelled : made c.in_ok-labels.labels c.in_ok-takes.takes ≡ made (Some (codes "id") ∷ Some (codes "using") ∷ []) c.in_ok-takes.takes =
    ap (λ l. made l c.in_ok-takes.takes) c.in_ok-labels.ensures in
    let taken : made (Some (codes "id") ∷ Some (codes "using") ∷ []) c.in_ok-takes.takes ≡ resolve c.args.owner =
    ap (λ t. made (Some (codes "id") ∷ Some (codes "using") ∷ []) t) c.in_ok-takes.ensures in
    subst (λ k. OnOk c.push_static.result (c.push_static.new.list ≡ c.args.list.now ++ k ∷ [])) (labelled ∙ taken) c.push_static.ensures
