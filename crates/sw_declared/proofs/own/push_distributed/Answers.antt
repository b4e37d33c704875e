use Rattle.std.proofs.Common.{◌++◌, ◌∷◌, [], Some, None, codes, true, false, ap, ◌∙◌}
use Rattle.sw_declared.specs.declared.names.MemberKind.TheVariants.{BuiltIn}
use Rattle.sw_declared.specs.Declarations.{member}
use Rattle.sw_declared.proofs.Pushed.{put_three}
use Rattle.sw_declared.proofs.own.push_distributed.Goals as goal

pub returns : goal.returns
returns c =
    put_three (member (codes "id") None false BuiltIn) (member (codes "actorSystem") None false BuiltIn)
    (member (codes "resolve") (Some (Some (codes "id") ∷ Some (codes "using") ∷ [])) true BuiltIn)
    c.args.own.now c.push_built_in.new.own c.push_built_in-2.new.own c.push_built_in-3.new.own
    c.in_ok-push_built_in.ensures c.in_ok-push_built_in-2.ensures
    (c.in_ok-push_built_in-3.ensures ∙ ap (λ l. c.push_built_in-2.new.own ++ member (codes "resolve") (Some l) true BuiltIn ∷ []) c.in_ok-labels.ensures)
