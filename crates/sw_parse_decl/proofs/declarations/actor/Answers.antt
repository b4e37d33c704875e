use Rattle.std.proofs.lemmas.Result.{err_from_is_err_and}
use Rattle.sw_syntax.specs.Tests.{is_actor}
use Rattle.sw_syntax.proofs.DeclEquations as decl
use Rattle.sw_syntax.proofs.Exits.{after, passes}
use Rattle.sw_parse_decl.proofs.declarations.actor.Goals as goal

pub returns-in_err-heading-clause-gives : goal.returns-in_err-heading-clause-gives
returns-in_err-heading-clause-gives c =
    let p = err_from_is_err_and c.from_residual.result c.from_residual.ensures.1 in
    rw (p.1, p.2) (passes _ _ _ _ _ (decl.decl_actor _ _ _ _ _ _ _ _ c.requires.0 c.requires.1 c.requires.2 c.requires.3 (c.take-next.ensures.taken is_actor c.requires.3)) (c.in_err-heading.ensures.gives))

pub returns-in_err-members-clause-gives : goal.returns-in_err-members-clause-gives
returns-in_err-members-clause-gives c =
    let p = err_from_is_err_and c.from_residual-in_err-members.result c.from_residual-in_err-members.ensures.1 in
    rw (p.1, p.2) (passes _ _ _ _ _ (after _ _ _ _ _ _ (decl.decl_actor _ _ _ _ _ _ _ _ c.requires.0 c.requires.1 c.requires.2 c.requires.3 (c.take-next.ensures.taken is_actor c.requires.3)) (c.in_ok-heading.ensures.gives)) (c.in_err-members.ensures.gives))

pub returns-clause-gives : goal.returns-clause-gives
returns-clause-gives c = after _ _ _ _ _ _ (after _ _ _ _ _ _ (decl.decl_actor _ _ _ _ _ _ _ _ c.requires.0 c.requires.1 c.requires.2 c.requires.3 (c.take-next.ensures.taken is_actor c.requires.3)) (c.in_ok-heading.ensures.gives)) (c.in_ok-members.ensures.gives)
