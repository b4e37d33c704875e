use Rattle.std.proofs.lemmas.Result.{err_from_is_err_and}
use Rattle.sw_syntax.proofs.DeclEquations as decl
use Rattle.sw_syntax.proofs.Exits.{after, passes}
use Rattle.sw_parse_decl.proofs.files.file.Goals as goal

pub returns-in_err-decls-clause-gives : goal.returns-in_err-decls-clause-gives
returns-in_err-decls-clause-gives c =
    let p = err_from_is_err_and c.from_residual.result c.from_residual.ensures.1 in
    rw (p.1, p.2) (passes _ _ _ _ _ (decl.file_items _ _ _ _ _) (c.in_err-decls.ensures.gives))

pub returns-in_err-after-clause-gives : goal.returns-in_err-after-clause-gives
returns-in_err-after-clause-gives c =
    let p = err_from_is_err_and c.from_residual-in_err-after.result c.from_residual-in_err-after.ensures.1 in
    rw (p.1, p.2) (passes _ _ _ _ _ (after _ _ _ _ _ _ (decl.file_items _ _ _ _ _) (c.in_ok-decls.ensures.gives)) (c.in_err-after.ensures.gives c.in_ok-decls.left))

pub returns-clause-gives : goal.returns-clause-gives
returns-clause-gives c = after _ _ _ _ _ _ (after _ _ _ _ _ _ (decl.file_items _ _ _ _ _) (c.in_ok-decls.ensures.gives)) (c.in_ok-after.ensures.gives c.in_ok-decls.left)
