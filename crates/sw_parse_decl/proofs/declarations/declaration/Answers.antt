use Rattle.std.proofs.Common.{sym, ◌∙◌}
use Rattle.std.proofs.lemmas.Result.{err_from_is_err_and}
use Rattle.sw_lex.specs.declared.token.TokenKind.TheVariants as k
use Rattle.sw_syntax.specs.Tests.{is}
use Rattle.sw_syntax.proofs.DeclEquations as decl
use Rattle.sw_syntax.proofs.Exits.{after, passes, gives_by}
use Rattle.sw_parse_decl.proofs.declarations.declaration.Goals as goal

pub returns-in_err-token-clause-gives : goal.returns-in_err-token-clause-gives
returns-in_err-token-clause-gives c =
    let p = err_from_is_err_and c.from_residual.result c.from_residual.ensures.1 in
    rw (p.1, p.2) (passes _ _ _ _ _ (decl.decl_import _ _ _ _ _ _ _ (sym c.is.ensures.value ∙ c.if-is.true) (c.take-next.ensures.taken (is k.Import) (sym c.is.ensures.value ∙ c.if-is.true))) (c.in_err-token.ensures.gives c.args.budget.left))

pub returns-then-is-clause-gives : goal.returns-then-is-clause-gives
returns-then-is-clause-gives c = rw (c.in_ok-name.ensures) (after _ _ _ _ _ _ (decl.decl_import _ _ _ _ _ _ _ (sym c.is.ensures.value ∙ c.if-is.true) (c.take-next.ensures.taken (is k.Import) (sym c.is.ensures.value ∙ c.if-is.true))) (c.in_ok-token.ensures.gives c.args.budget.left))

pub returns-in_err-x-clause-gives : goal.returns-in_err-x-clause-gives
returns-in_err-x-clause-gives c =
    let p = err_from_is_err_and c.from_residual-in_err-x.result c.from_residual-in_err-x.ensures.1 in
    rw (p.1, p.2) (passes _ _ _ _ _ (decl.decl_typealias _ _ _ _ _ (sym c.is.ensures.value ∙ c.if-is.false) (sym c.is-2.ensures.value ∙ c.if-is-2.true)) (c.in_err-x.ensures.gives))

pub returns-then-is-2-clause-gives : goal.returns-then-is-2-clause-gives
returns-then-is-2-clause-gives c = after _ _ _ _ _ _ (decl.decl_typealias _ _ _ _ _ (sym c.is.ensures.value ∙ c.if-is.false) (sym c.is-2.ensures.value ∙ c.if-is-2.true)) (c.in_ok-x.ensures.gives)

pub returns-in_err-modifiers-clause-gives : goal.returns-in_err-modifiers-clause-gives
returns-in_err-modifiers-clause-gives c =
    let p = err_from_is_err_and c.from_residual-in_err-modifiers.result c.from_residual-in_err-modifiers.ensures.1 in
    rw (p.1, p.2) (passes _ _ _ _ _ (decl.decl_modified _ _ _ _ _ (sym c.is.ensures.value ∙ c.if-is.false) (sym c.is-2.ensures.value ∙ c.if-is-2.false)) (c.in_err-modifiers.ensures.gives))

pub returns-clause-gives : goal.returns-clause-gives
returns-clause-gives c = gives_by _ _ _ _ (after _ _ _ _ _ _ (decl.decl_modified _ _ _ _ _ (sym c.is.ensures.value ∙ c.if-is.false) (sym c.is-2.ensures.value ∙ c.if-is-2.false)) (c.in_ok-modifiers.ensures.gives)) c.modified.ensures.gives
