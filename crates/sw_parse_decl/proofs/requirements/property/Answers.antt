use Rattle.std.proofs.lemmas.Result.{err_from_is_err_and}
use Rattle.sw_lex.specs.declared.token.TokenKind.TheVariants as k
use Rattle.sw_syntax.specs.Tests.{is}
use Rattle.sw_syntax.proofs.MemberEquations as member
use Rattle.sw_syntax.proofs.Exits.{after, passes}
use Rattle.sw_parse_decl.proofs.requirements.property.Goals as goal

pub returns-in_err-token-clause-gives : goal.returns-in_err-token-clause-gives
returns-in_err-token-clause-gives c =
    let p = err_from_is_err_and c.from_residual.result c.from_residual.ensures.1 in
    rw (p.1, p.2) (passes _ _ _ _ _ (member.requirement_property _ _ _ _ _ _ _ c.requires.0 (c.take-name_at.ensures.taken (is k.Var) c.requires.0)) (c.in_err-token.ensures.gives c.args.budget.left))

pub returns-in_err-type_at-clause-gives : goal.returns-in_err-type_at-clause-gives
returns-in_err-type_at-clause-gives c =
    let p = err_from_is_err_and c.from_residual-in_err-type_at.result c.from_residual-in_err-type_at.ensures.1 in
    rw (p.1, p.2) (passes _ _ _ _ _ (after _ _ _ _ _ _ (member.requirement_property _ _ _ _ _ _ _ c.requires.0 (c.take-name_at.ensures.taken (is k.Var) c.requires.0)) (c.in_ok-token.ensures.gives c.args.budget.left)) (c.in_err-type_at.ensures.gives c.args.budget.left))

pub returns-in_err-declared-clause-gives : goal.returns-in_err-declared-clause-gives
returns-in_err-declared-clause-gives c =
    let p = err_from_is_err_and c.from_residual-in_err-declared.result c.from_residual-in_err-declared.ensures.1 in
    rw (p.1, p.2) (passes _ _ _ _ _ (after _ _ _ _ _ _ (after _ _ _ _ _ _ (member.requirement_property _ _ _ _ _ _ _ c.requires.0 (c.take-name_at.ensures.taken (is k.Var) c.requires.0)) (c.in_ok-token.ensures.gives c.args.budget.left)) (c.in_ok-type_at.ensures.gives c.args.budget.left)) (c.in_err-declared.ensures.gives))

pub returns-in_err-end-clause-gives : goal.returns-in_err-end-clause-gives
returns-in_err-end-clause-gives c =
    let p = err_from_is_err_and c.from_residual-in_err-end.result c.from_residual-in_err-end.ensures.1 in
    rw (p.1, p.2) (passes _ _ _ _ _ (after _ _ _ _ _ _ (after _ _ _ _ _ _ (after _ _ _ _ _ _ (member.requirement_property _ _ _ _ _ _ _ c.requires.0 (c.take-name_at.ensures.taken (is k.Var) c.requires.0)) (c.in_ok-token.ensures.gives c.args.budget.left)) (c.in_ok-type_at.ensures.gives c.args.budget.left)) (c.in_ok-declared.ensures.gives)) (c.in_err-end.ensures.gives))

pub returns-clause-gives : goal.returns-clause-gives
returns-clause-gives c = rw (c.in_ok-name.ensures) (after _ _ _ _ _ _ (after _ _ _ _ _ _ (after _ _ _ _ _ _ (after _ _ _ _ _ _ (member.requirement_property _ _ _ _ _ _ _ c.requires.0 (c.take-name_at.ensures.taken (is k.Var) c.requires.0)) (c.in_ok-token.ensures.gives c.args.budget.left)) (c.in_ok-type_at.ensures.gives c.args.budget.left)) (c.in_ok-declared.ensures.gives)) (c.in_ok-end.ensures.gives))
