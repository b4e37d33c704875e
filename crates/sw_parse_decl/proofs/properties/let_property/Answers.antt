use Rattle.std.proofs.lemmas.Result.{err_from_is_err_and}
use Rattle.sw_lex.specs.declared.token.TokenKind.TheVariants as k
use Rattle.sw_syntax.specs.Tests.{is}
use Rattle.sw_syntax.proofs.MemberEquations as member
use Rattle.sw_syntax.proofs.Exits.{after, passes}
use Rattle.sw_parse_decl.proofs.properties.let_property.Goals as goal

pub returns-in_err-token-clause-gives : goal.returns-in_err-token-clause-gives
returns-in_err-token-clause-gives c =
    let p = err_from_is_err_and c.from_residual.result c.from_residual.ensures.1 in
    rw (p.1, p.2) (passes _ _ _ _ _ (member.member_let _ _ _ _ _ _ _ _ c.requires.0 (c.take-next.ensures.taken (is k.Let) c.requires.0)) (c.in_err-token.ensures.gives c.args.budget.left))

pub returns-in_err-declared-clause-gives : goal.returns-in_err-declared-clause-gives
returns-in_err-declared-clause-gives c =
    let p = err_from_is_err_and c.from_residual-in_err-declared.result c.from_residual-in_err-declared.ensures.1 in
    rw (p.1, p.2) (passes _ _ _ _ _ (after _ _ _ _ _ _ (member.member_let _ _ _ _ _ _ _ _ c.requires.0 (c.take-next.ensures.taken (is k.Let) c.requires.0)) (c.in_ok-token.ensures.gives c.args.budget.left)) (c.in_err-declared.ensures.gives))

pub returns-in_err-initial-clause-gives : goal.returns-in_err-initial-clause-gives
returns-in_err-initial-clause-gives c =
    let p = err_from_is_err_and c.from_residual-in_err-initial.result c.from_residual-in_err-initial.ensures.1 in
    rw (p.1, p.2) (passes _ _ _ _ _ (after _ _ _ _ _ _ (after _ _ _ _ _ _ (member.member_let _ _ _ _ _ _ _ _ c.requires.0 (c.take-next.ensures.taken (is k.Let) c.requires.0)) (c.in_ok-token.ensures.gives c.args.budget.left)) (c.in_ok-declared.ensures.gives)) (c.in_err-initial.ensures.gives))

pub returns-clause-gives : goal.returns-clause-gives
returns-clause-gives c = rw (c.in_ok-name.ensures) (after _ _ _ _ _ _ (after _ _ _ _ _ _ (after _ _ _ _ _ _ (member.member_let _ _ _ _ _ _ _ _ c.requires.0 (c.take-next.ensures.taken (is k.Let) c.requires.0)) (c.in_ok-token.ensures.gives c.args.budget.left)) (c.in_ok-declared.ensures.gives)) (c.in_ok-initial.ensures.gives))
