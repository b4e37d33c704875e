use Rattle.std.proofs.Common.{drop, sym, ap, ◌∙◌}
use Rattle.std.proofs.lemmas.Result.{err_from_is_err_and}
use Rattle.sw_lex.specs.declared.token.TokenKind.TheVariants as k
use Rattle.sw_syntax.specs.Members.{var_from}
use Rattle.sw_syntax.specs.Tests.{is}
use Rattle.sw_syntax.proofs.MemberEquations as member
use Rattle.sw_syntax.proofs.Exits.{after, passes, gives_by}
use Rattle.sw_parse_decl.proofs.properties.var_property.Goals as goal

pub returns-in_err-token-clause-gives : goal.returns-in_err-token-clause-gives
returns-in_err-token-clause-gives c =
    let p = err_from_is_err_and c.from_residual.result c.from_residual.ensures.1 in
    rw (p.1, p.2) (passes _ _ _ _ _ (member.member_var _ _ _ _ _ _ _ _ c.requires.0 c.requires.1 (c.take-next.ensures.taken (is k.Var) c.requires.1)) (c.in_err-token.ensures.gives c.args.budget.left))

pub returns-clause-gives : goal.returns-clause-gives
returns-clause-gives c = gives_by _ _ _ _ (after _ _ _ _ _ _ (member.member_var _ _ _ _ _ _ _ _ c.requires.0 c.requires.1 (c.take-next.ensures.taken (is k.Var) c.requires.1)) (c.in_ok-token.ensures.gives c.args.budget.left) ∙ ap (λ n. var_from c.args.lenient c.args.budget.brackets c.args.budget.limit c.args.budget.left c.args.modifiers n (drop c.in_ok-token.end c.args.view.now)) (sym c.in_ok-name.ensures)) c.untyped.ensures.gives
