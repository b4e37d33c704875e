use Rattle.std.proofs.Common.{sym, ◌∙◌}
use Rattle.std.proofs.lemmas.Result.{err_from_is_err_and}
use Rattle.sw_lex.specs.declared.token.TokenKind.TheVariants as k
use Rattle.sw_syntax.specs.Nonterminals as nonterminal
use Rattle.sw_syntax.specs.Tests.{is}
use Rattle.sw_syntax.proofs.BodyEquations as body
use Rattle.sw_syntax.proofs.Exits.{after, gives_going}
use Rattle.sw_parse_stmt.specs.Statements.{stepped}
use Rattle.sw_parse_stmt.specs.declared.steps.Step.{Step}
use Rattle.sw_parse_stmt.proofs.steps.returned.Goals as goal

pub returns-then-not-stands-clause-gives : goal.returns-then-not-stands-clause-gives
returns-then-not-stands-clause-gives c = λ context xs. body.body_return _ _ _ _ _ xs _ _ _ c.requires.0 c.requires.1 c.requires.2 (c.take-next.ensures.taken (is k.Return) c.requires.2) ∙ body.return_bare _ _ _ _ _ _ _ _ (sym c.stands.ensures.value ∙ c.if-not-stands.true) ∙ c.separator-goes_on.ensures.gives c.args.lenient context nonterminal.Closed c.args.budget.brackets c.args.budget.limit c.args.budget.left xs _ c.stands-is_below.ensures.value

pub returns-in_err-x-clause-gives : goal.returns-in_err-x-clause-gives
returns-in_err-x-clause-gives c =
    let p = err_from_is_err_and c.from_residual.result c.from_residual.ensures.1 in
    rw (p.1, p.2) (λ context xs. gives_going {A = Step} (stepped c.args.lenient context c.args.budget.brackets c.args.budget.limit xs) _ _ _ _ _ (body.body_return _ _ _ _ _ xs _ _ _ c.requires.0 c.requires.1 c.requires.2 (c.take-next.ensures.taken (is k.Return) c.requires.2) ∙ body.return_value _ _ _ _ _ _ _ _ (sym c.stands.ensures.value ∙ c.if-not-stands.false)) c.in_err-x.ensures.gives)

pub returns-clause-gives : goal.returns-clause-gives
returns-clause-gives c = λ context xs. after _ _ _ _ _ _ (body.body_return _ _ _ _ _ xs _ _ _ c.requires.0 c.requires.1 c.requires.2 (c.take-next.ensures.taken (is k.Return) c.requires.2) ∙ body.return_value _ _ _ _ _ _ _ _ (sym c.stands.ensures.value ∙ c.if-not-stands.false)) (c.in_ok-x.ensures.gives) ∙ c.separator-goes_on-2.ensures.gives c.args.lenient context nonterminal.Open c.args.budget.brackets c.args.budget.limit c.args.budget.left xs _ c.stands-is_below-2.ensures.value
