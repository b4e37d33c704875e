use Rattle.std.proofs.Common.{sym, ◌∙◌}
use Rattle.sw_lex.specs.declared.token.TokenKind.TheVariants as k
use Rattle.sw_syntax.specs.Tests.{is, is_joined_question}
use Rattle.sw_syntax.proofs.OperatorEquations.{try_none, try_plain, try_optional}
use Rattle.sw_parse_expr.proofs.expressions.try_mark.Goals as goal

pub returns-then-not-is-clause-gives : goal.returns-then-not-is-clause-gives
returns-then-not-is-clause-gives c = λ lenient d l left. try_none lenient d l left _ (sym c.is.ensures.value ∙ c.if-not-is.true)

pub returns-then-not-is-2-clause-gives : goal.returns-then-not-is-2-clause-gives
returns-then-not-is-2-clause-gives c = λ lenient d l left. try_plain lenient d l left _ _ _ (sym c.is.ensures.value ∙ c.if-not-is.false) (c.take-end.ensures.taken (is k.Try) (sym c.is.ensures.value ∙ c.if-not-is.false)) (sym c.is-2.ensures.value ∙ c.if-not-is-2.true)

pub returns-clause-gives : goal.returns-clause-gives
returns-clause-gives c = λ lenient d l left. try_optional lenient d l left _ _ _ _ _ (sym c.is.ensures.value ∙ c.if-not-is.false) (c.take-end.ensures.taken (is k.Try) (sym c.is.ensures.value ∙ c.if-not-is.false)) (sym c.is-2.ensures.value ∙ c.if-not-is-2.false) (c.take-after.ensures.taken is_joined_question (sym c.is-2.ensures.value ∙ c.if-not-is-2.false))
