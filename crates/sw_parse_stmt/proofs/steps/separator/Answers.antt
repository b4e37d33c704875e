use Rattle.std.proofs.Common.{sym, ◌∙◌}
use Rattle.sw_lex.specs.declared.token.TokenKind.TheVariants as k
use Rattle.sw_syntax.specs.Tests.{is}
use Rattle.sw_syntax.proofs.BodyEquations as body
use Rattle.sw_parse_stmt.proofs.Exits.{after_other}
use Rattle.sw_parse_stmt.proofs.steps.separator.Goals as goal

pub returns-then-is-clause-gives : goal.returns-then-is-clause-gives
returns-then-is-clause-gives c = λ lenient context ending d l left xs x e. body.semicolon_after lenient context ending d l left xs x _ _ _ (sym c.is.ensures.value ∙ c.if-is.true) (c.take-next.ensures.taken (is k.Semicolon) (sym c.is.ensures.value ∙ c.if-is.true))

pub returns-clause-gives : goal.returns-clause-gives
returns-clause-gives c = λ lenient context ending d l left xs x e. after_other lenient context ending d l left xs x _ _ (sym c.is.ensures.value ∙ c.if-is.false) e
