use Rattle.std.proofs.Common.{sym, ◌∙◌}
use Rattle.sw_lex.specs.declared.token.TokenKind.TheVariants as k
use Rattle.sw_syntax.specs.Tests.{is}
use Rattle.sw_syntax.proofs.BodyEquations as body
use Rattle.sw_parse_decl.proofs.lists.past_separator.Goals as goal

pub returns-then-is-clause-goes : goal.returns-then-is-clause-goes
returns-then-is-clause-goes c = λ lenient kind d l left xs x. body.items_semicolon lenient kind d l left xs x _ _ _ (sym c.is.ensures.value ∙ c.if-is.true) (c.take-next.ensures.taken (is k.Semicolon) (sym c.is.ensures.value ∙ c.if-is.true))

pub returns-then-stands-clause-goes : goal.returns-then-stands-clause-goes
returns-then-stands-clause-goes c = λ lenient kind d l left xs x. body.items_line lenient kind d l left xs x _ (sym c.is.ensures.value ∙ c.if-is.false) (sym c.stands.ensures.value ∙ c.if-stands.true)

pub returns-clause-goes : goal.returns-clause-goes
returns-clause-goes c = λ lenient kind d l left xs x. body.items_last lenient kind d l left xs x _ (sym c.is.ensures.value ∙ c.if-is.false) (sym c.stands.ensures.value ∙ c.if-stands.false)
