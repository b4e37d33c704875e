use Rattle.std.proofs.Common.{drop, sym, ◌∙◌}
use Rattle.sw_lex.specs.declared.token.TokenKind.TheVariants as k
use Rattle.sw_syntax.specs.Tests.{is}
use Rattle.sw_syntax.proofs.Equations.{first_left}
use Rattle.sw_parse_expr.proofs.PatternExits.{only_right}
use Rattle.sw_parse_expr.proofs.patterns.starts_bind.Goals as goal

pub returns-then-is : goal.returns-then-is
returns-then-is c = sym (first_left (is k.Let) (is k.Underscore) (drop c.args.at c.args.view.now) (sym c.is.ensures.value ∙ c.if-is.true))

pub returns : goal.returns
returns c = c.is-2.ensures.value ∙ only_right (is k.Let) (is k.Underscore) (drop c.args.at c.args.view.now) (sym c.is.ensures.value ∙ c.if-is.false)
