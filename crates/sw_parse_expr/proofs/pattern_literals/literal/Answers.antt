use Rattle.std.proofs.Common.{sym, ◌∙◌}
use Rattle.sw_lex.specs.declared.token.TokenKind.TheVariants as k
use Rattle.sw_syntax.specs.Tests.{is, is_bool}
use Rattle.sw_syntax.proofs.PatternEquations as pat
use Rattle.sw_parse_expr.proofs.SwitchExits.{told_literal}
use Rattle.sw_parse_expr.proofs.pattern_literals.literal.Goals as goal

pub returns-then-is-clause-gives : goal.returns-then-is-clause-gives
returns-then-is-clause-gives c = pat.literal_integer _ _ _ _ _ _ _ (sym c.is.ensures.value ∙ c.if-is.true) (c.take-end.ensures.taken (is k.Integer) (sym c.is.ensures.value ∙ c.if-is.true)) ∙ told_literal _ _ _ _ _ c.integer_value.ensures

pub returns-then-is-2-clause-gives : goal.returns-then-is-2-clause-gives
returns-then-is-2-clause-gives c = pat.literal_bool _ _ _ _ _ _ _ (sym c.is.ensures.value ∙ c.if-is.false) (sym c.is-2.ensures.value ∙ c.if-is-2.true) (c.take-end-then-is-2.ensures.taken is_bool (sym c.is-2.ensures.value ∙ c.if-is-2.true)) ∙ told_literal _ _ _ _ _ c.boolean_value.ensures

pub returns-then-is-3-clause-gives : goal.returns-then-is-3-clause-gives
returns-then-is-3-clause-gives c = pat.literal_string _ _ _ _ _ _ _ (sym c.is.ensures.value ∙ c.if-is.false) (sym c.is-2.ensures.value ∙ c.if-is-2.false) (sym c.is-3.ensures.value ∙ c.if-is-3.true) (c.take-end-then-is-3.ensures.taken (is k.StringWhole) (sym c.is-3.ensures.value ∙ c.if-is-3.true)) ∙ told_literal _ _ _ _ _ c.in_ok-value.ensures
