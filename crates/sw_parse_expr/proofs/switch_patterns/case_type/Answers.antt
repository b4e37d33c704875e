use Rattle.std.proofs.Common.{sym, ◌∙◌}
use Rattle.sw_syntax.specs.Tests.{is_name}
use Rattle.sw_syntax.proofs.PatternEquations as pat
use Rattle.sw_parse_expr.proofs.SwitchExits.{some_name}
use Rattle.sw_parse_expr.proofs.switch_patterns.case_type.Goals as goal

pub returns-then-not-is-clause-gives : goal.returns-then-not-is-clause-gives
returns-then-not-is-clause-gives c = pat.type_none _ _ _ _ _ (sym c.is.ensures.value ∙ c.if-not-is.true)

pub returns-clause-gives : goal.returns-clause-gives
returns-clause-gives c = pat.type_some _ _ _ _ _ _ _ (sym c.is.ensures.value ∙ c.if-not-is.false) (c.take-end.ensures.taken is_name (sym c.is.ensures.value ∙ c.if-not-is.false)) ∙ some_name _ _ _ _ c.in_ok-name.ensures
