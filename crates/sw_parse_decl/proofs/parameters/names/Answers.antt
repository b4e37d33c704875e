use Rattle.std.proofs.Common.{sym, ◌∙◌}
use Rattle.sw_syntax.specs.Tests.{is_name}
use Rattle.sw_syntax.proofs.MemberEquations as member
use Rattle.sw_parse_decl.proofs.parameters.names.Goals as goal

pub returns-then-not-is-2-clause-gives : goal.returns-then-not-is-2-clause-gives
returns-then-not-is-2-clause-gives c = rw (c.in_ok-name.ensures) (member.param_own _ _ _ _ _ _ _ (sym c.is.ensures.value ∙ c.if-not-is.false) (c.take-next.ensures.taken is_name (sym c.is.ensures.value ∙ c.if-not-is.false)) (sym c.is-2.ensures.value ∙ c.if-not-is-2.true))

pub returns-clause-gives : goal.returns-clause-gives
returns-clause-gives c = rw (c.in_ok-name.ensures) (rw (c.in_ok-own_name.ensures) (member.param_two _ _ _ _ _ _ _ _ _ (sym c.is.ensures.value ∙ c.if-not-is.false) (c.take-next.ensures.taken is_name (sym c.is.ensures.value ∙ c.if-not-is.false)) (sym c.is-2.ensures.value ∙ c.if-not-is-2.false) (c.take-end.ensures.taken is_name (sym c.is-2.ensures.value ∙ c.if-not-is-2.false))))
