use Rattle.std.proofs.Common.{sym, ◌∙◌}
use Rattle.std.proofs.lemmas.Result.{err_from_is_err_and}
use Rattle.sw_syntax.specs.Tests.{is_payload_label}
use Rattle.sw_syntax.proofs.MemberEquations as member
use Rattle.sw_syntax.proofs.Exits.{after, passes}
use Rattle.sw_parse_decl.proofs.cases.payload.Goals as goal

pub returns-in_err-type_at-clause-gives : goal.returns-in_err-type_at-clause-gives
returns-in_err-type_at-clause-gives c =
    let p = err_from_is_err_and c.from_residual.result c.from_residual.ensures.1 in
    rw (p.1, p.2) (passes _ _ _ _ _ (member.payload_labelled _ _ _ _ _ _ _ (sym c.stands.ensures.value ∙ c.if-stands.true) (c.take-next.ensures.taken is_payload_label (sym c.stands.ensures.value ∙ c.if-stands.true))) (c.in_err-type_at.ensures.gives c.args.budget.left))

pub returns-in_err-declared-clause-gives : goal.returns-in_err-declared-clause-gives
returns-in_err-declared-clause-gives c =
    let p = err_from_is_err_and c.from_residual-in_err-declared.result c.from_residual-in_err-declared.ensures.1 in
    rw (p.1, p.2) (passes _ _ _ _ _ (after _ _ _ _ _ _ (member.payload_labelled _ _ _ _ _ _ _ (sym c.stands.ensures.value ∙ c.if-stands.true) (c.take-next.ensures.taken is_payload_label (sym c.stands.ensures.value ∙ c.if-stands.true))) (c.in_ok-type_at.ensures.gives c.args.budget.left)) (c.in_err-declared.ensures.gives))

pub returns-then-stands-clause-gives : goal.returns-then-stands-clause-gives
returns-then-stands-clause-gives c = rw (c.in_ok-payload.ensures) (after _ _ _ _ _ _ (after _ _ _ _ _ _ (member.payload_labelled _ _ _ _ _ _ _ (sym c.stands.ensures.value ∙ c.if-stands.true) (c.take-next.ensures.taken is_payload_label (sym c.stands.ensures.value ∙ c.if-stands.true))) (c.in_ok-type_at.ensures.gives c.args.budget.left)) (c.in_ok-declared.ensures.gives))

pub returns-then-not-stands-clause-gives : goal.returns-then-not-stands-clause-gives
returns-then-not-stands-clause-gives c = member.payload_unexpected _ _ _ _ _ (sym c.stands.ensures.value ∙ c.if-stands.false) (sym c.stands-2.ensures.value ∙ c.if-not-stands.true)

pub returns-in_err-declared-2-clause-gives : goal.returns-in_err-declared-2-clause-gives
returns-in_err-declared-2-clause-gives c =
    let p = err_from_is_err_and c.from_residual-in_err-declared-2.result c.from_residual-in_err-declared-2.ensures.1 in
    rw (p.1, p.2) (passes _ _ _ _ _ (member.payload_bare _ _ _ _ _ (sym c.stands.ensures.value ∙ c.if-stands.false) (sym c.stands-2.ensures.value ∙ c.if-not-stands.false)) (c.in_err-declared-2.ensures.gives))

pub returns-clause-gives : goal.returns-clause-gives
returns-clause-gives c = after _ _ _ _ _ _ (member.payload_bare _ _ _ _ _ (sym c.stands.ensures.value ∙ c.if-stands.false) (sym c.stands-2.ensures.value ∙ c.if-not-stands.false)) (c.in_ok-declared-2.ensures.gives)
