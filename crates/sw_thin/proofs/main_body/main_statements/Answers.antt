use Rattle.std.proofs.Common.{sym, ◌∙◌}
use Rattle.sw_thin.proofs.ThinTreeLemmas.{tells, no_system, has_main}
use Rattle.sw_thin.proofs.main_body.main_statements.Goals as goal

pub returns-then-not-takes_system : goal.returns-then-not-takes_system
returns-then-not-takes_system c = no_system _ c.in_ok-main.main.now _ (sym c.as_slice.ensures ∙ c.in_ok-main.ensures) c.if-not-takes_system.true (tells _ _ _ c.as_slice-2.ensures c.takes_system.ensures)

pub returns : goal.returns
returns c = has_main _ c.in_ok-main.main.now _ _ _ (sym c.as_slice.ensures ∙ c.in_ok-main.ensures) c.if-not-is_main.false c.is_main.ensures c.if-not-takes_system.false (tells _ _ _ c.as_slice-2.ensures c.takes_system.ensures) c.as_slice-3.ensures
