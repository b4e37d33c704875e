use Rattle.std.proofs.Common.{sym, ◌∙◌}
use Rattle.sw_declared.proofs.Ranked.{first_set, first_kept}
use Rattle.sw_declared.proofs.ranks.keep_first.Goals as goal

pub returns-then-get-eq0 : goal.returns-then-get-eq0
returns-then-get-eq0 c k x = first_set x c.args.name.now c.args.number c.args.levels.now c.set.new.self (sym c.get.ensures ∙ c.if-get-eq0.true) (c.set.ensures.levels k x)

pub returns-else-get-eq0 : goal.returns-else-get-eq0
returns-else-get-eq0 c k x = first_kept x c.args.name.now c.args.number c.args.levels.now (λ e. c.if-get-eq0.false (c.get.ensures ∙ e))
