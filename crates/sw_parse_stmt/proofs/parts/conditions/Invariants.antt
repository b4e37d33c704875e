use Rattle.std.proofs.Common.{◌≡◌, ◌<◌, ◌≤◌, drop, length, ◌-◌}
use Rattle.sw_syntax.specs.Bodies.{cond_list, more_conds}
use Rattle.sw_parse_stmt.proofs.parts.conditions.Given as goal

abbrev pub invariant-conditions : goal.invariant-conditions
invariant-conditions l = record {
  so_far : cond_list l.lenient l.budget.brackets l.budget.limit l.budget.left (drop l.at l.view) ≡ more_conds l.lenient l.budget.brackets l.budget.limit l.left l.xs (drop l.end l.view);
  moves : l.at < l.end;
  inside : l.end ≤ length l.view;
}

abbrev pub decreases-conditions : goal.decreases-conditions
decreases-conditions l = length l.view - l.end
