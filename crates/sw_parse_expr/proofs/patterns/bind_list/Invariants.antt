use Rattle.std.proofs.Common.{◌≡◌, ◌≤◌, drop, length, ◌-◌}
use Rattle.sw_syntax.specs.Patterns.{bind_list, more_binds}
use Rattle.sw_parse_expr.proofs.patterns.bind_list.Given as goal

abbrev pub invariant-binds : goal.invariant-binds
invariant-binds l = record {
  so_far : bind_list l.lenient l.budget.brackets l.budget.limit l.budget.left (drop l.at l.view) ≡ more_binds l.lenient l.budget.brackets l.budget.limit l.left l.xs (drop l.end l.view);
  moves : l.at ≤ l.end;
  inside : l.end ≤ length l.view;
}

abbrev pub decreases-binds : goal.decreases-binds
decreases-binds l = length l.view - l.end
