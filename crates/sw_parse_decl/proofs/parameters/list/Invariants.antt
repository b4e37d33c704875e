use Rattle.std.proofs.Common.{◌≡◌, ◌≤◌, drop, length, ◌-◌}
use Rattle.sw_syntax.specs.Members.{param_list, more_params}
use Rattle.sw_parse_decl.proofs.parameters.list.Given as goal

abbrev pub invariant-parameters : goal.invariant-parameters
invariant-parameters l = record {
  so_far : param_list l.lenient l.budget.brackets l.budget.limit l.budget.left (drop l.at l.view) ≡ more_params l.lenient l.budget.brackets l.budget.limit l.left l.xs (drop l.end l.view);
  moves : l.at ≤ l.end;
  inside : l.end ≤ length l.view;
}

abbrev pub decreases-parameters : goal.decreases-parameters
decreases-parameters l = length l.view - l.end
