use Rattle.std.proofs.Common.{◌≡◌, ◌≤◌, ◌<◌, drop, length, ◌-◌}
use Rattle.sw_syntax.specs.Members.{case_list, more_cases}
use Rattle.sw_parse_decl.proofs.cases.case_list.Given as goal

abbrev pub invariant-cases : goal.invariant-cases
invariant-cases l = record {
  so_far : case_list l.lenient l.budget.brackets l.budget.limit l.budget.left (drop l.at l.view) ≡ more_cases l.lenient l.budget.brackets l.budget.limit l.left l.xs (drop l.end l.view);
  moves : l.at < l.end;
  inside : l.end ≤ length l.view;
}

abbrev pub decreases-cases : goal.decreases-cases
decreases-cases l = length l.view - l.end
