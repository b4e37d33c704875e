use Rattle.std.proofs.Common.{◌≡◌, ◌≤◌, drop, length, ◌-◌}
use Rattle.sw_syntax.specs.Members.{conformances, more_names}
use Rattle.sw_parse_decl.proofs.headings.conformances.Given as goal

abbrev pub invariant-names : goal.invariant-names
invariant-names l = record {
  so_far : conformances l.lenient l.fn.budget.brackets l.fn.budget.limit l.fn.budget.left (drop l.at l.view) ≡ more_names l.lenient l.fn.budget.brackets l.fn.budget.limit l.fn.budget.left l.xs (drop l.end l.view);
  moves : l.at ≤ l.end;
  inside : l.end ≤ length l.view;
}

abbrev pub decreases-names : goal.decreases-names
decreases-names l = length l.view - l.end
