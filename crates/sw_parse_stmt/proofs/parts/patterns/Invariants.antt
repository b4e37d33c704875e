use Rattle.std.proofs.Common.{◌≡◌, ◌≤◌, drop, length, ◌-◌}
use Rattle.sw_syntax.specs.Bodies.{more_patterns, pattern_list}
use Rattle.sw_parse_stmt.proofs.parts.patterns.Given as goal

abbrev pub invariant-patterns : goal.invariant-patterns
invariant-patterns l = record {
  so_far : pattern_list l.lenient l.budget.brackets l.budget.limit l.budget.left (drop l.at l.view) ≡ more_patterns l.lenient l.budget.brackets l.budget.limit l.left l.xs (drop l.end l.view);
  moves : l.at ≤ l.end;
  inside : l.end ≤ length l.view;
}

abbrev pub decreases-patterns : goal.decreases-patterns
decreases-patterns l = length l.view - l.end
