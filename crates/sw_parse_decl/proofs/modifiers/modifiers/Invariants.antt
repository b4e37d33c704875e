use Rattle.std.proofs.Common.{◌≡◌, ◌≤◌, [], drop, length, ◌-◌}
use Rattle.sw_syntax.specs.Members.{mods_from}
use Rattle.sw_parse_decl.proofs.modifiers.modifiers.Given as goal

abbrev pub invariant-modifiers : goal.invariant-modifiers
invariant-modifiers l = record {
  so_far : mods_from l.lenient l.fn.budget.brackets l.fn.budget.limit l.fn.budget.left [] (drop l.at l.view) ≡ mods_from l.lenient l.fn.budget.brackets l.fn.budget.limit l.fn.budget.left l.xs (drop l.end l.view);
  moves : l.at ≤ l.end;
  inside : l.end ≤ length l.view;
}

abbrev pub decreases-modifiers : goal.decreases-modifiers
decreases-modifiers l = length l.view - l.end
