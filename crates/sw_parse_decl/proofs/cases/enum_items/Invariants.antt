use Rattle.std.proofs.Common.{◌≡◌, ◌≤◌, [], drop, length, ◌-◌}
use Rattle.sw_syntax.specs.Lists.{items_from}
use Rattle.sw_syntax.specs.Nonterminals as nonterminal
use Rattle.sw_parse_decl.proofs.cases.enum_items.Given as goal

abbrev pub invariant-items : goal.invariant-items
invariant-items l = record {
  so_far : items_from l.lenient nonterminal.EnumItems l.budget.brackets l.budget.limit l.budget.left [] (drop l.at l.view) ≡ items_from l.lenient nonterminal.EnumItems l.budget.brackets l.budget.limit l.left l.xs (drop l.end l.view);
  moves : l.at ≤ l.end;
  inside : l.end ≤ length l.view;
}

abbrev pub decreases-items : goal.decreases-items
decreases-items l = length l.view - l.end
