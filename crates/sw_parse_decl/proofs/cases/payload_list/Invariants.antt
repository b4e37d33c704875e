use Rattle.std.proofs.Common.{◌≡◌, ◌≤◌, drop, length, ◌-◌}
use Rattle.sw_syntax.specs.Members.{payload_list, more_payloads}
use Rattle.sw_parse_decl.proofs.cases.payload_list.Given as goal

abbrev pub invariant-payloads : goal.invariant-payloads
invariant-payloads l = record {
  so_far : payload_list l.lenient l.budget.brackets l.budget.limit l.budget.left (drop l.at l.view) ≡ more_payloads l.lenient l.budget.brackets l.budget.limit l.left l.xs (drop l.end l.view);
  moves : l.at ≤ l.end;
  inside : l.end ≤ length l.view;
}

abbrev pub decreases-payloads : goal.decreases-payloads
decreases-payloads l = length l.view - l.end
