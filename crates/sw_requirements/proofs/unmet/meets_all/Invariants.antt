use Rattle.std.proofs.Common.{◌≡◌, ℕ, true, [], unwrap_or, take}
use Rattle.std.specs.BTreeSet as sorted
use Rattle.std.specs.List.{list_all}
use Rattle.std.specs.Option.{option_copied}
use Rattle.std.specs.Ordering.{nat_cmp}
use Rattle.sw_requirements.specs.Met.{is_met}
use Rattle.sw_requirements.specs.Unmet.{meets_all, requirements_at}
use Rattle.sw_requirements.proofs.unmet.meets_all.Given as goal

abbrev pub invariant-loop-number : goal.invariant-loop-number
invariant-loop-number l = record {
  so_far : meets_all l.table l.funcs.list (unwrap_or (option_copied l.members) []) (take l.number-index l.protocols) ≡ true;
  seen : (q : ℕ) → sorted.contains nat_cmp l.seen q ≡ true
      → list_all (is_met l.funcs.list (unwrap_or (option_copied l.members) [])) (requirements_at l.table (record { 0 = q })) ≡ true;
}
