use Rattle.std.proofs.Common.{◌≡◌, ◌<◌, ℕ, length}
use Rattle.sw_holding.specs.Members.{marked}
use Rattle.sw_holding.proofs.AboveLemmas.{test}
use Rattle.sw_holding.proofs.above.each_above.Given as goal

abbrev pub invariant-loop-t : goal.invariant-loop-t
invariant-loop-t l = record {
  count : length l.table.items ≡ l.t;
  below : (k : ℕ) → k < l.t → marked l.table.items k ≡ test l.kinds l.levels l.bounded k;
}
