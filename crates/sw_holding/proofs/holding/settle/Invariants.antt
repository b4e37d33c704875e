use Rattle.std.proofs.Common.{◌≡◌, ◌<◌, ℕ, length, unwrap_or}
use Rattle.std.specs.List.{slice_get}
use Rattle.sw_holding.specs.Edges.{settled}
use Rattle.sw_holding.proofs.holding.settle.Given as goal

abbrev pub invariant-loop-t : goal.invariant-loop-t
invariant-loop-t l = record {
  count : length l.levels ≡ l.t;
  below : (k : ℕ) → k < l.t → unwrap_or (slice_get l.levels k) 0 ≡ settled (slice_get l.kinds k) (unwrap_or (slice_get l.walks k) 0);
}
