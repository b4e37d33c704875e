use Rattle.std.proofs.Common.{◌≡◌, ℕ, ◌<◌, true, unwrap_or}
use Rattle.std.specs.List.{slice_get}
use Rattle.sw_value.specs.Settled.{settled_at}
use Rattle.sw_value.proofs.settled.is_settled.Given as goal

-- the types so far are settled
abbrev pub invariant-loop-i : goal.invariant-loop-i
invariant-loop-i l = (t : ℕ) → t < l.i → settled_at l.kinds l.levels (unwrap_or (slice_get l.levels t) 0) (slice_get l.kinds t) ≡ true
