use Rattle.std.proofs.Common.{◌≡◌, ◌+◌, drop}
use Rattle.sw_thin.proofs.LoweringLemmas.{newer}
use Rattle.sw_thin.proofs.lowering.Vars.newer_than.Given as goal

-- none of those before has the name
abbrev pub invariant-loop-i : goal.invariant-loop-i
invariant-loop-i l = newer l.name l.self ≡ l.i + newer l.name (drop l.i l.self)
