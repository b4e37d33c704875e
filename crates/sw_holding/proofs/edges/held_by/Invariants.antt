use Rattle.std.proofs.Common.{◌≡◌, take}
use Rattle.sw_holding.specs.Edges.{held_by}
use Rattle.sw_holding.proofs.edges.held_by.Given as goal

abbrev pub invariant-loop-base : goal.invariant-loop-base
invariant-loop-base l = l.numbers ≡ held_by l.kinds (take l.base-index l.bases)
