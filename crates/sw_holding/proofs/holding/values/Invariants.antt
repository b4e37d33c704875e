use Rattle.std.proofs.Common.{◌≡◌, map, take}
use Rattle.sw_value.specs.Kinds.{has_parts}
use Rattle.sw_holding.proofs.holding.values.Given as goal

abbrev pub invariant-loop-kind : goal.invariant-loop-kind
invariant-loop-kind l = l.values.items ≡ map (λ kind. has_parts kind.form) (take l.kind-index l.kinds)
