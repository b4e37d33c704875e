use Rattle.std.proofs.Common.{◌≡◌, map, take}
use Rattle.sw_holding.specs.Holds.{is_protocol_form}
use Rattle.sw_holding.proofs.holding.protocols.Given as goal

abbrev pub invariant-loop-kind : goal.invariant-loop-kind
invariant-loop-kind l = l.protocols.items ≡ map (λ kind. is_protocol_form kind.form) (take l.kind-index l.kinds)
