use Rattle.std.proofs.Common.{◌≡◌, map, take}
use Rattle.sw_type_table.specs.Written.{written}
use Rattle.sw_type_table.proofs.properties.payload_types.Given as goal

abbrev pub invariant-loop-part : goal.invariant-loop-part
invariant-loop-part l = l.types ≡ map (λ p. written l.names l.own p.declared) (take l.part-index l.parts)
