use Rattle.std.proofs.Common.{◌≡◌, map, take}
use Rattle.sw_type_table.specs.Written.{written}
use Rattle.sw_facts.proofs.funcs.parameter_types.Given as goal

abbrev pub invariant-loop-parameter : goal.invariant-loop-parameter
invariant-loop-parameter l = l.types ≡ map (λ p. written l.names l.own p.declared) (take l.parameter-index l.parameters)
