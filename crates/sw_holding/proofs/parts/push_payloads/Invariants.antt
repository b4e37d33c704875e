use Rattle.std.proofs.Common.{◌≡◌, ◌++◌, take}
use Rattle.sw_value.specs.Kinds.{types_of_cases}
use Rattle.sw_holding.specs.Edges.{bases_of}
use Rattle.sw_holding.proofs.parts.push_payloads.Given as goal

abbrev pub invariant-loop-case : goal.invariant-loop-case
invariant-loop-case l = l.bases ≡ l.fn.bases ++ bases_of (types_of_cases (take l.case-index l.cases))
