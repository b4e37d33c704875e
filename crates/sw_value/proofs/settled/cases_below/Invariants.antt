use Rattle.std.proofs.Common.{◌≡◌, drop}
use Rattle.sw_value.specs.Kinds.{types_of_cases}
use Rattle.sw_value.specs.Settled.{parts_below}
use Rattle.sw_value.proofs.settled.cases_below.Given as goal

-- the cases that are left decide
abbrev pub invariant-loop-case : goal.invariant-loop-case
invariant-loop-case l = parts_below l.levels l.level (types_of_cases (drop l.case-index l.cases)) ≡ parts_below l.levels l.level (types_of_cases l.cases)
