use Rattle.std.proofs.Common.{◌≡◌, drop}
use Rattle.sw_value.specs.Kinds.{types_of_cases}
use Rattle.sw_value.specs.Codable.{all_among}
use Rattle.sw_value.specs.Settled.{declared}
use Rattle.sw_value.proofs.settled.cases_cross.Given as goal

-- the cases that are left decide
abbrev pub invariant-loop-case : goal.invariant-loop-case
invariant-loop-case l = all_among (declared l.kinds) (types_of_cases (drop l.case-index l.cases)) ≡ all_among (declared l.kinds) (types_of_cases l.cases)
