use Rattle.std.proofs.Common.{◌≡◌, ◌++◌, map, take}
use Rattle.sw_declared.specs.Declarations.{case_member}
use Rattle.sw_declared.proofs.own.push_cases.Given as goal

abbrev pub invariant-loop-case : goal.invariant-loop-case
invariant-loop-case l = l.own ≡ l.initial.own ++ map case_member (take l.case-index l.cases)
