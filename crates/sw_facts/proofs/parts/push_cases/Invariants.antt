use Rattle.std.proofs.Common.{◌≡◌, ◌++◌, drop}
use Rattle.sw_facts.specs.Members.{case_of}
use Rattle.sw_facts.specs.Numbers.{numbered}
use Rattle.sw_facts.proofs.parts.push_cases.Given as goal

abbrev pub invariant-loop-x : goal.invariant-loop-x
invariant-loop-x l = l.list ++ numbered (case_of l.owner) l.number (drop l.x-index l.cases) ≡ l.initial.list ++ numbered (case_of l.owner) 0 l.cases
