use Rattle.std.proofs.Common.{◌≡◌, ◌++◌, drop}
use Rattle.sw_facts.specs.Members.{requirement_of}
use Rattle.sw_facts.specs.Numbers.{numbered}
use Rattle.sw_facts.proofs.parts.push_requirements.Given as goal

abbrev pub invariant-loop-x : goal.invariant-loop-x
invariant-loop-x l = l.list ++ numbered (requirement_of l.owner) l.number (drop l.x-index l.requirements) ≡ l.initial.list ++ numbered (requirement_of l.owner) 0 l.requirements
