use Rattle.std.proofs.Common.{◌≡◌, ◌++◌, drop}
use Rattle.sw_facts.specs.Members.{property}
use Rattle.sw_facts.specs.Numbers.{numbered}
use Rattle.sw_facts.proofs.parts.push_properties.Given as goal

abbrev pub invariant-loop-x : goal.invariant-loop-x
invariant-loop-x l = l.list ++ numbered (property l.owner) l.number (drop l.x-index l.properties) ≡ l.initial.list ++ numbered (property l.owner) 0 l.properties
