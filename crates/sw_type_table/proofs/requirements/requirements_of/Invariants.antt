use Rattle.std.proofs.Common.{◌≡◌, map, take}
use Rattle.sw_type_table.specs.Table.{requirement_entry}
use Rattle.sw_type_table.proofs.requirements.requirements_of.Given as goal

abbrev pub invariant-loop-requirement : goal.invariant-loop-requirement
invariant-loop-requirement l = l.entries ≡ map (requirement_entry l.names l.own) (take l.requirement-index l.requirements)
