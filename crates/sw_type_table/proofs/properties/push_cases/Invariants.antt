use Rattle.std.proofs.Common.{◌≡◌, ◌++◌, map, take}
use Rattle.sw_type_table.specs.Table.{case_entry}
use Rattle.sw_type_table.proofs.properties.push_cases.Given as goal

abbrev pub invariant-loop-case : goal.invariant-loop-case
invariant-loop-case l = l.entries ≡ l.initial.entries ++ map (case_entry l.names l.own) (take l.case-index l.cases)
