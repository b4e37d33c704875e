use Rattle.std.proofs.Common.{◌≡◌, ◌++◌, drop}
use Rattle.sw_facts.specs.Known.{types_from}
use Rattle.sw_facts.proofs.facts.push_types.Given as goal

abbrev pub invariant-loop-decl : goal.invariant-loop-decl
invariant-loop-decl l = l.types ++ types_from l.names l.table l.before l.number (drop l.decl-index l.decls) ≡ l.initial.types ++ types_from l.names l.table 0 0 l.decls
