use Rattle.std.proofs.Common.{◌≡◌, ◌++◌, [], drop}
use Rattle.sw_declared.specs.Declarations.{funcs_in}
use Rattle.sw_facts.specs.Known.{file_func}
use Rattle.sw_facts.specs.Numbers.{any_owner, counted}
use Rattle.sw_facts.proofs.facts.push_with.Given as goal

abbrev pub invariant-loop-decl : goal.invariant-loop-decl
invariant-loop-decl l =
    l.nothing ≡ [] → l.list ++ counted (funcs_in any_owner) (file_func l.names) l.number (drop l.decl-index l.decls)
    ≡ l.initial.list ++ counted (funcs_in any_owner) (file_func l.names) 0 l.decls
