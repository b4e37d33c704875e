use Rattle.std.proofs.Common.{◌≡◌, ◌++◌, drop}
use Rattle.sw_declared.specs.Declarations.{member_funcs}
use Rattle.sw_facts.specs.Members.{member_func}
use Rattle.sw_facts.specs.Numbers.{any_owner, counted}
use Rattle.sw_facts.proofs.funcs.push_members.Given as goal

abbrev pub invariant-loop-x : goal.invariant-loop-x
invariant-loop-x l =
    l.list ++ counted (member_funcs any_owner) (member_func l.home.names.now l.home.own.now l.home.gives) l.number (drop l.x-index l.members)
    ≡ l.initial.list ++ counted (member_funcs any_owner) (member_func l.home.names.now l.home.own.now l.home.gives) l.first l.members
