-- The rules of declared types that ask no type of a property: T1, T6 by the form, T7, T8 of counts, and T9.
use Rattle.std.specs.Prelude.{List, ◌++◌}
use Rattle.sw_rules.specs.declared.Refusal.{Refusal}
use Rattle.sw_tree.specs.declared.decl.Decl.{Decl}
use Rattle.sw_declared.specs.declared.names.Member.{Member}
use Rattle.sw_declared.specs.declared.names.Names.{Names}
use Rattle.sw_check_decl.specs.Conformances.{conformances_broken, errors_broken}
use Rattle.sw_check_decl.specs.TypesInSource.{types_broken}
use Rattle.sw_check_decl.specs.Counts.{counts_broken}
use Rattle.sw_check_decl.specs.Forms.{forms_broken}

-- those that a declaration breaks, each with its place, by what the file declares and the members of the own type
abbrev pub declaration_broken : Names → List Member → Decl → List Refusal
declaration_broken names own decl =
    conformances_broken names own decl
    ++ (errors_broken names own decl
    ++ (types_broken names own decl
    ++ (counts_broken decl ++ forms_broken decl)))
