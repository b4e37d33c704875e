-- All refusals of a part of the pass, in the order in which the code reports them. Machinery: no public contract names it.
use Rattle.std.specs.Prelude.{List, [], ◌++◌}
use Rattle.std.specs.List.{flat_map}
use Rattle.sw_rules.specs.declared.Refusal.{Refusal}
use Rattle.sw_tree.specs.declared.decl.Decl.{Decl}
use Rattle.sw_tree.specs.declared.decl.Tree.{Tree}
use Rattle.sw_declared.specs.declared.names.Member.{Member}
use Rattle.sw_declared.specs.declared.names.Names.{Names}
use Rattle.sw_declared.specs.Declarations.{declarations, members_in}
use Rattle.sw_scope.specs.Walk.{broken}
use Rattle.sw_events.specs.Parts.{Part, parts_of}
use Rattle.sw_names.specs.Keys.{built_in_keys, inner_keys, file_keys}
use Rattle.sw_names.specs.Meeting.{repeats}
use Rattle.sw_names.specs.Pass.{aliases_break, import_breaks}

-- N1 to N4 in a part, by what the file declares and the own members
unfoldable pub part_broken : Names → List Member → Part → List Refusal
part_broken names own part = broken (record { names = names; own = own; has_instance = part.has_instance }) part.events

unfoldable pub inside_broken : Names → Decl → List Refusal
inside_broken names decl = flat_map (part_broken names (members_in decl)) (parts_of decl)

-- N1 to N6 in a declaration
unfoldable pub decl_broken : Names → Decl → List Refusal
decl_broken names decl =
    inside_broken names decl
    ++ (repeats (built_in_keys decl) (inner_keys decl)
    ++ (aliases_break decl ++ import_breaks decl))

-- N1 to N6 in a file
unfoldable pub all_broken : Tree → List Refusal
all_broken tree = flat_map (decl_broken (declarations tree)) tree.decls ++ repeats [] (flat_map file_keys tree.decls)
