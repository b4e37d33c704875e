-- The pass of names: the rules N1 to N6.
use Rattle.std.specs.Prelude.{◌⊎◌, Bool, true, false, ◌||◌, ◌&&◌, not, List, [], ◌++◌, codes, Contains}
use Rattle.std.specs.List.{flat_map}
use Rattle.sw_rules.specs.declared.Refusal.{Refusal}
use Rattle.sw_rules.specs.declared.Rule.TheVariants.{N5, N6}
use Rattle.sw_findings.specs.Found.{Has, when}
use Rattle.sw_sight.specs.InSight.{Text, same}
use Rattle.sw_tree.specs.declared.decl.Tree.{Tree}
use Rattle.sw_tree.specs.declared.decl.Typealias.{Typealias}
use Rattle.sw_tree.specs.declared.decl.Decl.{Decl}
use Rattle.sw_tree.specs.declared.decl.Decl.TheVariants as d
use Rattle.sw_tree.specs.declared.decl.Member.{Member}
use Rattle.sw_tree.specs.declared.decl.Member.TheVariants as m
use Rattle.sw_tree.specs.declared.decl.EnumItem.{EnumItem}
use Rattle.sw_tree.specs.declared.decl.EnumItem.TheVariants as item
use Rattle.sw_declared.specs.Declarations.{declarations, members_in, is_distributed, is_node_system}
use Rattle.sw_scope.specs.Around.{Around}
use Rattle.sw_scope.specs.Rules.{Breaks}
use Rattle.sw_events.specs.Parts.{Part, parts_of}
use Rattle.sw_names.specs.Keys.{Repeats, inner_keys, built_in_keys, file_keys}

-- ---- aliases and imports

abbrev pub is_module : Text → Bool
is_module x = same (codes "Distributed") x || (same (codes "Swift") x || same (codes "_Concurrency") x)

-- N6: an import names another module; at `import`
abbrev pub import_breaks : Decl → List Refusal
import_breaks (d.Import at name) = when (not (is_module name.text)) N6 at
import_breaks decl = []

-- N5: an alias that may not stand there, or has another name or another target than it must have there; at `typealias`
abbrev pub alias_breaks : Bool → Text → Typealias → List Refusal
alias_breaks may_stand name x = when (not (may_stand && (same name x.name.text && is_node_system x.target))) N5 x.span

-- in a distributed actor `typealias ActorSystem = NodeSystem` may stand, and nothing in another type
abbrev pub member_breaks : Bool → Member → List Refusal
member_breaks distributed (m.Typealias x) = alias_breaks distributed (codes "ActorSystem") x
member_breaks distributed member = []

abbrev pub item_breaks : EnumItem → List Refusal
item_breaks (item.Cases cases) = []
item_breaks (item.Member x) = member_breaks false x

-- in a file `typealias DefaultDistributedActorSystem = NodeSystem` may stand
abbrev pub aliases_break : Decl → List Refusal
aliases_break (d.Typealias x) = alias_breaks true (codes "DefaultDistributedActorSystem") x
aliases_break (d.Struct heading members) = flat_map (member_breaks false) members
aliases_break (d.Enum heading items) = flat_map item_breaks items
aliases_break (d.Actor heading members) = flat_map (member_breaks (is_distributed heading)) members
aliases_break decl = []

-- ---- the pass

-- what a part of a declaration sees
abbrev pub around_of : Tree → Decl → Part → Around
around_of tree decl part = record { names = declarations tree; own = members_in decl; has_instance = part.has_instance }

-- N1 to N4, in a part of a declaration
abbrev pub BreaksInside : Tree → Decl → Refusal → Type 0
BreaksInside tree decl refusal =
    (part : Part) × Contains (parts_of decl) part × Breaks (around_of tree decl part) part.events refusal

-- The rules of names that a tree breaks, each with its place: in a declaration, among what it declares, by an alias or an
-- import, or among the declarations of the file.
abbrev pub Refuses : Tree → Refusal → Type 0
Refuses tree refusal =
    ((decl : Decl) × Contains tree.decls decl
    × (BreaksInside tree decl refusal
    ⊎ (Repeats (built_in_keys decl) (inner_keys decl) refusal
    ⊎ Has (aliases_break decl ++ import_breaks decl) refusal)))
    ⊎ Repeats [] (flat_map file_keys tree.decls) refusal
