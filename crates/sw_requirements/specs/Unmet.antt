-- T2: a requirement is not met; at the name of the type. It is one refusal, however many requirements are not met.
use Rattle.std.specs.Prelude.{ℕ, ◌+◌, ◌-◌, Bool, not, cond, nat_eq, Option, Some, None, List, [], ◌∷◌, slice_get}
use Rattle.std.specs.List.{flat_map, list_all}
use Rattle.sw_base.specs.declared.ids.TypeNo.{TypeNo}
use Rattle.sw_rules.specs.declared.Refusal.{Refusal}
use Rattle.sw_rules.specs.declared.Rule.TheVariants.{T2}
use Rattle.sw_findings.specs.Found.{when}
use Rattle.sw_tree.specs.declared.decl.Decl.{Decl}
use Rattle.sw_tree.specs.declared.decl.Decl.TheVariants as d
use Rattle.sw_tree.specs.declared.decl.Member.{Member as TreeMember}
use Rattle.sw_tree.specs.declared.decl.Member.TheVariants as m
use Rattle.sw_tree.specs.declared.decl.EnumItem.{EnumItem}
use Rattle.sw_tree.specs.declared.decl.EnumItem.TheVariants as item
use Rattle.sw_declared.specs.declared.names.Member.{Member}
use Rattle.sw_declared.specs.declared.names.Names.{Names}
use Rattle.sw_type_table.specs.declared.entry.Signature.{Signature}
use Rattle.sw_type_table.specs.declared.entry.Requirement.{Requirement}
use Rattle.sw_type_table.specs.declared.entry.TypeEntry.{TypeEntry}
use Rattle.sw_type_table.specs.Table.{signature}
use Rattle.sw_members.specs.declared.declaration.Declaration.{Declaration}
use Rattle.sw_typing.specs.Facts.{members_of}
use Rattle.sw_typing.specs.declared.facts.Facts.{Facts}
use Rattle.sw_requirements.specs.Met.{is_met}

-- ---- the funcs that a type writes

abbrev pub member_signatures : Names → List Member → TreeMember → List Signature
member_signatures names own (m.Stored x) = []
member_signatures names own (m.Computed x) = []
member_signatures names own (m.Func x) = signature names own x.signature ∷ []
member_signatures names own (m.Initializer x) = []
member_signatures names own (m.Typealias x) = []

abbrev pub item_signatures : Names → List Member → EnumItem → List Signature
item_signatures names own (item.Cases cases) = []
item_signatures names own (item.Member x) = member_signatures names own x

abbrev pub signatures : Names → List Member → Decl → List Signature
signatures names own (d.Import at name) = []
signatures names own (d.Typealias x) = []
signatures names own (d.Struct heading members) = flat_map (member_signatures names own) members
signatures names own (d.Enum heading items) = flat_map (item_signatures names own) items
signatures names own (d.Protocol heading requirements) = []
signatures names own (d.Actor heading members) = []
signatures names own (d.Func x) = []

-- ---- what is required of a type

abbrev pub requirements_of : Option TypeEntry → List Requirement
requirements_of None = []
requirements_of (Some entry) = entry.requirements

-- The number 0 is that of `DistributedCallError`, which requires nothing; the protocol with the number n has the entry n - 1.
abbrev pub requirements_at : List TypeEntry → TypeNo → List Requirement
requirements_at table number = cond (nat_eq number.0 0) [] (requirements_of (slice_get table (number.0 - 1)))

-- the declared protocols after the `:`
abbrev pub protocols_of : Option TypeEntry → List TypeNo
protocols_of None = []
protocols_of (Some entry) = entry.protocols

-- all that these protocols require is met
abbrev pub meets_all : List TypeEntry → List Signature → List Declaration → List TypeNo → Bool
meets_all table funcs members protocols = list_all (λ number. list_all (is_met funcs members) (requirements_at table number)) protocols

-- ---- the rule

-- A type before which so many stand has the number after that, so that its entry is at that place, and what is known of it one later.
abbrev pub is_unmet : Names → List Member → List TypeEntry → Facts → ℕ → Decl → Bool
is_unmet names own table known before decl =
    not (meets_all table (signatures names own decl) (members_of (slice_get known.types (before + 1))) (protocols_of (slice_get table before)))

-- Only structs and enums conform to declared protocols: on an actor, another rule is broken.
abbrev pub unmet_broken : Names → List Member → List TypeEntry → Facts → ℕ → Decl → List Refusal
unmet_broken names own table known before (d.Import at name) = []
unmet_broken names own table known before (d.Typealias x) = []
unmet_broken names own table known before (d.Struct heading members) =
    when (is_unmet names own table known before (d.Struct heading members)) T2 heading.name.span
unmet_broken names own table known before (d.Enum heading items) =
    when (is_unmet names own table known before (d.Enum heading items)) T2 heading.name.span
unmet_broken names own table known before (d.Protocol heading requirements) = []
unmet_broken names own table known before (d.Actor heading members) = []
unmet_broken names own table known before (d.Func x) = []
