-- T8 of counts: a type has more than 255 members, an enum more than 255 cases, a payload more than 255 parts, or a func, an
-- initialiser or a requirement more than 255 parameters; at the first too many.
use Rattle.std.specs.Prelude.{ℕ, Option, Some, None, List, [], ◌∷◌, ◌++◌, slice_get}
use Rattle.std.specs.Option.{option_map}
use Rattle.std.specs.List.{flat_map}
use Rattle.sw_base.specs.declared.ids.Span.{Span}
use Rattle.sw_rules.specs.declared.Refusal.{Refusal}
use Rattle.sw_rules.specs.declared.Rule.TheVariants.{T8}
use Rattle.sw_tree.specs.declared.expr.Name.{Name}
use Rattle.sw_tree.specs.declared.types.«Type».{«Type» as TypeTree, fold-Type}
use Rattle.sw_tree.specs.declared.types.«Type».TheOpen.{Type-F}
use Rattle.sw_tree.specs.declared.decl.Parameter.{Parameter}
use Rattle.sw_tree.specs.declared.decl.Payload.{Payload}
use Rattle.sw_tree.specs.declared.decl.Case.{Case}
use Rattle.sw_tree.specs.declared.decl.Member.{Member}
use Rattle.sw_tree.specs.declared.decl.Member.TheVariants as m
use Rattle.sw_tree.specs.declared.decl.EnumItem.{EnumItem}
use Rattle.sw_tree.specs.declared.decl.EnumItem.TheVariants as item
use Rattle.sw_tree.specs.declared.decl.Requirement.{Requirement}
use Rattle.sw_tree.specs.declared.decl.Requirement.TheVariants as r
use Rattle.sw_tree.specs.declared.decl.Decl.{Decl}
use Rattle.sw_tree.specs.declared.decl.Decl.TheVariants as d
use Rattle.sw_type_table.specs.Table.{payload}

-- the most members, cases, parts and parameters
abbrev pub most : ℕ
most = 255

abbrev pub refused_at : Option Span → List Refusal
refused_at None = []
refused_at (Some at) = record { rule = T8; span = at } ∷ []

-- at the place of the first of these that is too many
abbrev pub too_many : {A : Type 0} → (A → Span) → List A → List Refusal
too_many place xs = refused_at (option_map place (slice_get xs most))

-- ---- places

-- of the first token of a type
abbrev pub token_level : Type-F Span → Span
token_level (Type-F.Name name) = name.span
token_level (Type-F.Member outer name) = outer.span
token_level (Type-F.Array at element) = at
token_level (Type-F.Any at name) = at
token_level (Type-F.Void at) = at
token_level (Type-F.Optional wrapped) = wrapped

unfoldable pub first_token : TypeTree → Span
first_token = fold-Type Span token_level

-- of a part of a payload its first token
abbrev pub part_place : Payload → Option Name → Span
part_place x None = first_token x.declared
part_place x (Some label) = label.span

-- of a parameter its inner name
abbrev pub parameter_place : Parameter → Span
parameter_place x = x.name.span

abbrev pub case_place : Case → Span
case_place x = x.name.span

-- of a member its name, and of an initialiser `init`
abbrev pub member_place : Member → Span
member_place (m.Stored x) = x.name.span
member_place (m.Computed x) = x.name.span
member_place (m.Func x) = x.signature.name.span
member_place (m.Initializer x) = x.span
member_place (m.Typealias x) = x.name.span

abbrev pub requirement_place : Requirement → Span
requirement_place (r.Func x) = x.name.span
requirement_place (r.Property name declared) = name.span

-- ---- the lists

abbrev pub parameters_counted : List Parameter → List Refusal
parameters_counted = too_many parameter_place

abbrev pub case_counted : Case → List Refusal
case_counted x = too_many (λ p. part_place p p.label) (payload x.payload)

-- within a member
abbrev pub member_counted : Member → List Refusal
member_counted (m.Stored x) = []
member_counted (m.Computed x) = []
member_counted (m.Func x) = parameters_counted x.signature.parameters
member_counted (m.Initializer x) = parameters_counted x.parameters
member_counted (m.Typealias x) = []

abbrev pub item_counted : EnumItem → List Refusal
item_counted (item.Cases cases) = flat_map case_counted cases
item_counted (item.Member x) = member_counted x

abbrev pub requirement_counted : Requirement → List Refusal
requirement_counted (r.Func x) = parameters_counted x.parameters
requirement_counted (r.Property name declared) = []

-- Cases are counted apart from members, over all `case` lines.
abbrev pub cases_in : EnumItem → List Case
cases_in (item.Cases cases) = cases
cases_in (item.Member x) = []

abbrev pub members_in : EnumItem → List Member
members_in (item.Cases cases) = []
members_in (item.Member x) = x ∷ []

abbrev pub counts_broken : Decl → List Refusal
counts_broken (d.Import at name) = []
counts_broken (d.Typealias x) = []
counts_broken (d.Struct heading members) = too_many member_place members ++ flat_map member_counted members
counts_broken (d.Enum heading items) =
    too_many member_place (flat_map members_in items) ++ (too_many case_place (flat_map cases_in items) ++ flat_map item_counted items)
counts_broken (d.Protocol heading requirements) = too_many requirement_place requirements ++ flat_map requirement_counted requirements
counts_broken (d.Actor heading members) = too_many member_place members ++ flat_map member_counted members
counts_broken (d.Func x) = parameters_counted x.signature.parameters
