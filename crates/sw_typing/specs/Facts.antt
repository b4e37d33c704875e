-- What is known of types: their members, what they conform to, which values can be compared and printed.
use Rattle.std.specs.Prelude.{Bool, true, false, Option, Some, None, List, [], ◌∷◌, nat_eq, slice_get}
use Rattle.std.specs.List.{list_any}
use Rattle.sw_base.specs.declared.ids.TypeNo.{TypeNo}
use Rattle.sw_value.specs.declared.ty.Mark.{Mark}
use Rattle.sw_value.specs.declared.ty.Mark.TheVariants as mark
use Rattle.sw_value.specs.declared.ty.Base.{Base}
use Rattle.sw_value.specs.declared.ty.Base.TheVariants as base
use Rattle.sw_value.specs.declared.ty.Ty.{Ty}
use Rattle.sw_members.specs.declared.declaration.Declaration.{Declaration}
use Rattle.sw_typing.specs.declared.facts.TypeFacts.{TypeFacts}
use Rattle.sw_typing.specs.declared.facts.Facts.{Facts}

-- what is known of the type of this number, where it is declared
abbrev pub facts_of : Facts → TypeNo → Option TypeFacts
facts_of known number = slice_get known.types number.0

-- it is declared, and has this
unfoldable pub has : (TypeFacts → Bool) → Option TypeFacts → Bool
has test None = false
has test (Some facts) = test facts

-- ---- members

unfoldable pub members_of : Option TypeFacts → List Declaration
members_of None = []
members_of (Some facts) = facts.members

-- Of a type that no mark surrounds. A value that is `any` of a protocol has what the protocol requires.
unfoldable pub base_members : Facts → Base → List Declaration
base_members known base.Int = known.of_int
base_members known base.Bool = []
base_members known base.Str = known.of_string
base_members known base.Void = []
base_members known base.Id = known.of_id
base_members known base.System = known.of_system
base_members known (base.Struct number) = members_of (facts_of known number)
base_members known (base.Enum number) = members_of (facts_of known number)
base_members known (base.Plain number) = members_of (facts_of known number)
base_members known (base.Distributed number) = members_of (facts_of known number)
base_members known (base.Any number) = members_of (facts_of known number)
base_members known base.AnyError = []

abbrev pub marked_members : Facts → List Mark → Base → List Declaration
marked_members known [] b = base_members known b
marked_members known (mark.Array ∷ ms) b = known.of_array
marked_members known (mark.Optional ∷ ms) b = []

unfoldable pub members : Facts → Ty → List Declaration
members known t = marked_members known t.marks t.base

-- ---- conformances

abbrev pub is_listed : TypeNo → List TypeNo → Bool
is_listed number numbers = list_any (λ n. nat_eq n.0 number.0) numbers

-- A struct or an enum conforms to a protocol that stands after its `:`, and an enum to `Error`.
unfoldable pub conforms_base : Facts → Base → Base → Bool
conforms_base known (base.Struct number) (base.Any p) = has (λ facts. is_listed p facts.protocols) (facts_of known number)
conforms_base known (base.Enum number) (base.Any p) = has (λ facts. is_listed p facts.protocols) (facts_of known number)
conforms_base known (base.Enum number) base.AnyError = has (λ facts. facts.is_error) (facts_of known number)
conforms_base known a b = false

abbrev pub conforms_marked : Facts → List Mark → Base → Base → Bool
conforms_marked known [] a b = conforms_base known a b
conforms_marked known (m ∷ ms) a b = false

-- a type conforms to what `any` stands before
unfoldable pub conforms : Facts → Ty → Base → Bool
conforms known t b = conforms_marked known t.marks t.base b

-- ---- what can be compared, and what can be printed

unfoldable pub is_equatable_base : Facts → Base → Bool
is_equatable_base known base.Int = true
is_equatable_base known base.Bool = true
is_equatable_base known base.Str = true
is_equatable_base known base.Id = true
is_equatable_base known (base.Struct number) = has (λ facts. facts.is_equatable) (facts_of known number)
is_equatable_base known (base.Enum number) = has (λ facts. facts.is_equatable) (facts_of known number)
is_equatable_base known b = false

abbrev pub is_equatable_marked : Facts → List Mark → Base → Bool
is_equatable_marked known [] b = is_equatable_base known b
is_equatable_marked known (mark.Optional ∷ ms) b = is_equatable_marked known ms b
is_equatable_marked known (mark.Array ∷ ms) b = false

-- the optionals of what `==` compares too
unfoldable pub is_equatable : Facts → Ty → Bool
is_equatable known t = is_equatable_marked known t.marks t.base

unfoldable pub is_printable_base : Facts → Base → Bool
is_printable_base known base.Int = true
is_printable_base known base.Bool = true
is_printable_base known base.Str = true
is_printable_base known (base.Enum number) = has (λ facts. facts.is_printable) (facts_of known number)
is_printable_base known b = false

abbrev pub is_printable_marked : Facts → List Mark → Base → Bool
is_printable_marked known [] b = is_printable_base known b
is_printable_marked known (m ∷ ms) b = false

unfoldable pub is_printable : Facts → Ty → Bool
is_printable known t = is_printable_marked known t.marks t.base
