-- What a place needs of the type of an expression, and what it tells of the type that `nil`, `[]` and `.name` take.
use Rattle.std.specs.Prelude.{Bool, true, false, cond, Option, Some, None, is_none, List, [], ◌∷◌}
use Rattle.std.specs.Option.{option_and_then, option_map}
use Rattle.sw_value.specs.declared.ty.Mark.{Mark}
use Rattle.sw_value.specs.declared.ty.Base.{Base}
use Rattle.sw_value.specs.declared.ty.Base.TheVariants as base
use Rattle.sw_value.specs.declared.ty.Ty.{Ty}
use Rattle.sw_typing.specs.declared.need.Need.{Need}
use Rattle.sw_typing.specs.declared.need.Need.TheVariants.{Free, Lost, Like, Needed}
use Rattle.sw_typing.specs.Types.{element, stripped, wrapped}

-- the type that the place tells of
unfoldable pub wanted : Need → Option Ty
wanted Free = None
wanted Lost = None
wanted (Like t) = Some t
wanted (Needed t) = Some t

-- A type is needed that is not there, so that nothing is broken by its want.
unfoldable pub is_lost : Need → Bool
is_lost Free = false
is_lost Lost = true
is_lost (Like t) = false
is_lost (Needed t) = false

-- this type is needed, where it is there
unfoldable pub needing : Option Ty → Need
needing None = Lost
needing (Some t) = Needed t

-- the type of the other operand is taken, where it is there
unfoldable pub like : Option Ty → Need
like None = Lost
like (Some t) = Like t

unfoldable pub or_itself : Ty → Option Ty → Ty
or_itself t None = t
or_itself t (Some u) = u

-- what an optional wraps, and of another type itself
unfoldable pub less_optional : Ty → Ty
less_optional t = or_itself t (wrapped t)

-- ---- what `nil`, `.name` and `[ ]` take

-- `.name` is looked for in a type that has a name.
unfoldable pub is_named_base : Base → Bool
is_named_base base.Void = false
is_named_base (base.Any number) = false
is_named_base base.AnyError = false
is_named_base b = true

abbrev pub is_named_marked : List Mark → Base → Bool
is_named_marked [] b = is_named_base b
is_named_marked (m ∷ ms) b = false

abbrev pub if_named : Ty → Option Ty
if_named t = cond (is_named_marked t.marks t.base) (Some t) None

-- the type in which `.name` is looked for
unfoldable pub implicit_wanted : Need → Option Ty
implicit_wanted n = option_and_then (λ t. if_named (stripped t)) (wanted n)

-- the type of the elements of `[ ]`
unfoldable pub element_wanted : Need → Option Ty
element_wanted n = option_and_then (λ t. element (stripped t)) (wanted n)

-- the type of `nil`
unfoldable pub nil_wanted : Need → Option Ty
nil_wanted n = option_and_then (λ t. option_map (λ u. t) (wrapped t)) (wanted n)

-- ---- what the parts of an expression need

-- Within `try?` no type is needed.
unfoldable pub within_try : Need → Need
within_try Free = Free
within_try Lost = Lost
within_try (Like t) = Free
within_try (Needed t) = Free

-- The first branch of a ternary stands at a place of its own.
unfoldable pub first_branch : Need → Need
first_branch Free = Free
first_branch Lost = Lost
first_branch (Like t) = Free
first_branch (Needed t) = Needed t

-- Where no type is needed, that of the first branch is needed of the second.
unfoldable pub second_branch : Need → Option Ty → Need
second_branch Free first = needing first
second_branch Lost first = Lost
second_branch (Like t) first = needing first
second_branch (Needed t) first = Needed t

-- The first element of an array needs the type that the place tells of.
unfoldable pub first_element : Need → Option Ty → Need
first_element n None = cond (is_lost n) Lost Free
first_element n (Some t) = Needed t

-- Where it tells of none, that of the first element is needed of the others.
unfoldable pub other_element : Option Ty → Option Ty → Need
other_element None first = needing first
other_element (Some t) first = Needed t

-- An index is an `Int`, where it stands behind an array.
unfoldable pub index_need : Option Ty → Need
index_need None = Lost
index_need (Some t) = cond (is_none (element t)) Lost (Needed (record { marks = []; base = base.Int }))
