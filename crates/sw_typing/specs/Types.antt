-- Types: when two are the same, and what stands under their marks.
use Rattle.std.specs.Prelude.{Bool, true, false, ◌&&◌, Option, Some, None, List, [], ◌∷◌, nat_eq}
use Rattle.sw_value.specs.declared.ty.Mark.{Mark}
use Rattle.sw_value.specs.declared.ty.Mark.TheVariants as mark
use Rattle.sw_value.specs.declared.ty.Base.{Base}
use Rattle.sw_value.specs.declared.ty.Base.TheVariants as base
use Rattle.sw_value.specs.declared.ty.Ty.{Ty}

abbrev pub ty : List Mark → Base → Ty
ty marks b = record { marks = marks; base = b }

-- a type that no mark surrounds
abbrev pub bare : Base → Ty
bare b = ty [] b

abbrev pub optional : Ty → Ty
optional t = ty (mark.Optional ∷ t.marks) t.base

abbrev pub array : Ty → Ty
array t = ty (mark.Array ∷ t.marks) t.base

-- ---- the same type

unfoldable pub same_mark : Mark → Mark → Bool
same_mark mark.Array mark.Array = true
same_mark mark.Optional mark.Optional = true
same_mark m n = false

unfoldable pub same_marks : List Mark → List Mark → Bool
same_marks [] [] = true
same_marks (m ∷ ms) (n ∷ ns) = same_mark m n && same_marks ms ns
same_marks ms ns = false

unfoldable pub same_base : Base → Base → Bool
same_base base.Int base.Int = true
same_base base.Bool base.Bool = true
same_base base.Str base.Str = true
same_base base.Void base.Void = true
same_base base.Id base.Id = true
same_base base.System base.System = true
same_base base.AnyError base.AnyError = true
same_base (base.Struct a) (base.Struct b) = nat_eq a.0 b.0
same_base (base.Enum a) (base.Enum b) = nat_eq a.0 b.0
same_base (base.Plain a) (base.Plain b) = nat_eq a.0 b.0
same_base (base.Distributed a) (base.Distributed b) = nat_eq a.0 b.0
same_base (base.Any a) (base.Any b) = nat_eq a.0 b.0
same_base a b = false

unfoldable pub same_type : Ty → Ty → Bool
same_type t u = same_base t.base u.base && same_marks t.marks u.marks

-- ---- under the marks

abbrev pub under_optional : List Mark → Base → Option Ty
under_optional [] b = None
under_optional (mark.Optional ∷ ms) b = Some (ty ms b)
under_optional (mark.Array ∷ ms) b = None

-- what an optional wraps
unfoldable pub wrapped : Ty → Option Ty
wrapped t = under_optional t.marks t.base

abbrev pub under_array : List Mark → Base → Option Ty
under_array [] b = None
under_array (mark.Array ∷ ms) b = Some (ty ms b)
under_array (mark.Optional ∷ ms) b = None

-- the element of an array
unfoldable pub element : Ty → Option Ty
element t = under_array t.marks t.base

abbrev pub past_optionals : List Mark → List Mark
past_optionals [] = []
past_optionals (mark.Optional ∷ ms) = past_optionals ms
past_optionals (mark.Array ∷ ms) = mark.Array ∷ ms

-- without the `?` outside
unfoldable pub stripped : Ty → Ty
stripped t = ty (past_optionals t.marks) t.base
