-- Conversions at a place with a needed type: from a type to its optional, to `any` of a protocol, and to `any Error`.
use Rattle.std.specs.Prelude.{Bool, false, ◌||◌, not, cond, Option, Some, None, List, [], ◌∷◌}
use Rattle.sw_base.specs.declared.ids.Span.{Span}
use Rattle.sw_rules.specs.declared.Refusal.{Refusal}
use Rattle.sw_rules.specs.declared.Rule.TheVariants as rule
use Rattle.sw_findings.specs.Found.{when}
use Rattle.sw_value.specs.declared.ty.Mark.{Mark}
use Rattle.sw_value.specs.declared.ty.Mark.TheVariants as mark
use Rattle.sw_value.specs.declared.ty.Base.{Base}
use Rattle.sw_value.specs.declared.ty.Ty.{Ty}
use Rattle.sw_typed.specs.declared.expr.Typed.{Typed}
use Rattle.sw_typed.specs.declared.expr.Form.{Form}
use Rattle.sw_typed.specs.declared.expr.Form.TheVariants as form
use Rattle.sw_typing.specs.declared.need.Need.{Need}
use Rattle.sw_typing.specs.declared.need.Need.TheVariants.{Free, Lost, Like, Needed}
use Rattle.sw_typing.specs.declared.facts.Facts.{Facts}
use Rattle.sw_typing.specs.Types.{ty, bare, same_type}
use Rattle.sw_typing.specs.Facts.{conforms}

abbrev pub typed : Option Ty → Span → Form → Typed
typed t first f = record { ty = t; first = first; form = f }

-- the same expression, as one without a type
abbrev pub untyped : Typed → Typed
untyped e = typed None e.first e.form

-- A value of the type t is converted to these marks round the base, as often as it takes.
unfoldable pub converts : Facts → Ty → List Mark → Base → Bool
converts known t [] b = same_type t (bare b) || conforms known t b
converts known t (mark.Array ∷ ms) b = same_type t (ty (mark.Array ∷ ms) b)
converts known t (mark.Optional ∷ ms) b = same_type t (ty (mark.Optional ∷ ms) b) || converts known t ms b

-- what an expression of the type t is converted to there
unfoldable pub converted : Ty → List Mark → Base → Typed → Typed
converted t [] b e = cond (same_type t (bare b)) e (typed (Some (bare b)) e.first (form.Erase e))
converted t (mark.Array ∷ ms) b e = e
converted t (mark.Optional ∷ ms) b e =
    cond (same_type t (ty (mark.Optional ∷ ms) b)) e
    (typed (Some (ty (mark.Optional ∷ ms) b)) e.first (form.Present (converted t ms b e)))

-- ---- what stands at a place, of an expression by itself

-- with the type that is needed, or without one
unfoldable pub at_needed : Facts → Ty → Option Ty → Typed → Typed
at_needed known needed None e = e
at_needed known needed (Some t) e =
    cond (converts known t needed.marks needed.base) (converted t needed.marks needed.base e) (untyped e)

-- with the type of the other operand, where it is one that it wraps
unfoldable pub at_like : Facts → Ty → Option Ty → Typed → Typed
at_like known other None e = e
at_like known other (Some t) e =
    cond (converts known t other.marks other.base) (converted t other.marks other.base e) e

unfoldable pub fitted : Facts → Need → Typed → Typed
fitted known Free e = e
fitted known Lost e = e
fitted known (Like t) e = at_like known t e.ty e
fitted known (Needed t) e = at_needed known t e.ty e

unfoldable pub is_unfit_type : Facts → Ty → Option Ty → Bool
is_unfit_type known needed None = false
is_unfit_type known needed (Some t) = not (converts known t needed.marks needed.base)

-- it has a type, and not the one that is needed
unfoldable pub is_unfit : Facts → Need → Typed → Bool
is_unfit known Free e = false
is_unfit known Lost e = false
is_unfit known (Like t) e = false
is_unfit known (Needed t) e = is_unfit_type known t e.ty

-- E1: the type is not the needed one; at the first token of the whole expression.
abbrev pub e1 : Facts → Need → Span → Typed → List Refusal
e1 known n at e = when (is_unfit known n e) rule.E1 at
