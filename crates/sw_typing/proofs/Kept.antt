-- What has the needed type is not converted.
use Rattle.std.proofs.Common.{◌≡◌, true, List, [], ◌∷◌, refl}
use Rattle.sw_value.specs.declared.ty.Mark.{Mark}
use Rattle.sw_value.specs.declared.ty.Mark.TheVariants as mark
use Rattle.sw_value.specs.declared.ty.Base.{Base}
use Rattle.sw_value.specs.declared.ty.Ty.{Ty}
use Rattle.sw_typed.specs.declared.expr.Typed.{Typed}
use Rattle.sw_typing.specs.Types.{ty, same_type}
use Rattle.sw_typing.specs.Conversions.{converted}

pub same_is_kept : (t : Ty) (ms : List Mark) (b : Base) (e : Typed) → same_type t (ty ms b) ≡ true → converted t ms b e ≡ e
unfolding converted
same_is_kept t [] b e same = rw same
same_is_kept t (mark.Array ∷ ms) b e same = refl
same_is_kept t (mark.Optional ∷ ms) b e same = rw same
