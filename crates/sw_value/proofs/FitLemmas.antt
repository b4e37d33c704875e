-- Lists of parts against lists of types.
use Rattle.std.proofs.Common.{◌≡◌, suc, Bool, true, false, ◌&&◌, List, [], ◌∷◌, length, refl, ap}
use Rattle.sw_value.specs.declared.ty.Ty.{Ty}
use Rattle.sw_value.specs.Fits.{Test, parts_fit}

and_false : (x y : Bool) → y ≡ false → (x && y) ≡ false
and_false true y h = h
and_false false y h = refl

-- lists of different lengths do not fit
pub other_count : (fs : List Test) (ts : List Ty) → (length fs ≡ length ts → ⊥) → parts_fit fs ts ≡ false
other_count [] [] h = absurd (h refl)
other_count [] (t ∷ ts) h = refl
other_count (f ∷ fs) [] h = refl
other_count (f ∷ fs) (t ∷ ts) h = and_false (f t.marks t.base) (parts_fit fs ts) (other_count fs ts (λ e. h (ap suc e)))
