use Rattle.std.proofs.Common.{◌≡◌, ℕ, List, Bool, true, false, sym, refl}
use Rattle.std.specs.Str.{IsUtf8, is_utf8}
use Rattle.std.proofs.lemmas.Str.{is_utf8-from_IsUtf8, IsUtf8-from_is_utf8}
use Rattle.sw_value.proofs.fitting.is_utf8.Goals as goal

pub returns-in-Ok : goal.returns-in-Ok
returns-in-Ok c = sym (is_utf8-from_IsUtf8 _ c.in-Ok.ensures.cases.1)

not_text : (bs : List ℕ) (t : Bool) → is_utf8 bs ≡ t → (IsUtf8 bs → ⊥) → false ≡ t
not_text bs true e h = absurd (h (IsUtf8-from_is_utf8 bs e))
not_text bs false e h = refl

pub returns-in-Err : goal.returns-in-Err
returns-in-Err c = not_text _ _ refl c.in-Err.ensures.cases.0
