-- How the marks of variables and the places of names agree. No public clause cites this module.
use Rattle.std.specs.Prelude.{◌≡◌, ℕ, zero, suc, cond, Option, Some, None, List, [], ◌∷◌, map, length}
use Rattle.sw_sight.specs.InSight.{Text, same}
use Rattle.sw_sight.specs.Levels.{Entries, level, IsKnown}
use Rattle.sw_locals.specs.InBody.{Scopes}
use Rattle.sw_locals.specs.declared.local.Local.{Local}
use Rattle.sw_locals.specs.declared.locals.Mark.{Mark}
use Rattle.sw_locals.specs.declared.locals.Locals.TheInside.{Inside}

-- the newest first
abbrev pub Marks : Type 0
Marks = List (Option Mark)

abbrev pub local_of : Option Mark → Option Local
local_of None = None
local_of (Some mark) = Some mark.local

abbrev pub locals_of : Marks → Scopes
locals_of = map local_of

-- the place, from the oldest, of the mark that bound the name last; 0 where it is not bound
unfoldable pub place_of : Text → Marks → ℕ
place_of x [] = zero
place_of x (None ∷ marks) = place_of x marks
place_of x (Some mark ∷ marks) = cond (same x mark.local.name) (suc (length marks)) (place_of x marks)

-- each mark keeps the place that it hides, and of each name that is bound a number is kept
unfoldable pub AreLinked : Entries → Marks → Type 0
AreLinked entries [] = Unit {0}
AreLinked entries (None ∷ marks) = AreLinked entries marks
AreLinked entries (Some mark ∷ marks) = (mark.hidden ≡ place_of mark.local.name marks) × IsKnown mark.local.name entries × AreLinked entries marks

pub record IsLinked (locals : Inside) : Type 0 where
  pub places : (x : Text) → level x locals.places ≡ place_of x locals.marks
  pub linked : AreLinked locals.places locals.marks
