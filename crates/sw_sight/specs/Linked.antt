-- How the marks of a sight and the levels of names agree. No public clause cites this module.
use Rattle.std.specs.Prelude.{◌≡◌, ℕ, zero, suc, Bool, cond, Option, Some, None, List, [], ◌∷◌, map}
use Rattle.sw_sight.specs.InSight.{Text, Sight, same}
use Rattle.sw_sight.specs.Levels.{Entries, level, IsKnown}
use Rattle.sw_sight.specs.declared.sight.Local.{Local}
use Rattle.sw_sight.specs.declared.sight.Sight.TheInside.{Inside}

abbrev pub Marks : Type 0
Marks = List (Option Local)

abbrev pub word_of : Option Local → Option Text
word_of None = None
word_of (Some local) = Some local.name

abbrev pub words_of : Marks → Sight
words_of = map word_of

-- how many scopes begin
unfoldable pub scopes : Marks → ℕ
scopes [] = zero
scopes (None ∷ marks) = suc (scopes marks)
scopes (Some local ∷ marks) = scopes marks

-- one more than the scopes in which the name was bound last; 0 where it is not bound
unfoldable pub level_of : Text → Marks → ℕ
level_of x [] = zero
level_of x (None ∷ marks) = level_of x marks
level_of x (Some local ∷ marks) = cond (same x local.name) (suc (scopes marks)) (level_of x marks)

-- each mark keeps the level that it hides, and of each name a number is kept
unfoldable pub AreLinked : Entries → Marks → Type 0
AreLinked entries [] = Unit {0}
AreLinked entries (None ∷ marks) = AreLinked entries marks
AreLinked entries (Some local ∷ marks) = (local.hidden ≡ level_of local.name marks) × IsKnown local.name entries × AreLinked entries marks

pub record IsLinked (sight : Inside) : Type 0 where
  pub depth : sight.depth ≡ scopes sight.marks
  pub levels : (x : Text) → level x sight.levels ≡ level_of x sight.marks
  pub linked : AreLinked sight.levels sight.marks
