-- The names in sight as a list, the one bound last first, and what the list tells. None stands for where a scope begins.
use Rattle.std.specs.Prelude.{ℕ, Bool, true, false, ◌||◌, Option, Some, None, List, [], ◌∷◌, nat_eq}
use Rattle.std.specs.Cmp.Lexicographic.{pointwise}

abbrev pub Text : Type 0
Text = List ℕ

unfoldable pub same : Text → Text → Bool
same a b = pointwise nat_eq a b

abbrev pub Sight : Type 0
Sight = List (Option Text)

-- without the innermost scope
unfoldable pub closed : Sight → Sight
closed [] = []
closed (None ∷ sight) = sight
closed (Some x ∷ sight) = closed sight

unfoldable pub in_sight : Text → Sight → Bool
in_sight x [] = false
in_sight x (None ∷ sight) = in_sight x sight
in_sight x (Some y ∷ sight) = same y x || in_sight x sight

-- in the innermost scope
unfoldable pub in_scope : Text → Sight → Bool
in_scope x [] = false
in_scope x (None ∷ sight) = false
in_scope x (Some y ∷ sight) = same y x || in_scope x sight
