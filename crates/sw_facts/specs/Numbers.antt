-- Lists whose elements are numbered, or take numbers, one after another.
use Rattle.sw_base.specs.declared.ids.TypeNo.{TypeNo}
use Rattle.std.specs.Prelude.{ℕ, ◌+◌, List, [], ◌∷◌, ◌++◌, length}

-- what is made of each, with its number; the first has this one
unfoldable pub numbered : {A B : Type 0} → (ℕ → A → B) → ℕ → List A → List B
numbered make n [] = []
numbered make n (x ∷ xs) = make n x ∷ numbered make (n + 1) xs

-- what is made of each, with the first number that it takes: as many as it has of something
unfoldable pub counted : {A B C : Type 0} → (A → List C) → (ℕ → A → List B) → ℕ → List A → List B
counted takes make n [] = []
counted takes make n (x ∷ xs) = make n x ++ counted takes make (n + length (takes x)) xs

-- How many numbers the funcs of a type take does not depend on its own number.
abbrev pub any_owner : TypeNo
any_owner = record { 0 = 0 }
