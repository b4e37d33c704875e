-- A list of declarations of which one is given another type.
use Rattle.std.specs.Prelude.{ℕ, zero, suc, Some, List, [], ◌∷◌}
use Rattle.sw_value.specs.declared.ty.Ty.{Ty}
use Rattle.sw_members.specs.declared.declaration.Declaration.{Declaration}

-- the same declaration with this type
abbrev pub with_type : Ty → Declaration → Declaration
with_type t d = record {
  name = d.name;
  labels = d.labels;
  is_static = d.is_static;
  entity = d.entity;
  takes = d.takes;
  gives = Some t;
  is_mutating = d.is_mutating;
  is_var = d.is_var;
}

-- the declaration at an index has this type; past the end nothing changes
unfoldable pub given_at : ℕ → Ty → List Declaration → List Declaration
given_at n t [] = []
given_at zero t (d ∷ ds) = with_type t d ∷ ds
given_at (suc n) t (d ∷ ds) = d ∷ given_at n t ds
