-- What the operands are while a func is lowered, and the variables among them.
use Rattle.std.specs.Prelude.{ℕ, nat_eq, List, ◌++◌, Some, None, Bool, false, map, slice_get}
use Rattle.std.specs.Cmp.Lexicographic.{pointwise}
use Rattle.std.specs.Option.{option_map_or}
use Rattle.sw_job.specs.declared.value.Ty.{Ty}
use Rattle.sw_thin.specs.Lowering.{Scope, Vars}

-- so many parts, and below them the variables in sight
abbrev pub scope_of : List Ty → Vars → Scope
scope_of parts vars = map (λ t. None) parts ++ map (λ v. Some v.0) vars

-- the variable with this index among those in sight has the name
abbrev pub is_named_at : List ℕ → Vars → ℕ → Bool
is_named_at x vars at = option_map_or (λ v. pointwise nat_eq x v.0) (slice_get vars at) false
