-- The variables in sight in a body as a list, the one bound last first. None stands for where a scope begins.
use Rattle.std.specs.Prelude.{cond, Option, Some, None, List, [], ◌∷◌}
use Rattle.sw_sight.specs.InSight.{Text, same}
use Rattle.sw_locals.specs.declared.local.Local.{Local}

abbrev pub Scopes : Type 0
Scopes = List (Option Local)

-- without the innermost scope
unfoldable pub closed : Scopes → Scopes
closed [] = []
closed (None ∷ scopes) = scopes
closed (Some local ∷ scopes) = closed scopes

-- the variable of this name that was bound last
unfoldable pub local_named : Text → Scopes → Option Local
local_named x [] = None
local_named x (None ∷ scopes) = local_named x scopes
local_named x (Some local ∷ scopes) = cond (same local.name x) (Some local) (local_named x scopes)
