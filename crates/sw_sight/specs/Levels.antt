-- Numbers kept by name. The contracts of `Levels` cite this module.
use Rattle.std.specs.Prelude.{◌≡◌, ℕ, Bool, List, map, Option, None, Some, is_some, true}
use Rattle.std.specs.Option.{unwrap_or}
use Rattle.std.specs.Map.{lookup}
use Rattle.sw_sight.specs.InSight.{Text, same}

abbrev pub Entries : Type 0
Entries = List (Text × ℕ)

-- the number of a name, 0 where none is kept
unfoldable pub level : Text → Entries → ℕ
level x entries = unwrap_or (lookup (same x) entries) 0

-- a number is kept for the name
unfoldable pub IsKnown : Text → Entries → Type 0
IsKnown x entries = is_some (lookup (same x) entries) ≡ true
