-- What becomes of a scope while its declarations are met, one after another. Machinery: no public contract names it.
use Rattle.std.specs.Prelude.{◌≡◌, Bool, List, [], ◌∷◌, ◌++◌, nat_lt}
use Rattle.std.specs.List.{list_any}
use Rattle.sw_rules.specs.declared.Refusal.{Refusal}
use Rattle.sw_rules.specs.declared.Rule.TheVariants.{N1}
use Rattle.sw_findings.specs.Found.{when, keep_all}
use Rattle.sw_sight.specs.InSight.{Text, same}
use Rattle.sw_sight.specs.Levels.{Entries, level}
use Rattle.sw_declared.specs.Spelling.{spelled}
use Rattle.sw_names.specs.Keys.{Key, same_key}
use Rattle.sw_names.specs.declared.meeting.Scope.{Scope}

-- N1 at each key that is one of the known ones, or of those before it
unfoldable pub repeats : List Key → List Key → List Refusal
repeats known [] = []
repeats known (key ∷ keys) = when (list_any (same_key key) known) N1 key.at ++ repeats (known ++ key ∷ []) keys

-- a spelling was met: a number above 0 is kept for it
unfoldable pub is_met : Text → Entries → Bool
is_met x entries = nat_lt 0 (level x entries)

abbrev pub spelling : Key → Text
spelling key = spelled key.name key.labels

-- the spellings that were met are those of these keys
unfoldable pub AreMet : List Key → Entries → Type 0
AreMet keys entries = (x : Text) → is_met x entries ≡ list_any (λ key. same x (spelling key)) keys

-- these keys are met in the scope, whichever were met before
pub record Meets (keys : List Key) (old new : Scope) : Type 0 where
  pub met : (before : List Key) → AreMet before old.met → AreMet (before ++ keys) new.met
  pub found : (before : List Key) → AreMet before old.met → new.found ≡ keep_all old.found (repeats before keys)
