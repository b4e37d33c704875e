-- The keys of declarations, and the places of the first that have them. No public clause cites this module.
use Rattle.std.specs.Prelude.{◌≡◌, ℕ, zero, suc, Bool, true, false, ◌&&◌, cond, Option, Some, None, is_none, is_some, List, [], ◌∷◌, ◌++◌, slice_get}
use Rattle.std.specs.List.{list_any}
use Rattle.sw_sight.specs.InSight.{Text, same}
use Rattle.sw_sight.specs.Levels.{Entries, level, IsKnown}
use Rattle.sw_declared.specs.Members.{Called}
use Rattle.sw_declared.specs.Spelling.{spelled}
use Rattle.sw_members.specs.Found.{is_named}
use Rattle.sw_members.specs.declared.declaration.Declaration.{Declaration}
use Rattle.sw_members.specs.declared.declaration.Side.{Side}
use Rattle.sw_members.specs.declared.declaration.Side.TheVariants.{Both, Static, Instance}
use Rattle.sw_members.specs.declared.keys.Question.{Question}
use Rattle.sw_members.specs.declared.keys.Question.TheVariants.{Named, Callable, Value}

-- ---- questions about a name

unfoldable pub fits : Question → Called → Bool
fits Named labels = true
fits Callable labels = is_some labels
fits Value labels = is_none labels

abbrev pub answers : Question → Side → Text → Declaration → Bool
answers question side x d = is_named side x d && fits question d.labels

-- ---- keys

unfoldable pub question_code : Question → ℕ
question_code Named = 0
question_code Callable = 1
question_code Value = 2

-- of calls, whose text is the spelling of a name and labels
abbrev pub call_code : ℕ
call_code = 3

unfoldable pub side_code : Side → ℕ
side_code Both = 0
side_code Static = 1
side_code Instance = 2

abbrev pub key : ℕ → Side → Text → Text
key code side text = code ∷ side_code side ∷ text

unfoldable pub side_of : Bool → Side
side_of true = Static
side_of false = Instance

-- what is on a side is found there and on both
abbrev pub keys_on : ℕ → Side → Text → List Text
keys_on code own text = key code Both text ∷ key code own text ∷ []

unfoldable pub keys_by_labels : Side → Text → Called → List Text
keys_by_labels own name None = keys_on (question_code Value) own name
keys_by_labels own name (Some labels) = keys_on (question_code Callable) own name ++ keys_on call_code own (spelled name labels)

abbrev pub keys_of : Declaration → List Text
keys_of d = keys_on (question_code Named) (side_of d.is_static) d.name ++ keys_by_labels (side_of d.is_static) d.name d.labels

abbrev pub has_key : Text → Declaration → Bool
has_key x d = list_any (same x) (keys_of d)

-- ---- places

-- the number of what is one place later, where it is there
unfoldable pub one_later : ℕ → ℕ
one_later zero = zero
one_later (suc n) = suc (suc n)

-- the place, from 1, of the first that passes; 0 where none does
unfoldable pub place : {A : Type 0} → (A → Bool) → List A → ℕ
place p [] = zero
place p (x ∷ xs) = cond (p x) (suc zero) (one_later (place p xs))

unfoldable pub at_place : {A : Type 0} → ℕ → List A → Option A
at_place zero items = None
at_place (suc n) items = slice_get items n

-- the number of each key is the place of the first that has it
abbrev pub IsKeyed : List Declaration → Entries → Type 0
IsKeyed items firsts = (x : Text) → level x firsts ≡ place (has_key x) items

-- a number is kept for each of the keys
abbrev pub AreKnown : List Text → Entries → Type 0
AreKnown keys firsts = (x : Text) → list_any (same x) keys ≡ true → IsKnown x firsts
