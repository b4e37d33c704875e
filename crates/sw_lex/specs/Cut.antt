-- The cut of a source into gaps and tokens.
use Rattle.std.specs.Prelude.{◌≡◌, ◌<◌, ◌⊎◌, ℕ, ◌+◌, ◌-◌, Bool, true, false, not, if◌then◌else◌, ◌==◌, List, [], ◌∷◌, ◌++◌, take, drop, length}
use Rattle.std.specs.Str.{IsUtf8, IsValidUpTo}
use Rattle.sw_lex.specs.declared.token.TokenKind.{TokenKind}
use Rattle.sw_lex.specs.declared.token.TokenKind.TheVariants as k
use Rattle.sw_lex.specs.declared.lexemes.Lexeme.{Lexeme}
use Rattle.sw_lex.specs.declared.lexemes.Lexeme.TheVariants.{Token}
use Rattle.sw_lex.specs.Bytes.{Text}
use Rattle.sw_lex.specs.Lexemes.{BeginsWith, size_of, IsStop}

-- the brackets that are open within the outermost string, the innermost first; `\(` is true
abbrev pub Opens : Type 0
Opens = List Bool

-- whether a string is open
abbrev pub is_inside : Opens → Bool
is_inside opens = not (length opens == 0)

-- whether `)` closes a `\(`
abbrev pub closes : Opens → Bool
closes [] = false
closes (bracket ∷ opens) = bracket

-- the brackets that are open after a token
abbrev pub after_kind : Opens → TokenKind → Opens
after_kind opens k.StringStart = true ∷ opens
after_kind opens k.StringLast = drop 1 opens
after_kind opens k.LeftParen = if is_inside opens then false ∷ opens else opens
after_kind opens k.RightParen = drop 1 opens
after_kind opens kind = opens

abbrev pub after : Opens → Lexeme → Opens
after opens (Token kind size) = after_kind opens kind
after opens lexeme = opens

-- The bytes are cut into these gaps and tokens: each is what begins where the one before it ends, and after the last
-- stands what is no gap and no token.
abbrev pub Cut : Opens → ℕ → Text → List Lexeme → Lexeme → Type 0
Cut opens valid bytes [] stop = BeginsWith (is_inside opens) (closes opens) valid bytes stop × IsStop stop
Cut opens valid bytes (item ∷ items) stop =
    BeginsWith (is_inside opens) (closes opens) valid bytes item
    × (0 < size_of item)
    × Cut (after opens item) (valid - size_of item) (drop (size_of item) bytes) items stop

-- the first so many bytes are characters (they are UTF-8), and no more are
abbrev pub IsValidPrefix : Text → ℕ → Type 0
IsValidPrefix source valid = ((valid ≡ length source) × IsUtf8 source) ⊎ IsValidUpTo source valid

-- a cut of a source
pub record CutOf (source : Text) : Type 0 where
  pub valid : ℕ
  pub items : List Lexeme
  pub stop : Lexeme
  pub prefix : IsValidPrefix source valid
  pub cut : Cut [] valid source items stop

-- how many bytes the gaps and tokens have
abbrev pub total : List Lexeme → ℕ
total [] = 0
total (item ∷ items) = size_of item + total items

-- the brackets that are open after these
abbrev pub open_after : Opens → List Lexeme → Opens
open_after opens [] = opens
open_after opens (item ∷ items) = open_after (after opens item) items

-- whether a string is open after the first so many
abbrev pub is_open_after : List Lexeme → ℕ → Bool
is_open_after items count = is_inside (open_after [] (take count items))

-- this gap or token is one of these, and stands at the offset where those before it end
pub record StandsAt (items : List Lexeme) (at : ℕ) (item : Lexeme) : Type 0 where
  pub before : List Lexeme
  pub following : List Lexeme
  pub split : items ≡ before ++ item ∷ following
  pub ends : total before ≡ at
