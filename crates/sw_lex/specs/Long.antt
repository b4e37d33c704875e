-- Machinery, for private contracts alone: what the code knows of a source that is too long. Such a source breaks a rule at
-- its first byte, so that it is cut no further than up to where no string is open that begins there.
use Rattle.std.specs.Prelude.{◌≡◌, ◌≤◌, ◌<◌, ℕ, ◌-◌, Bool, true, false, List, [], ◌++◌, take, drop, length, Some}
use Rattle.std.specs.Str.{IsUtf8}
use Rattle.std.specs.Str.Lossy.{utf8_valid_len}
use Rattle.sw_rules.specs.declared.Rule.{Rule}
use Rattle.sw_rules.specs.declared.Rule.TheVariants.{L2, L3}
use Rattle.sw_lex.specs.declared.lexemes.Lexeme.{Lexeme}
use Rattle.sw_lex.specs.declared.lexemes.Lexeme.TheVariants.{Malformed}
use Rattle.sw_lex.specs.declared.long.Prefix.{Prefix}
use Rattle.sw_lex.specs.Bytes.{Text}
use Rattle.sw_lex.specs.Matching.{first_lexeme}
use Rattle.sw_lex.specs.Cut.{Cut, closes, is_inside}
use Rattle.sw_lex.specs.Rules.{Breaks}
use Rattle.sw_lex.specs.FirstBroken.{Found, IsFirst, stop_at}

-- a rule, found at the first byte
abbrev pub at_start : Rule → Found
at_start rule = Some (rule, 0)

-- the source breaks the rule at its first byte, and no rule before it
abbrev pub IsFirstAtStart : Text → Rule → Type 0
IsFirstAtStart source rule = IsFirst (Breaks source) (at_start rule)

-- the rule that is broken where the cut stops so
abbrev pub rule_of_stop : Lexeme → Rule
rule_of_stop Malformed = L2
rule_of_stop stop = L3

-- the first so many bytes are characters, or not all of them are
abbrev pub AreCharacters : Text → ℕ → Bool → Type 0
AreCharacters source at true = IsUtf8 (take at source)
AreCharacters source at false = utf8_valid_len source < at

-- before the first gap or token
abbrev pub empty_prefix : Prefix
empty_prefix = record { at = 0; opens = []; valid_so_far = true }

-- what begins after the gaps and tokens that are cut
abbrev pub next : Prefix → Text → Lexeme
next prefix source = first_lexeme (is_inside prefix.opens) (closes prefix.opens) (utf8_valid_len source - prefix.at) (drop prefix.at source)

-- A cut that stops here stops at the first byte: a string is open that begins there, or nothing is cut yet.
abbrev pub StopsAtStart : Prefix → Type 0
StopsAtStart prefix = is_inside prefix.opens ≡ false → prefix.at ≡ 0

-- The source begins with these gaps and tokens. A cut stops where it would from its start.
pub record Known (source : Text) (prefix : Prefix) : Type 0 where
  pub items : List Lexeme
  pub cut : (later : List Lexeme) (stop : Lexeme) → Cut prefix.opens (utf8_valid_len source - prefix.at) (drop prefix.at source) later stop → Cut [] (utf8_valid_len source) source (items ++ later) stop
  pub stop : (later : List Lexeme) → stop_at prefix.at 0 prefix.opens later ≡ stop_at 0 0 [] (items ++ later)
  pub inside : prefix.at ≤ length source
  pub characters : AreCharacters source prefix.at prefix.valid_so_far
