-- The rules that a source breaks before it is parsed, each at its place.
use Rattle.std.specs.Prelude.{◌≡◌, ◌≤◌, ◌<◌, ℕ, ◌+◌, ◌-◌, ◌*◌, true, false, if◌then◌else◌, ◌==◌, List, [], ◌∷◌, take, drop, length}
use Rattle.std.specs.Str.{IsValidUpTo}
use Rattle.sw_base.specs.Limits.{greatest_integer, longest_source}
use Rattle.sw_rules.specs.declared.Rule.{Rule}
use Rattle.sw_rules.specs.declared.Rule.TheVariants.{L1, L2, L3, L4, L5}
use Rattle.sw_rules.specs.declared.Refusal.{Refusal}
use Rattle.sw_rules.specs.Pass.{RefusesNone}
use Rattle.sw_lex.specs.declared.token.TokenKind.TheVariants as k
use Rattle.sw_lex.specs.declared.lexemes.Lexeme.{Lexeme}
use Rattle.sw_lex.specs.declared.lexemes.Lexeme.TheVariants.{Token, Malformed, Unterminated}
use Rattle.sw_lex.specs.Bytes.{Text, underscore}
use Rattle.sw_lex.specs.Cut.{CutOf, StandsAt, total, is_open_after}
use Rattle.sw_lex.specs.Tokens.{place_at}

-- The offset at which a cut into these gaps and tokens stops; or, where it stops inside of strings, the offset at which
-- the outermost of them begins. The first `count` gaps and tokens end at this offset. No string is open after them, and
-- one is open after any more; so where no string is open at the end, `count` is all of them.
pub record IsStopOffset (items : List Lexeme) (at : ℕ) : Type 0 where
  pub count : ℕ
  pub within : count ≤ length items
  pub ends : total (take count items) ≡ at
  pub outside : is_open_after items count ≡ false
  pub inside : (more : ℕ) → count < more → more ≤ length items → is_open_after items more ≡ true

-- the number of these digits after those of `number`
abbrev pub number : ℕ → Text → ℕ
number so_far [] = so_far
number so_far (byte ∷ bytes) = number (if byte == underscore then so_far else so_far * 10 + (byte - 48)) bytes

-- a cut of the source stops so, and this is its place
abbrev pub StopsAt : Text → Lexeme → ℕ → Type 0
StopsAt source stop at = (whole : CutOf source) × (whole.stop ≡ stop) × IsStopOffset whole.items at

-- an integer above the greatest stands at this offset in a cut of the source
abbrev pub HasTooLarge : Text → ℕ → Type 0
HasTooLarge source at =
    (whole : CutOf source) × (size : ℕ) × StandsAt whole.items at (Token k.Integer size) × (greatest_integer < number 0 (take size (drop at source)))

-- The source breaks the rule at an offset.
-- L1: a byte is not UTF-8: the first `at` bytes are UTF-8, and no longer prefix is.
-- L2: the cut stops at what is malformed: no token, or a string with a malformed piece. Where it stops inside of
-- strings, the outermost of them breaks the rule, at its first byte.
-- L3: the cut stops at what is not terminated: a string or a comment. Where it stops inside of strings, likewise.
-- L4: an integer is above the greatest.
-- L5: the source has more than 1,048,576 bytes. It breaks the rule at its first byte.
abbrev pub Breaks : Text → Rule → ℕ → Type 0
Breaks source L1 at = IsValidUpTo source at
Breaks source L2 at = StopsAt source Malformed at
Breaks source L3 at = StopsAt source Unterminated at
Breaks source L4 at = HasTooLarge source at
Breaks source L5 at = (at ≡ 0) × (longest_source < length source)
Breaks source rule at = ⊥

-- the pass over tokens: the source breaks the rule at the place
abbrev pub Refuses : Text → Refusal → Type 0
Refuses source refusal = (at : ℕ) × Breaks source refusal.rule at × (refusal.span ≡ place_at source at)

-- the source breaks none of these rules
abbrev pub BreaksNone : Text → Type 0
BreaksNone source = RefusesNone (Refuses source)
