-- Machinery, for private contracts alone: what the code knows of a source after the gaps and tokens that it has cut so far,
-- and after all of them.
use Rattle.std.specs.Prelude.{◌≡◌, ◌≤◌, ◌<◌, ℕ, ◌+◌, ◌-◌, if◌then◌else◌, ◌==◌, List, [], ◌∷◌, ◌++◌, take, drop, length, Option, Some, None, IfSome}
use Rattle.std.specs.Str.Lossy.{utf8_valid_len}
use Rattle.sw_base.specs.declared.ids.Span.{Span}
use Rattle.sw_rules.specs.declared.Rule.{Rule}
use Rattle.sw_lex.specs.declared.token.TokenKind.TheVariants as k
use Rattle.sw_lex.specs.declared.lexemes.Lexeme.{Lexeme}
use Rattle.sw_lex.specs.declared.places.Spot.{Spot}
use Rattle.sw_lex.specs.declared.emit.TokenWriter.{TokenWriter}
use Rattle.sw_lex.specs.declared.scan.Scan.{Scan}
use Rattle.sw_lex.specs.Bytes.{Text}
use Rattle.sw_lex.specs.Characters.{IsFirstBad}
use Rattle.sw_lex.specs.Lexemes.{size_of, IsStop}
use Rattle.sw_lex.specs.Matching.{first_lexeme}
use Rattle.sw_lex.specs.Cut.{Opens, Cut, closes, is_inside, total}
use Rattle.sw_lex.specs.Tokens.{here_after, moved, origin, place_at, start, token_at}
use Rattle.sw_lex.specs.Emitted.{emission, emitted}
use Rattle.sw_lex.specs.FirstBroken.{Found, is_too_large, large_at, stop_at}

-- ---- places

-- neither the line nor the column is further from the first than so many bytes
abbrev pub IsNear : ℕ → Span → Type 0
IsNear at place = (place.line ≤ 1 + at) × (place.column ≤ 1 + at)

-- the byte at this offset stands at this place
abbrev pub IsSpot : Text → Spot → Type 0
IsSpot source spot = spot.place ≡ place_at source spot.at

-- one column after the last of so many bytes, if there is one
abbrev pub end_of : ℕ → Span → Span
end_of size last = if size == 0 then origin else record { line = last.line; column = last.column + 1 }

-- ---- what the code keeps, and how it goes on

-- before the first gap or token
abbrev pub new_writer : TokenWriter
new_writer = record { tokens = []; here = start; last = origin }

abbrev pub nothing_cut : Scan
nothing_cut = record { at = 0; opens = []; outer = record { at = 0; place = origin }; bad = None; large = None; emitted = new_writer }

-- after the gap or token that begins with these bytes
abbrev pub writer_after : TokenWriter → Text → Lexeme → TokenWriter
writer_after so_far bytes item = record {
  tokens = so_far.tokens ++ emission so_far.here bytes item;
  here = here_after so_far.here bytes item;
  last = moved so_far.here.place (take (size_of item - 1) bytes);
}

-- where the outermost string begins that is open after what begins here, if one is
abbrev pub outermost : Opens → Spot → Spot → Spot
outermost opens outer here = if is_inside opens then outer else here

-- the first integer that is too large, where it was found before or begins here
abbrev pub first_large : Option Spot → Text → Lexeme → Spot → Option Spot
first_large None bytes item here = if is_too_large bytes item then Some here else None
first_large (Some spot) bytes item here = Some spot

-- where it goes on
abbrev pub here : Scan → Spot
here scan = record { at = scan.at; place = scan.emitted.here.place }

-- what begins there
abbrev pub next : Scan → Text → Lexeme
next scan source = first_lexeme (is_inside scan.opens) (closes scan.opens) (utf8_valid_len source - scan.at) (drop scan.at source)

-- ---- what is known

-- the offset of what was found, else of what is found later
abbrev pub or_later : Option Spot → Option ℕ → Option ℕ
or_later None later = later
or_later (Some spot) later = Some spot.at

-- a broken rule by its offset alone
abbrev pub by_offset : Option (Rule × Spot) → Found
by_offset None = None
by_offset (Some found) = Some (found.0, found.1.at)

-- where a cut stops, if it stops here
abbrev pub stop_of : Scan → ℕ
stop_of scan = if is_inside scan.opens then scan.outer.at else scan.at

-- the places of what was met so far
pub record ArePlaces (source : Text) (scan : Scan) : Type 0 where
  pub here : scan.emitted.here.place ≡ place_at source scan.at
  pub last : 0 < scan.at → scan.emitted.last ≡ place_at source (scan.at - 1)
  pub outer : IsSpot source scan.outer
  pub bad : IfSome scan.bad (IsSpot source)
  pub large : IfSome scan.large (IsSpot source)

-- The source begins with these gaps and tokens, and what is kept goes on as it would from its start.
pub record Known (source : Text) (scan : Scan) : Type 0 where
  pub items : List Lexeme
  pub cut : (later : List Lexeme) (stop : Lexeme) → Cut scan.opens (utf8_valid_len source - scan.at) (drop scan.at source) later stop → Cut [] (utf8_valid_len source) source (items ++ later) stop
  pub ends : total items ≡ scan.at
  pub inside : scan.at ≤ length source
  pub prefix : IsFirstBad source scan.at scan.bad
  pub stop : (later : List Lexeme) → stop_at scan.at scan.outer.at scan.opens later ≡ stop_at 0 0 [] (items ++ later)
  pub large : (later : List Lexeme) → or_later scan.large (large_at scan.at (drop scan.at source) later) ≡ large_at 0 source (items ++ later)
  pub emitted : (end : Span) (later : List Lexeme) → scan.emitted.tokens ++ emitted end scan.emitted.here (drop scan.at source) later ≡ emitted end start source (items ++ later)
  pub places : ArePlaces source scan

-- The source is cut into these gaps and tokens, and this is what is kept of all of them.
pub record Scanned (source : Text) (scan : Scan) (stop : Lexeme) : Type 0 where
  pub items : List Lexeme
  pub cut : Cut [] (utf8_valid_len source) source items stop
  pub stopped : IsStop stop
  pub ends : total items ≡ scan.at
  pub inside : scan.at ≤ length source
  pub prefix : IsFirstBad source scan.at scan.bad
  pub stop_place : stop_of scan ≡ stop_at 0 0 [] items
  pub large : or_later scan.large None ≡ large_at 0 source items
  pub emitted : (end : Span) → scan.emitted.tokens ++ token_at end scan.emitted.here k.End [] ∷ [] ≡ emitted end start source items
  pub places : ArePlaces source scan
