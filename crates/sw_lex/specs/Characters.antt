-- Machinery, for private contracts alone: how many bytes are characters, where the code has looked at those so far.
use Rattle.std.specs.Prelude.{◌≡◌, ◌<◌, ◌≤◌, ◌⊎◌, ℕ, ◌-◌, Bool, if◌then◌else◌, take, length, slice_index, Option, Some, None}
use Rattle.std.specs.Str.{IsUtf8, IsValidUpTo}
use Rattle.std.specs.Str.Lossy.{utf8_valid_len}
use Rattle.sw_lex.specs.declared.places.Spot.{Spot}
use Rattle.sw_lex.specs.Bytes.{Text}

-- how many bytes from here on are characters, where all before are or not
abbrev pub valid_ahead : Bool → Text → ℕ
valid_ahead valid_so_far bytes = if valid_so_far then utf8_valid_len bytes else 0

-- No character goes on over the end of the first so many bytes: no byte follows, or one of ASCII does, or the last is one.
abbrev pub IsBoundary : Text → ℕ → Type 0
IsBoundary bytes size = (size ≡ length bytes) ⊎ ((size < length bytes) × (slice_index bytes size < 128)) ⊎ ((1 ≤ size) × (slice_index bytes (size - 1) < 128))

-- the first so many bytes are characters, or the first byte that is no part of one is found among them
abbrev pub IsFirstBad : Text → ℕ → Option Spot → Type 0
IsFirstBad source at None = IsUtf8 (take at source)
IsFirstBad source at (Some spot) = IsValidUpTo source spot.at × (spot.at < at)
