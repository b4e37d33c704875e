-- Comments from `/*` to their `*/`, which nest.
use Rattle.std.specs.Prelude.{◌≡◌, ℕ, Bool, false, ◌&&◌, ◌||◌, ◌==◌, ◌∷◌, slice_index}
use Rattle.sw_lex.specs.Bytes.{Text, star, slash}

-- whether `/*` or `*/` begins with this byte and these
abbrev pub is_comment_mark : ℕ → Text → Bool
is_comment_mark byte bytes = (byte == slash && slice_index bytes 0 == star) || (byte == star && slice_index bytes 0 == slash)

-- The bytes after a `/*` are the comment's inside, its `*/`, and then the `rest`. The inside is a sequence of bytes at
-- which no mark begins, and of whole comments.
pub data Closes : Text → Text → Type 0 where
  ends : {rest : Text} → Closes (star ∷ slash ∷ rest) rest
  passes : {byte : ℕ} {bytes rest : Text} → is_comment_mark byte bytes ≡ false → Closes bytes rest → Closes (byte ∷ bytes) rest
  nests : {bytes more rest : Text} → Closes bytes more → Closes more rest → Closes (slash ∷ star ∷ bytes) rest
