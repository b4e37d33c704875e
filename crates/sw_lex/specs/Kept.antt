-- Machinery, for private contracts and the view of a list of tokens: the tokens that are kept with the numbers of their texts.
use Rattle.std.specs.Prelude.{◌≡◌, ◌<◌, List, [], ◌∷◌, ◌++◌, map, length, slice_index_or}
use Rattle.sw_lex.specs.declared.token.Token.{Token}
use Rattle.sw_lex.specs.declared.kept.Entry.{Entry}
use Rattle.sw_lex.specs.Bytes.{Text}

-- the token that is kept, with its text found among these
abbrev pub token_in : List Text → Entry → Token
token_in texts entry = record {
  text = slice_index_or texts entry.text [];
  span = entry.span;
  kind = entry.kind;
  first_on_line = entry.first_on_line;
  touches = entry.touches;
  after_space = entry.after_space;
}

abbrev pub tokens_in : List Text → List Entry → List Token
tokens_in texts entries = map (token_in texts) entries

-- each text is among these
abbrev pub AreKept : List Text → List Entry → Type 0
AreKept texts [] = Unit {0}
AreKept texts (entry ∷ entries) = (entry.text < length texts) × AreKept texts entries

-- the texts, and perhaps more after them
abbrev pub IsGrown : List Text → List Text → Type 0
IsGrown old new = (more : List Text) × (new ≡ old ++ more)
