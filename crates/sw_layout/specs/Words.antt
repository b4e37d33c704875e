-- Words, each with what stands before it; the text of a list of words; and the tokens that the list is.
use Rattle.std.specs.Prelude.{ℕ, Bool, true, false, if◌then◌else◌, ◌==◌, ◌||◌, List, [], ◌∷◌, ◌++◌, map, codes}
use Rattle.sw_base.specs.declared.ids.Span.{Span}
use Rattle.sw_lex.specs.declared.token.TokenKind.{TokenKind}
use Rattle.sw_lex.specs.declared.token.TokenKind.TheVariants as k
use Rattle.sw_lex.specs.declared.token.Token.{Token}
use Rattle.sw_lex.specs.Bytes.{Text, tab, line_feed, carriage_return, space, quote, right_paren, backslash}
use Rattle.sw_lex.specs.Lexemes.{opening}
pub use Rattle.sw_lex.specs.Tables.{fixed}
use Rattle.sw_layout.specs.declared.gap.Gap.{Gap}
use Rattle.sw_layout.specs.declared.gap.Gap.TheVariants as gap

-- a word: its kind and its text are those of the token that it is, a string's text what its piece stands for
pub record Word : Type 0 where
  pub kind : TokenKind
  pub text : Text
  pub gap : Gap

-- ---- the text

-- the bytes before a word
abbrev pub gap_text : Gap → Text
gap_text gap.Start = []
gap_text gap.Line = line_feed ∷ []
gap_text gap.Space = space ∷ []
gap_text gap.Joined = []

-- A byte of a string as it is written: those that have an escape of their own by it, any other as it is.
abbrev pub escape : ℕ → Text
escape byte =
    if byte == line_feed then codes "\\n"
    else (if byte == carriage_return then codes "\\r"
    else (if byte == tab then codes "\\t"
    else (if byte == 0 then codes "\\0"
    else (if byte == quote || byte == backslash then backslash ∷ byte ∷ []
    else byte ∷ []))))

abbrev pub escapes : Text → Text
escapes [] = []
escapes (byte ∷ bytes) = escape byte ++ escapes bytes

-- how a token of this kind with this text is spelt
abbrev pub spelling : TokenKind → Text → Text
spelling k.StringWhole text = quote ∷ (escapes text ++ quote ∷ [])
spelling k.StringStart text = quote ∷ (escapes text ++ opening)
spelling k.StringMiddle text = right_paren ∷ (escapes text ++ opening)
spelling k.StringLast text = right_paren ∷ (escapes text ++ quote ∷ [])
spelling kind text = text

-- the bytes of a list of words
abbrev pub words_text : List Word → Text
words_text [] = []
words_text (word ∷ words) = gap_text word.gap ++ (spelling word.kind word.text ++ words_text words)

-- the text of a whole layout: the last of its lines is ended
abbrev pub page_text : List Word → Text
page_text [] = []
page_text (word ∷ words) = words_text (word ∷ words) ++ line_feed ∷ []

-- a reserved word, a lone `_` or a mark
abbrev pub plain : TokenKind → Gap → Word
plain kind before = record { kind = kind; text = fixed kind; gap = before }

-- ---- the tokens

abbrev pub is_first : Gap → Bool
is_first gap.Start = true
is_first gap.Line = true
is_first gap = false

abbrev pub is_joined : Gap → Bool
is_joined gap.Joined = true
is_joined gap = false

abbrev pub is_spaced : Gap → Bool
is_spaced gap.Line = true
is_spaced gap.Space = true
is_spaced gap = false

-- the place that stands for all
abbrev pub nowhere : Span
nowhere = record { line = 0; column = 0 }

-- a token without its place
abbrev pub unplaced : Token → Token
unplaced token = record {
  kind = token.kind;
  text = token.text;
  span = nowhere;
  first_on_line = token.first_on_line;
  touches = token.touches;
  after_space = token.after_space;
}

-- the token that a word is, without a place
abbrev pub token_of : Word → Token
token_of word = record {
  kind = word.kind;
  text = word.text;
  span = nowhere;
  first_on_line = is_first word.gap;
  touches = is_joined word.gap;
  after_space = is_spaced word.gap;
}

-- the token for the end, after a list of words: it stands on the line of the last one, which is ended
abbrev pub end_after : List Word → Token
end_after [] = record { kind = k.End; text = []; span = nowhere; first_on_line = true; touches = false; after_space = false }
end_after (word ∷ words) = record { kind = k.End; text = []; span = nowhere; first_on_line = false; touches = false; after_space = true }

-- the tokens of a whole layout, without their places
abbrev pub page_tokens : List Word → List Token
page_tokens words = map token_of words ++ end_after words ∷ []
