-- A layout is a list of words whose text is cut into these words again: the text of each is of its kind, and each stands
-- apart from its neighbours.
use Rattle.std.specs.Prelude.{◌≡◌, ◌≢◌, ◌≤◌, ◌⊎◌, Bool, true, false, List, [], ◌∷◌, Option, Some, None}
use Rattle.std.specs.List.{list_all}
use Rattle.std.specs.Str.{IsUtf8}
use Rattle.sw_base.specs.Limits.{greatest_integer}
use Rattle.sw_lex.specs.declared.bytes.Class.TheVariants as class
use Rattle.sw_lex.specs.declared.token.TokenKind.{TokenKind}
use Rattle.sw_lex.specs.declared.token.TokenKind.TheVariants as k
use Rattle.sw_lex.specs.Bytes.{Text, is_in}
use Rattle.sw_lex.specs.Tables.{words, marks, kind_of_word, IsListed}
use Rattle.sw_lex.specs.Rules.{number}
use Rattle.sw_lex.specs.Cut.{Opens, is_inside, closes, after_kind}
use Rattle.sw_layout.specs.declared.gap.Gap.TheVariants as gap
use Rattle.sw_layout.specs.Words.{Word}

-- ---- one word

-- a letter or `_`, then letters, digits and `_`: a name, a reserved word or a lone `_`
abbrev pub IsWord : TokenKind → Text → Type 0
IsWord kind [] = ⊥
IsWord kind (byte ∷ bytes) = (is_in class.NameStart byte ≡ true) × (list_all (is_in class.Name) bytes ≡ true) × (kind ≡ kind_of_word (byte ∷ bytes))

-- a digit, then digits and `_`
abbrev pub IsDigits : Text → Type 0
IsDigits [] = ⊥
IsDigits (byte ∷ bytes) = (is_in class.Digit byte ≡ true) × (list_all (is_in class.Integer) bytes ≡ true)

-- a token of this kind may have this text; the end is no word
abbrev pub Fits : TokenKind → Text → Type 0
Fits k.Integer text = IsDigits text
Fits k.StringWhole text = IsUtf8 text
Fits k.StringStart text = IsUtf8 text
Fits k.StringMiddle text = IsUtf8 text
Fits k.StringLast text = IsUtf8 text
Fits kind text = IsWord kind text ⊎ IsListed marks text kind

-- ---- two words

-- A word of the second kind may touch one of the first: neither is taken for a part of the other, and the two for no
-- other token. Not every such pair is listed here.
abbrev pub may_touch : TokenKind → TokenKind → Bool
may_touch k.Dot k.Dot = false
may_touch k.Question k.Question = false
may_touch kind k.Dot = true
may_touch kind k.LeftParen = true
may_touch kind k.LeftBracket = true
may_touch kind k.Bang = true
may_touch kind k.Question = true
may_touch kind k.StringMiddle = true
may_touch kind k.StringLast = true
may_touch k.Dot k.Name = true
may_touch k.StringStart kind = true
may_touch k.StringMiddle kind = true
may_touch k.Minus k.Greater = false
may_touch k.Minus k.GreaterEqual = false
may_touch k.Minus k.Assign = false
may_touch k.Minus k.EqualEqual = false
may_touch k.Minus kind = true
may_touch first kind = false

-- the word stands apart from the one before it, or may touch it; a layout begins with the first
abbrev pub StandsApart : Option TokenKind → Word → Type 0
StandsApart None word = word.gap ≡ gap.Start
StandsApart (Some kind) word = (word.gap ≡ gap.Line) ⊎ (word.gap ≡ gap.Space) ⊎ ((word.gap ≡ gap.Joined) × (may_touch kind word.kind ≡ true))

-- ---- words within a string

-- what goes on with a string, after an expression in it
abbrev pub is_resumed : TokenKind → Bool
is_resumed k.StringMiddle = true
is_resumed k.StringLast = true
is_resumed kind = false

-- Within a string no line ends. A string goes on where the `\(` is closed, and a `)` by itself closes none.
abbrev pub StandsWithin : Opens → Word → Type 0
StandsWithin opens word =
    (is_inside opens ≡ true → word.gap ≢ gap.Line)
    × (is_resumed word.kind ≡ true → closes opens ≡ true)
    × (word.kind ≡ k.RightParen → closes opens ≡ false)

-- ---- layouts

-- after a word of this kind, where these brackets are open within a string
abbrev pub Stand : Opens → Option TokenKind → List Word → Type 0
Stand opens last [] = opens ≡ []
Stand opens last (word ∷ words) =
    Fits word.kind word.text × StandsApart last word × StandsWithin opens word × Stand (after_kind opens word.kind) (Some word.kind) words

abbrev pub IsLaidOut : List Word → Type 0
IsLaidOut = Stand [] None

-- each integer is one that a literal holds
abbrev pub AreIntegersFit : List Word → Type 0
AreIntegersFit [] = Unit {0}
AreIntegersFit (word ∷ words) = (word.kind ≡ k.Integer → number 0 word.text ≤ greatest_integer) × AreIntegersFit words
