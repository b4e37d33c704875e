-- The reserved words and the marks: how each is spelt, and which of them a text is or begins with.
use Rattle.std.specs.Prelude.{◌≡◌, ◌⊎◌, Bool, if◌then◌else◌, List, [], ◌∷◌, map, take, length, codes}
use Rattle.std.specs.Bool.{nat_eq}
use Rattle.std.specs.List.{list_any}
use lib.Pointwise.{pointwise}
use denote.Enum.Bare.{sameb}
use Rattle.sw_lex.specs.contracts.token.TokenKind.{the_type}
use Rattle.sw_lex.specs.declared.token.TokenKind.{TokenKind}
use Rattle.sw_lex.specs.declared.token.TokenKind.TheVariants as k
use Rattle.sw_lex.specs.Bytes.{Text}

unfoldable pub same_kind : TokenKind → TokenKind → Bool
same_kind = sameb the_type

-- how a reserved word, a lone `_` or a mark is spelt; other kinds have no spelling of their own
abbrev pub fixed : TokenKind → Text
fixed k.Underscore = codes "_"
fixed k.Any = codes "any"
fixed k.As = codes "as"
fixed k.Async = codes "async"
fixed k.Await = codes "await"
fixed k.Break = codes "break"
fixed k.Case = codes "case"
fixed k.Catch = codes "catch"
fixed k.Continue = codes "continue"
fixed k.Default = codes "default"
fixed k.Defer = codes "defer"
fixed k.Do = codes "do"
fixed k.Else = codes "else"
fixed k.Enum = codes "enum"
fixed k.Extension = codes "extension"
fixed k.False = codes "false"
fixed k.Fileprivate = codes "fileprivate"
fixed k.For = codes "for"
fixed k.Func = codes "func"
fixed k.Guard = codes "guard"
fixed k.If = codes "if"
fixed k.Import = codes "import"
fixed k.In = codes "in"
fixed k.Init = codes "init"
fixed k.Inout = codes "inout"
fixed k.Internal = codes "internal"
fixed k.Is = codes "is"
fixed k.Let = codes "let"
fixed k.Nil = codes "nil"
fixed k.Private = codes "private"
fixed k.Protocol = codes "protocol"
fixed k.Public = codes "public"
fixed k.Repeat = codes "repeat"
fixed k.Return = codes "return"
fixed k.Self_ = codes "self"
fixed k.Static = codes "static"
fixed k.Struct = codes "struct"
fixed k.Super = codes "super"
fixed k.Switch = codes "switch"
fixed k.Throw = codes "throw"
fixed k.Throws = codes "throws"
fixed k.True = codes "true"
fixed k.Try = codes "try"
fixed k.Typealias = codes "typealias"
fixed k.Var = codes "var"
fixed k.Where = codes "where"
fixed k.While = codes "while"
fixed k.HalfOpenRange = codes "..<"
fixed k.Ellipsis = codes "..."
fixed k.Arrow = codes "->"
fixed k.EqualEqual = codes "=="
fixed k.NotEqual = codes "!="
fixed k.LessEqual = codes "<="
fixed k.GreaterEqual = codes ">="
fixed k.And = codes "&&"
fixed k.Or = codes "||"
fixed k.Coalesce = codes "??"
fixed k.PlusAssign = codes "+="
fixed k.MinusAssign = codes "-="
fixed k.StarAssign = codes "*="
fixed k.SlashAssign = codes "/="
fixed k.PercentAssign = codes "%="
fixed k.LeftParen = codes "("
fixed k.RightParen = codes ")"
fixed k.LeftBracket = codes "["
fixed k.RightBracket = codes "]"
fixed k.LeftBrace = codes "{"
fixed k.RightBrace = codes "}"
fixed k.Comma = codes ","
fixed k.Colon = codes ":"
fixed k.Semicolon = codes ";"
fixed k.Dot = codes "."
fixed k.Assign = codes "="
fixed k.Plus = codes "+"
fixed k.Minus = codes "-"
fixed k.Star = codes "*"
fixed k.Slash = codes "/"
fixed k.Percent = codes "%"
fixed k.Less = codes "<"
fixed k.Greater = codes ">"
fixed k.Bang = codes "!"
fixed k.Question = codes "?"
fixed kind = []

-- the reserved words
abbrev pub reserved : List TokenKind
reserved =
    k.Any ∷ k.As ∷ k.Async ∷ k.Await ∷ k.Break ∷ k.Case ∷
    k.Catch ∷ k.Continue ∷ k.Default ∷ k.Defer ∷ k.Do ∷ k.Else ∷
    k.Enum ∷ k.Extension ∷ k.False ∷ k.Fileprivate ∷ k.For ∷ k.Func ∷
    k.Guard ∷ k.If ∷ k.Import ∷ k.In ∷ k.Init ∷ k.Inout ∷
    k.Internal ∷ k.Is ∷ k.Let ∷ k.Nil ∷ k.Private ∷ k.Protocol ∷
    k.Public ∷ k.Repeat ∷ k.Return ∷ k.Self_ ∷ k.Static ∷ k.Struct ∷
    k.Super ∷ k.Switch ∷ k.Throw ∷ k.Throws ∷ k.True ∷ k.Try ∷
    k.Typealias ∷ k.Var ∷ k.Where ∷ k.While ∷
    []

-- the kind of a reserved word
unfoldable pub is_reserved_kind : TokenKind → Bool
is_reserved_kind kind = list_any (same_kind kind) reserved

abbrev pub Table : Type 0
Table = List (Text × TokenKind)

abbrev pub table_of : List TokenKind → Table
table_of kinds = map (λ kind. (fixed kind, kind)) kinds

-- the reserved words, and the lone `_`
unfoldable pub words : Table
words = table_of (k.Underscore ∷ reserved)

-- the marks
unfoldable pub marks : Table
marks = table_of (
    k.HalfOpenRange ∷ k.Ellipsis ∷ k.Arrow ∷ k.EqualEqual ∷ k.NotEqual ∷ k.LessEqual ∷
    k.GreaterEqual ∷ k.And ∷ k.Or ∷ k.Coalesce ∷ k.PlusAssign ∷ k.MinusAssign ∷
    k.StarAssign ∷ k.SlashAssign ∷ k.PercentAssign ∷ k.LeftParen ∷ k.RightParen ∷ k.LeftBracket ∷
    k.RightBracket ∷ k.LeftBrace ∷ k.RightBrace ∷ k.Comma ∷ k.Colon ∷ k.Semicolon ∷
    k.Dot ∷ k.Assign ∷ k.Plus ∷ k.Minus ∷ k.Star ∷ k.Slash ∷
    k.Percent ∷ k.Less ∷ k.Greater ∷ k.Bang ∷ k.Question ∷
    []
    )

abbrev pub is_same_text : Text → Text → Bool
is_same_text = pointwise nat_eq

-- the text's kind in the table, or a name
abbrev pub kind_in : Table → Text → TokenKind
kind_in [] text = k.Name
kind_in (entry ∷ table) text = if is_same_text text entry.0 then entry.1 else kind_in table text

abbrev pub kind_of_word : Text → TokenKind
kind_of_word text = kind_in words text

abbrev pub is_prefix_of : Text → Text → Bool
is_prefix_of mark bytes = is_same_text (take (length mark) bytes) mark

-- the text stands in the table, and is of this kind there
abbrev pub IsListed : Table → Text → TokenKind → Type 0
IsListed [] text kind = ⊥
IsListed (entry ∷ table) text kind = ((entry.0 ≡ text) × (entry.1 ≡ kind)) ⊎ IsListed table text kind
