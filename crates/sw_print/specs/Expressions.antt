-- How types and expressions are written: the words of each, by what stands before the first of them.
use Rattle.std.specs.Prelude.{List, [], ◌∷◌, ◌++◌, Option, Some, None, Bool, true, false, if◌then◌else◌}
use Rattle.std.specs.Fmt.{signed_decimal}
use Rattle.sw_lex.specs.declared.token.TokenKind.{TokenKind}
use Rattle.sw_lex.specs.declared.token.TokenKind.TheVariants as k
use Rattle.sw_lex.specs.Bytes.{Text}
use Rattle.sw_lex.specs.Tables.{kind_of_word}
use Rattle.sw_layout.specs.declared.gap.Gap.{Gap}
use Rattle.sw_layout.specs.declared.gap.Gap.TheVariants as gap
use Rattle.sw_layout.specs.Words.{Word, plain}
use Rattle.sw_tree.specs.declared.expr.Name.{Name}
use Rattle.sw_tree.specs.declared.expr.TryForm.{TryForm}
use Rattle.sw_tree.specs.declared.expr.TryForm.TheVariants as try_form
use Rattle.sw_tree.specs.declared.expr.PrefixOperator.{PrefixOperator}
use Rattle.sw_tree.specs.declared.expr.PrefixOperator.TheVariants as prefix
use Rattle.sw_tree.specs.declared.expr.BinaryOperator.{BinaryOperator}
use Rattle.sw_tree.specs.declared.expr.BinaryOperator.TheVariants as binary
use Rattle.sw_tree.specs.declared.expr.Argument.{Argument}
use Rattle.sw_tree.specs.declared.expr.Literal.{Literal, fold-Literal}
use Rattle.sw_tree.specs.declared.expr.Expr.{Expr, fold-Expr}
use Rattle.sw_tree.specs.declared.expr.Expr.TheOpen.{Expr-F, Literal-F, Argument-F, StringPiece-F}
use Rattle.sw_tree.specs.declared.types.«Type».{«Type» as TypeTree, fold-Type}
use Rattle.sw_tree.specs.declared.types.«Type».TheOpen.{Type-F}

-- words, by what stands before the first of them
abbrev pub W : Type 0
W = Gap → List Word

-- ---- names and lists

abbrev pub word : TokenKind → Text → Gap → Word
word kind text before = record { kind = kind; text = text; gap = before }

abbrev pub name_word : Name → Gap → Word
name_word name before = word k.Name name.text before

-- a label may be a reserved word
abbrev pub label_word : Name → Gap → Word
label_word name before = word (kind_of_word name.text) name.text before

-- no space stands around a `.`
abbrev pub around : Gap → Gap
around gap.Space = gap.Joined
around before = before

abbrev pub dot_name : Name → W
dot_name name before = plain k.Dot (around before) ∷ name_word name gap.Joined ∷ []

-- with commas between
abbrev pub others : List W → List Word
others [] = []
others (x ∷ xs) = plain k.Comma gap.Space ∷ (x gap.Space ++ others xs)

abbrev pub listed : List W → List Word
listed [] = []
listed (x ∷ xs) = x gap.Space ++ others xs

abbrev pub in_parens : List W → List Word
in_parens xs = plain k.LeftParen gap.Space ∷ (listed xs ++ plain k.RightParen gap.Space ∷ [])

-- what is written of a part that may be absent
abbrev pub perhaps : {A : Type 0} → (A → List Word) → Option A → List Word
perhaps f None = []
perhaps f (Some x) = f x

abbrev pub if_there : TokenKind → Bool → List Word
if_there kind true = plain kind gap.Space ∷ []
if_there kind false = []

-- ---- types

abbrev pub is_question : TokenKind → Bool
is_question k.Question = true
is_question kind = false

-- the last of the words is `?`
abbrev pub ends_in_question : List Word → Bool
ends_in_question [] = false
ends_in_question (word ∷ []) = is_question word.kind
ends_in_question (word ∷ next ∷ words) = ends_in_question (next ∷ words)

-- A type's `?` touches what precedes. No source has another `?` after one: it would stand apart, since `??` is one mark.
abbrev pub mark_gap : List Word → Gap
mark_gap words = if ends_in_question words then gap.Space else gap.Joined

abbrev pub type_level : Type-F W → W
type_level (Type-F.Name name) g = name_word name g ∷ []
type_level (Type-F.Member outer name) g = name_word outer g ∷ dot_name name gap.Joined
type_level (Type-F.Array at element) g = plain k.LeftBracket g ∷ (element gap.Space ++ plain k.RightBracket gap.Space ∷ [])
type_level (Type-F.Any at name) g = plain k.Any g ∷ name_word name gap.Space ∷ []
type_level (Type-F.Void at) g = plain k.LeftParen g ∷ plain k.RightParen gap.Space ∷ []
type_level (Type-F.Optional wrapped) g = wrapped g ++ plain k.Question (mark_gap (wrapped g)) ∷ []

abbrev pub type_words : TypeTree → W
type_words = fold-Type W type_level

-- ---- expressions

abbrev pub try_words : TryForm → W
try_words try_form.Plain g = plain k.Try g ∷ []
try_words try_form.Optional g = plain k.Try g ∷ plain k.Question gap.Joined ∷ []

-- the mark of an operator
abbrev pub mark_of : BinaryOperator → TokenKind
mark_of binary.Or = k.Or
mark_of binary.And = k.And
mark_of binary.Equal = k.EqualEqual
mark_of binary.NotEqual = k.NotEqual
mark_of binary.Less = k.Less
mark_of binary.LessEqual = k.LessEqual
mark_of binary.Greater = k.Greater
mark_of binary.GreaterEqual = k.GreaterEqual
mark_of binary.Coalesce = k.Coalesce
mark_of binary.Add = k.Plus
mark_of binary.Subtract = k.Minus
mark_of binary.Multiply = k.Star
mark_of binary.Divide = k.Slash
mark_of binary.Remainder = k.Percent

-- a sign and its operand: no space follows `-`
abbrev pub signed : PrefixOperator → W → W
signed prefix.Minus x g = plain k.Minus g ∷ x gap.Joined
signed prefix.Not x g = plain k.Bang g ∷ x gap.Space

abbrev pub bool_word : Bool → Gap → Word
bool_word true = plain k.True
bool_word false = plain k.False

-- the rest of a string after its first piece: within it nothing stands around an expression
abbrev pub pieces_words : W × Text → List (W × Text) → List Word
pieces_words (x, text) [] = x gap.Joined ++ word k.StringLast text gap.Joined ∷ []
pieces_words (x, text) (piece ∷ pieces) = x gap.Joined ++ (word k.StringMiddle text gap.Joined ∷ pieces_words piece pieces)

abbrev pub string_words : Text → List (W × Text) → W
string_words text [] g = word k.StringWhole text g ∷ []
string_words text (piece ∷ pieces) g = word k.StringStart text g ∷ pieces_words piece pieces

abbrev pub literal_level : Literal-F W W W (W × Text) → W
literal_level (Literal-F.Integer n) g = word k.Integer (signed_decimal n) g ∷ []
literal_level (Literal-F.Bool value) g = bool_word value g ∷ []
literal_level (Literal-F.String text pieces) g = string_words text pieces g

abbrev pub labelled : Option Name → W → W
labelled None x g = x g
labelled (Some label) x g = label_word label g ∷ plain k.Colon gap.Space ∷ x gap.Space

abbrev pub argument_level : Argument-F W W W (W × Text) → W
argument_level x = labelled x.label x.value

abbrev pub piece_level : StringPiece-F W W W (W × Text) → W × Text
piece_level x = (x.value, x.text)

-- The two nodes that no production gives are written as the call, or the name, that they hold.
abbrev pub expr_level : Expr-F W W W (W × Text) → W
expr_level (Expr-F.Try form at x) g = try_words form g ++ x gap.Space
expr_level (Expr-F.Await at x) g = plain k.Await g ∷ x gap.Space
expr_level (Expr-F.Ternary x (y, z)) g = x g ++ (plain k.Question gap.Space ∷ (y gap.Space ++ (plain k.Colon gap.Space ∷ z gap.Space)))
expr_level (Expr-F.Binary operator at (x, y)) g = x g ++ (plain (mark_of operator) gap.Space ∷ y gap.Space)
expr_level (Expr-F.Prefix operator at x) g = signed operator x g
expr_level (Expr-F.Member x name) g = x g ++ dot_name name gap.Joined
expr_level (Expr-F.Call x (at, xs)) g = x g ++ (plain k.LeftParen gap.Joined ∷ (listed xs ++ plain k.RightParen gap.Space ∷ []))
expr_level (Expr-F.Index x (at, y)) g = x g ++ (plain k.LeftBracket gap.Joined ∷ (y gap.Space ++ plain k.RightBracket gap.Space ∷ []))
expr_level (Expr-F.Force x at) g = x g ++ plain k.Bang gap.Joined ∷ []
expr_level (Expr-F.Literal at value) g = value g
expr_level (Expr-F.Nil at) g = plain k.Nil g ∷ []
expr_level (Expr-F.Name name) g = name_word name g ∷ []
expr_level (Expr-F.SelfValue at) g = plain k.Self_ g ∷ []
expr_level (Expr-F.Implicit at name) g = dot_name name g
expr_level (Expr-F.Paren at x) g = plain k.LeftParen g ∷ (x gap.Space ++ plain k.RightParen gap.Space ∷ [])
expr_level (Expr-F.Array at xs) g = plain k.LeftBracket g ∷ (listed xs ++ plain k.RightBracket gap.Space ∷ [])
expr_level (Expr-F.Issue at x) g = x g
expr_level (Expr-F.Wait name) g = name_word name g ∷ []

abbrev pub expr_words : Expr → W
expr_words = fold-Expr W W W (W × Text) expr_level literal_level argument_level piece_level

abbrev pub literal_words : Literal → W
literal_words = fold-Literal W W W (W × Text) expr_level literal_level argument_level piece_level

abbrev pub argument_words : Argument → W
argument_words x = labelled x.label (expr_words x.value)
