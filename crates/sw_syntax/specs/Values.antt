-- The values of expressions and types: how a tree is made of the values of a production's parts.
use Rattle.std.specs.Prelude.{Bool, true, false, pos, List, [], ◌∷◌, Option, Some, None}
use Rattle.sw_base.specs.declared.ids.Span.{Span}
use Rattle.sw_lex.specs.declared.token.TokenKind.{TokenKind}
use Rattle.sw_lex.specs.declared.token.TokenKind.TheVariants as k
use Rattle.sw_lex.specs.Rules.{number}
use Rattle.sw_syntax.specs.Tokens.{Face}
use Rattle.sw_tree.specs.declared.expr.Name.{Name}
use Rattle.sw_tree.specs.declared.expr.Expr.{Expr, out-Expr}
use Rattle.sw_tree.specs.declared.expr.Expr.TheOpen.{Expr-F}
use Rattle.sw_tree.specs.declared.expr.Expr.TheVariants as e
use Rattle.sw_tree.specs.declared.expr.StringPiece.{StringPiece}
use Rattle.sw_tree.specs.declared.expr.Literal.{Literal}
use Rattle.sw_tree.specs.declared.expr.Literal.TheVariants as literal
use Rattle.sw_tree.specs.declared.expr.TryForm.TheVariants as try_form
use Rattle.sw_tree.specs.declared.expr.Binding.{Binding}
use Rattle.sw_tree.specs.declared.expr.Binding.TheVariants as binding
use Rattle.sw_tree.specs.declared.expr.PrefixOperator.{PrefixOperator}
use Rattle.sw_tree.specs.declared.expr.PrefixOperator.TheVariants as prefix
use Rattle.sw_tree.specs.declared.expr.BinaryOperator.{BinaryOperator}
use Rattle.sw_tree.specs.declared.expr.BinaryOperator.TheVariants as binary
use Rattle.sw_tree.specs.declared.types.«Type».{«Type» as TypeTree}
use Rattle.sw_tree.specs.declared.types.«Type».TheVariants as t
use Rattle.sw_tree.specs.declared.stmt.AssignOperator.{AssignOperator}
use Rattle.sw_tree.specs.declared.stmt.AssignOperator.TheVariants as assign
use Rattle.sw_tree.specs.declared.stmt.RangeOperator.{RangeOperator}
use Rattle.sw_tree.specs.declared.stmt.RangeOperator.TheVariants as range

-- ---- absent parts

abbrev pub or_none : {A : Type 0} → Option (List A) → List A
or_none None = []
or_none (Some xs) = xs

abbrev pub or_some : {A : Type 0} → Option (Option A) → Option A
or_some None = None
or_some (Some x) = x

abbrev pub is_some : {A : Type 0} → Option A → Bool
is_some None = false
is_some (Some x) = true

-- ---- faces

abbrev pub name_of : Face → Name
name_of f = record { text = f.text; span = f.span }

-- Each is of a token that passes the test of its terminal; the last case is the one kind that is left.

abbrev pub binding_of : TokenKind → Binding
binding_of k.Let = binding.Let
binding_of kind = binding.Var

abbrev pub prefix_of : TokenKind → PrefixOperator
prefix_of k.Minus = prefix.Minus
prefix_of kind = prefix.Not

abbrev pub binary_of : TokenKind → BinaryOperator
binary_of k.Or = binary.Or
binary_of k.And = binary.And
binary_of k.EqualEqual = binary.Equal
binary_of k.NotEqual = binary.NotEqual
binary_of k.Less = binary.Less
binary_of k.LessEqual = binary.LessEqual
binary_of k.Greater = binary.Greater
binary_of k.GreaterEqual = binary.GreaterEqual
binary_of k.Coalesce = binary.Coalesce
binary_of k.Plus = binary.Add
binary_of k.Minus = binary.Subtract
binary_of k.Star = binary.Multiply
binary_of k.Slash = binary.Divide
binary_of kind = binary.Remainder

abbrev pub assign_of : TokenKind → AssignOperator
assign_of k.PlusAssign = assign.Add
assign_of k.MinusAssign = assign.Subtract
assign_of k.StarAssign = assign.Multiply
assign_of k.SlashAssign = assign.Divide
assign_of k.PercentAssign = assign.Remainder
assign_of kind = assign.Assign

abbrev pub range_of : TokenKind → RangeOperator
range_of k.HalfOpenRange = range.HalfOpen
range_of kind = range.Closed

abbrev pub bool_of : TokenKind → Bool
bool_of k.True = true
bool_of kind = false

-- ---- expressions

-- the expressions of a string, each with the text after it
abbrev pub pieces_of : Expr → List (Face × Expr) → Face → List StringPiece
pieces_of x [] last = record { value = x; text = last.text } ∷ []
pieces_of x (piece ∷ pieces) last = record { value = x; text = piece.0.text } ∷ pieces_of piece.1 pieces last

abbrev pub integer_of : Face → Literal
integer_of f = literal.Integer (pos (number 0 f.text))

-- operands after marks, taken to the left
abbrev pub to_left : Expr → List (Face × Expr) → Expr
to_left left [] = left
to_left left (x ∷ xs) = to_left (e.Binary (binary_of x.0.kind) x.0.span (left, x.1)) xs

abbrev pub to_right : Expr → Option (Face × Expr) → Expr
to_right left None = left
to_right left (Some x) = e.Binary (binary_of x.0.kind) x.0.span (left, x.1)

abbrev pub ternary_of : Expr → Option (Expr × Expr) → Expr
ternary_of condition None = condition
ternary_of condition (Some x) = e.Ternary condition x

-- what each form makes of what stands before it
abbrev pub with_forms : Expr → List (Expr → Expr) → Expr
with_forms base [] = base
with_forms base (form ∷ forms) = with_forms (form base) forms

abbrev pub awaited : Option Span → Expr → Expr
awaited None x = x
awaited (Some at) x = e.Await at x

-- with the place of `try`, and whether a `?` touches it
abbrev pub tried : Option (Span × Bool) → Expr → Expr
tried None x = x
tried (Some (at, false)) x = e.Try try_form.Plain at x
tried (Some (at, true)) x = e.Try try_form.Optional at x

-- what ends in a name, a member or an index
abbrev pub is_target_layer : {A B C D : Type 0} → Expr-F A B C D → Bool
is_target_layer (Expr-F.Name name) = true
is_target_layer (Expr-F.Implicit at name) = true
is_target_layer (Expr-F.Member base name) = true
is_target_layer (Expr-F.Index base index) = true
is_target_layer layer = false

abbrev pub is_target : Expr → Bool
is_target x = is_target_layer (out-Expr x)

-- ---- types

abbrev pub optional_of : TypeTree → List Face → TypeTree
optional_of base [] = base
optional_of base (mark ∷ marks) = optional_of (t.Optional base) marks

abbrev pub named : Name → Option Name → TypeTree
named name None = t.Name name
named outer (Some name) = t.Member outer name
