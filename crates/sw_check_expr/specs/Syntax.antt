-- What is read off an expression before it has a type: its first token, whether it takes the other operand's type, and the
-- labels of its arguments.
use Rattle.std.specs.Prelude.{Bool, true, false, List, [], ◌∷◌}
use Rattle.sw_base.specs.declared.ids.Span.{Span}
use Rattle.sw_declared.specs.Declarations.{label_text}
use Rattle.sw_declared.specs.Members.{Label}
use Rattle.sw_typed.specs.Syntax as x

abbrev pub first : x.Expr → Span
first (x.Try form at e) = at
first (x.Await at e) = at
first (x.Ternary c a b) = first c
first (x.Binary operator at a b) = first a
first (x.Prefix operator at e) = at
first (x.Member e name) = first e
first (x.Call e at args) = first e
first (x.Index e at i) = first e
first (x.Force e at) = first e
first (x.Literal at value) = at
first (x.Nil at) = at
first (x.Named name) = name.span
first (x.SelfValue at) = at
first (x.Implicit at name) = at
first (x.Paren at e) = at
first (x.Array at es) = at
first (x.Issue at e) = at
first (x.Wait name) = name.span

abbrev pub is_implicit : x.Expr → Bool
is_implicit (x.Implicit dot name) = true
is_implicit e = false

abbrev pub is_empty : x.Exprs → Bool
is_empty x.no_expr = true
is_empty (x.expr e es) = false

-- An operand takes the other operand's type: `nil`, `[]`, `.name` and `.name( )`, also in brackets.
abbrev pub asks : x.Expr → Bool
asks (x.Nil at) = true
asks (x.Implicit at name) = true
asks (x.Call e at args) = is_implicit e
asks (x.Array at es) = is_empty es
asks (x.Paren at e) = asks e
asks e = false

-- it is `nil`, also in brackets
abbrev pub is_nil : x.Expr → Bool
is_nil (x.Nil at) = true
is_nil (x.Paren at e) = is_nil e
is_nil e = false

abbrev pub labels : x.Args → List Label
labels x.no_arg = []
labels (x.arg label e args) = label_text label ∷ labels args
