-- The inductive tree of each expression of a source.
use Rattle.std.specs.Prelude.{ℕ, List, [], ◌∷◌, Option}
use Rattle.sw_tree.specs.declared.expr.Name.{Name}
use Rattle.sw_tree.specs.declared.expr.Argument.{Argument, fold-Argument}
use Rattle.sw_tree.specs.declared.expr.StringPiece.{StringPiece, fold-StringPiece}
use Rattle.sw_tree.specs.declared.expr.Literal.{Literal, fold-Literal}
use Rattle.sw_tree.specs.declared.expr.Expr.{Expr, fold-Expr}
use Rattle.sw_tree.specs.declared.expr.Expr.TheOpen.{Expr-F, Literal-F, Argument-F, StringPiece-F}
use Rattle.sw_typed.specs.Syntax as x

abbrev pub exprs_of : List x.Expr → x.Exprs
exprs_of [] = x.no_expr
exprs_of (e ∷ es) = x.expr e (exprs_of es)

abbrev pub args_of : List (Option Name × x.Expr) → x.Args
args_of [] = x.no_arg
args_of ((label, e) ∷ args) = x.arg label e (args_of args)

abbrev pub pieces_of : List (x.Expr × List ℕ) → x.Pieces
pieces_of [] = x.no_piece
pieces_of ((e, text) ∷ pieces) = x.piece e text (pieces_of pieces)

abbrev pub expr_level : Expr-F x.Expr x.Constant (Option Name × x.Expr) (x.Expr × List ℕ) → x.Expr
expr_level (Expr-F.Try form at e) = x.Try form at e
expr_level (Expr-F.Await at e) = x.Await at e
expr_level (Expr-F.Ternary e (a, b)) = x.Ternary e a b
expr_level (Expr-F.Binary operator at (a, b)) = x.Binary operator at a b
expr_level (Expr-F.Prefix operator at e) = x.Prefix operator at e
expr_level (Expr-F.Member e name) = x.Member e name
expr_level (Expr-F.Call e (at, args)) = x.Call e at (args_of args)
expr_level (Expr-F.Index e (at, index)) = x.Index e at index
expr_level (Expr-F.Force e at) = x.Force e at
expr_level (Expr-F.Literal at value) = x.Literal at value
expr_level (Expr-F.Nil at) = x.Nil at
expr_level (Expr-F.Name name) = x.Named name
expr_level (Expr-F.SelfValue at) = x.SelfValue at
expr_level (Expr-F.Implicit at name) = x.Implicit at name
expr_level (Expr-F.Paren at e) = x.Paren at e
expr_level (Expr-F.Array at es) = x.Array at (exprs_of es)
expr_level (Expr-F.Issue at e) = x.Issue at e
expr_level (Expr-F.Wait name) = x.Wait name

abbrev pub literal_level : Literal-F x.Expr x.Constant (Option Name × x.Expr) (x.Expr × List ℕ) → x.Constant
literal_level (Literal-F.Integer n) = x.Integer n
literal_level (Literal-F.Bool b) = x.Truth b
literal_level (Literal-F.String text pieces) = x.String text (pieces_of pieces)

abbrev pub argument_level : Argument-F x.Expr x.Constant (Option Name × x.Expr) (x.Expr × List ℕ) → Option Name × x.Expr
argument_level a = (a.label, a.value)

abbrev pub piece_level : StringPiece-F x.Expr x.Constant (Option Name × x.Expr) (x.Expr × List ℕ) → x.Expr × List ℕ
piece_level p = (p.value, p.text)

abbrev pub expr_of : Expr → x.Expr
expr_of = fold-Expr x.Expr x.Constant (Option Name × x.Expr) (x.Expr × List ℕ) expr_level literal_level argument_level piece_level

abbrev pub constant_of : Literal → x.Constant
constant_of = fold-Literal x.Expr x.Constant (Option Name × x.Expr) (x.Expr × List ℕ) expr_level literal_level argument_level piece_level

abbrev pub arg_of : Argument → Option Name × x.Expr
arg_of = fold-Argument x.Expr x.Constant (Option Name × x.Expr) (x.Expr × List ℕ) expr_level literal_level argument_level piece_level

abbrev pub piece_of : StringPiece → x.Expr × List ℕ
piece_of = fold-StringPiece x.Expr x.Constant (Option Name × x.Expr) (x.Expr × List ℕ) expr_level literal_level argument_level piece_level
