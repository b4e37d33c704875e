-- What definitions see of each value of the code's types: the expression, the statement, the func, the funcs.
use Rattle.std.specs.Prelude.{List, map}
use Rattle.sw_thin.specs.Program as t
use Rattle.sw_thin.specs.declared.program.Expr.{Expr, fold-Expr}
use Rattle.sw_thin.specs.declared.program.Expr.TheOpen.{Expr-F}
use Rattle.sw_thin.specs.declared.program.Stmt.{Stmt}
use Rattle.sw_thin.specs.declared.program.Stmt.TheVariants as s
use Rattle.sw_thin.specs.declared.program.Func.{Func}
use Rattle.sw_thin.specs.declared.program.Program.{Program}

abbrev pub expr_level : Expr-F t.Expr → t.Expr
expr_level (Expr-F.Int n) = t.Int n
expr_level (Expr-F.Str text) = t.Str text
expr_level (Expr-F.Var name) = t.Var name
expr_level (Expr-F.Add a b) = t.Add a b

abbrev pub expr_of : Expr → t.Expr
expr_of = fold-Expr t.Expr expr_level

abbrev pub stmt_of : Stmt → t.Stmt
stmt_of (s.Let name e) = t.Let name (expr_of e)
stmt_of (s.Print e) = t.Print (expr_of e)

abbrev pub body_of : List Stmt → List t.Stmt
body_of body = map stmt_of body

abbrev pub func_of : Func → t.Func
func_of f = record { name = f.name; body = body_of f.body }

abbrev pub funcs_of : Program → List t.Func
funcs_of program = map func_of program.funcs
