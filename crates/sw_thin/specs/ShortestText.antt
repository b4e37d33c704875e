-- The shortest source that has a body, line by line; of it only the length is asked.
use Rattle.std.specs.Prelude.{ℕ, List, [], ◌++◌, map, codes}
use Rattle.std.specs.Fmt.{signed_decimal}
use Rattle.std.specs.List.{flat_map}
use Rattle.sw_thin.specs.Program.{Expr, Int, Str, Var, Add, Stmt, Let, Print}

abbrev pub first_line : List ℕ
first_line = codes "func main(system: NodeSystem) async throws {\n"

abbrev pub last_line : List ℕ
last_line = codes "}\n"

abbrev pub sum_text : Expr → List ℕ
sum_text (Int n) = signed_decimal n
sum_text (Add a b) = sum_text a ++ (codes " + " ++ sum_text b)
sum_text e = []

abbrev pub shown_text : Expr → List ℕ
shown_text (Var x) = x
shown_text (Str text) = codes "\"" ++ text ++ codes "\""
shown_text e = sum_text e

-- the line of a statement, without its end
abbrev pub line_text : Stmt → List ℕ
line_text (Let x e) = codes "  let " ++ x ++ codes " = " ++ sum_text e
line_text (Print e) = codes "  print(" ++ shown_text e ++ codes ")"

abbrev pub ended : List ℕ → List ℕ
ended line = line ++ codes "\n"

abbrev pub lines_text : List Stmt → List ℕ
lines_text body = flat_map ended (map line_text body)

abbrev pub shortest_text : List Stmt → List ℕ
shortest_text body = first_line ++ (lines_text body ++ last_line)
