-- The code of a func: its instructions, what the operands are before each of them, and when the func is typed.
use Rattle.std.specs.Prelude.{◌≡◌, ℕ, ◌+◌, nat_eq, List, [], ◌∷◌, ◌++◌, length, Option, Some, None, unwrap_or, if◌then◌else◌}
use Rattle.std.specs.Cmp.Lexicographic.{pointwise}
use Rattle.sw_thin.specs.Program.{Expr, Stmt, Func, Let as LetStmt, Print as PrintStmt, Int as IntExpr, Str as StrExpr, Var as VarExpr, Add as AddExpr}
use Rattle.sw_job.specs.declared.value.Ty.{Ty}
use Rattle.sw_job.specs.declared.value.Ty.TheVariants.{Int as IntTy, Str as StrTy, Void as VoidTy}
use Rattle.sw_job.specs.declared.instr.Instr.{Instr}
use Rattle.sw_job.specs.declared.instr.Instr.TheVariants.{BeginStmt, PushInt, PushStr, Load, Add, Print, Take, Discard, ReturnVoid}
use Rattle.sw_job.specs.declared.code.Shape.{Shape}
use Rattle.sw_job.specs.declared.code.FuncCode.{FuncCode}
use Rattle.sw_job.specs.Typed.{IsPrintable}

-- what the operands before an instruction are, the newest first: a variable by its name, or another operand
abbrev pub Scope : Type 0
Scope = List (Option (List ℕ))

-- how deep the newest variable of a name is
abbrev pub depth_of : List ℕ → Scope → ℕ
depth_of x [] = 0
depth_of x (None ∷ scope) = depth_of x scope + 1
depth_of x (Some y ∷ scope) = if pointwise nat_eq x y then 0 else depth_of x scope + 1

abbrev pub expr_code : Scope → Expr → List Instr
expr_code scope (IntExpr n) = PushInt n ∷ []
expr_code scope (StrExpr text) = PushStr text ∷ []
expr_code scope (VarExpr x) = Load (depth_of x scope) ∷ []
expr_code scope (AddExpr a b) = expr_code scope a ++ (expr_code (None ∷ scope) b ++ Add ∷ [])

-- the operands after a statement
abbrev pub scope_after : Scope → Stmt → Scope
scope_after scope (LetStmt x e) = Some x ∷ scope
scope_after scope (PrintStmt e) = scope

abbrev pub stmt_code : Scope → Stmt → List Instr
stmt_code scope (LetStmt x e) = BeginStmt ∷ expr_code scope e
stmt_code scope (PrintStmt e) = BeginStmt ∷ (expr_code scope e ++ Print ∷ Take ∷ Discard 1 ∷ [])

abbrev pub body_code : Scope → List Stmt → List Instr
body_code scope [] = ReturnVoid ∷ []
body_code scope (s ∷ body) = stmt_code scope s ++ body_code (scope_after scope s) body

-- the variables in sight with their types, the newest first
abbrev pub Vars : Type 0
Vars = List (List ℕ × Ty)

-- the type of the newest variable of a name
abbrev pub var_type : List ℕ → Vars → Option Ty
var_type x [] = None
var_type x (v ∷ vars) = if pointwise nat_eq x v.0 then Some v.1 else var_type x vars

abbrev pub type_of : Vars → Expr → Ty
type_of vars (IntExpr n) = IntTy
type_of vars (StrExpr text) = StrTy
type_of vars (VarExpr x) = unwrap_or (var_type x vars) VoidTy
type_of vars (AddExpr a b) = IntTy

-- what the operands are before each instruction of an expression, over so many variables and parts of these types
abbrev pub expr_shapes : ℕ → List Ty → Expr → List Shape
expr_shapes n parts (IntExpr m) = record { variables = n; parts = parts } ∷ []
expr_shapes n parts (StrExpr text) = record { variables = n; parts = parts } ∷ []
expr_shapes n parts (VarExpr x) = record { variables = n; parts = parts } ∷ []
expr_shapes n parts (AddExpr a b) =
    expr_shapes n parts a ++ (expr_shapes n (IntTy ∷ parts) b ++ record { variables = n; parts = IntTy ∷ IntTy ∷ parts } ∷ [])

-- the same of what is printed, of the type t
abbrev pub print_shapes : ℕ → Ty → Expr → List Shape
print_shapes n t e =
    expr_shapes n [] e ++ record { variables = n; parts = t ∷ [] } ∷ record { variables = n; parts = [] } ∷ record { variables = n; parts = VoidTy ∷ [] } ∷ []

-- the same of a statement, whose expression has the type t
abbrev pub stmt_shapes : ℕ → Ty → Stmt → List Shape
stmt_shapes n t (LetStmt x e) = record { variables = n; parts = [] } ∷ expr_shapes n [] e
stmt_shapes n t (PrintStmt e) = record { variables = n; parts = [] } ∷ print_shapes n t e

abbrev pub expr_in : Stmt → Expr
expr_in (LetStmt x e) = e
expr_in (PrintStmt e) = e

-- the variables in sight after a statement
abbrev pub vars_after : Vars → Stmt → Vars
vars_after vars (LetStmt x e) = (x, type_of vars e) ∷ vars
vars_after vars (PrintStmt e) = vars

abbrev pub body_shapes : Vars → List Stmt → List Shape
body_shapes vars [] = record { variables = length vars; parts = [] } ∷ []
body_shapes vars (s ∷ body) = stmt_shapes (length vars) (type_of vars (expr_in s)) s ++ body_shapes (vars_after vars s) body

-- the type of the variable that a statement declares, if any
abbrev pub declares : Vars → Stmt → List Ty
declares vars (LetStmt x e) = type_of vars e ∷ []
declares vars (PrintStmt e) = []

-- the types of the variables that a body declares, in order
abbrev pub declared_types : Vars → List Stmt → List Ty
declared_types vars [] = []
declared_types vars (LetStmt x e ∷ body) = type_of vars e ∷ declared_types ((x, type_of vars e) ∷ vars) body
declared_types vars (PrintStmt e ∷ body) = declared_types vars body

abbrev pub func_code : Func → FuncCode
func_code f = record {
  result = VoidTy;
  variables = declared_types [] f.body;
  instrs = body_code [] f.body;
  shapes = body_shapes [] f.body;
}

-- an expression in which each variable is declared, and sums are of integers
abbrev pub IsTypedExpr : Vars → Expr → Type 0
IsTypedExpr vars (IntExpr n) = Unit {0}
IsTypedExpr vars (StrExpr text) = Unit {0}
IsTypedExpr vars (VarExpr x) = (t : Ty) × (var_type x vars ≡ Some t)
IsTypedExpr vars (AddExpr a b) = IsTypedExpr vars a × (type_of vars a ≡ IntTy) × IsTypedExpr vars b × (type_of vars b ≡ IntTy)

abbrev pub IsTypedStmt : Vars → Stmt → Type 0
IsTypedStmt vars (LetStmt x e) = IsTypedExpr vars e
IsTypedStmt vars (PrintStmt e) = IsTypedExpr vars e × IsPrintable (type_of vars e)

abbrev pub IsTypedBody : Vars → List Stmt → Type 0
IsTypedBody vars [] = Unit {0}
IsTypedBody vars (s ∷ body) = IsTypedStmt vars s × IsTypedBody (vars_after vars s) body
