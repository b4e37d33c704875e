-- Which syntax trees are thin, and the body of each.
use Rattle.std.specs.Prelude.{◌≡◌, ℕ, pos, ◌+◌, ◌<◌, ◌≤◌, Bool, true, ◌&&◌, not, ◌==◌, nat_le, List, [], ◌∷◌, ◌++◌, length, None, codes}
use Rattle.std.specs.Fmt.{decimal}
use Rattle.std.specs.List.{AllByRecursion}
use Rattle.sw_base.specs.Limits.{longest_source}
use Rattle.sw_base.specs.declared.ids.Span.{Span}
use Rattle.sw_tree.specs.declared.expr.Name.{Name}
use Rattle.sw_tree.specs.declared.expr.Expr.{Expr as Tree}
use Rattle.sw_tree.specs.declared.expr.Expr.TheVariants as x
use Rattle.sw_tree.specs.declared.expr.Literal.TheVariants as literal
use Rattle.sw_tree.specs.declared.expr.BinaryOperator.TheVariants as operator
use Rattle.sw_tree.specs.declared.expr.Binding.TheVariants as binding
use Rattle.sw_tree.specs.declared.types.«Type».TheVariants as «type»
use Rattle.sw_tree.specs.declared.stmt.Stmt.{Stmt as StmtTree}
use Rattle.sw_tree.specs.declared.stmt.Stmt.TheVariants as s
use Rattle.sw_tree.specs.declared.decl.Decl.TheVariants as d
use Rattle.sw_tree.specs.declared.decl.Func.{Func}
use Rattle.sw_tree.specs.declared.decl.Parameter.{Parameter}
use Rattle.sw_tree.specs.declared.decl.ParameterLabel.TheVariants as label
use Rattle.sw_tree.specs.declared.decl.Signature.{Signature}
use Rattle.sw_tree.specs.declared.decl.Tree.{Tree as File}
use Rattle.sw_thin.specs.Program.{Expr, Int, Str, Var, Add, Stmt, Let, Print}
use Rattle.sw_thin.specs.ShortestText.{shortest_text}

-- ---- bodies

-- an integer from 0 to 999,999,999
abbrev pub IsTerm : Expr → Type 0
IsTerm (Int n) = (m : ℕ) × (n ≡ pos m) × (m < 1000000000)
IsTerm _ = ⊥

-- such integers, added from the left
abbrev pub IsSum : Expr → Type 0
IsSum (Add a b) = IsSum a × IsTerm b
IsSum e = IsTerm e

-- how many integers a sum has
abbrev pub terms : Expr → ℕ
terms (Add a b) = terms a + terms b
terms _ = 1

-- a sum of 1 to 100 integers
abbrev pub IsShortSum : Expr → Type 0
IsShortSum e = IsSum e × (terms e ≤ 100)

-- a character from space to ~, without " and \
abbrev pub is_plain : ℕ → Bool
is_plain c = nat_le 32 c && nat_le c 126 && not (c == 34) && not (c == 92)

abbrev pub IsPlain : List ℕ → Type 0
IsPlain text = AllByRecursion (λ c. is_plain c ≡ true) text

-- the variable of the `let` statement that has so many before it
abbrev pub name_of : ℕ → List ℕ
name_of k = codes "v" ++ decimal k

-- the variable of one of the first k `let` statements
abbrev pub IsName : ℕ → List ℕ → Type 0
IsName k x = (j : ℕ) × (j < k) × (x ≡ name_of j)

-- what `print` may show after so many `let` statements
abbrev pub IsShown : ℕ → Expr → Type 0
IsShown k (Var x) = IsName k x
IsShown k (Str text) = IsPlain text × (length text ≤ 1000000)
IsShown k e = IsShortSum e

-- a statement that may stand after so many `let` statements
abbrev pub IsThinStmt : ℕ → Stmt → Type 0
IsThinStmt k (Let x e) = (x ≡ name_of k) × IsShortSum e
IsThinStmt k (Print e) = IsShown k e

-- how many `let` statements there are
abbrev pub lets : List Stmt → ℕ
lets [] = 0
lets (Let x e ∷ body) = 1 + lets body
lets (Print e ∷ body) = lets body

-- the body is that of a thin tree: each statement may stand after those before it, they are few, and the shortest
-- source that has them is short
pub record IsThin (body : List Stmt) : Type 0 where
  pub each : (before : List Stmt) (stmt : Stmt) (after : List Stmt) → body ≡ before ++ (stmt ∷ after) → IsThinStmt (lets before) stmt
  pub few : length body ≤ 90000
  pub short : length (shortest_text body) ≤ longest_source

-- ---- the syntax tree of a body

-- the tree of an expression
abbrev pub IsExprOf : Expr → Tree → Type 0
IsExprOf (Int n) tree = (span : Span) × (tree ≡ x.Literal span (literal.Integer n))
IsExprOf (Str text) tree = (span : Span) × (tree ≡ x.Literal span (literal.String text []))
IsExprOf (Var name) tree = (found : Name) × (tree ≡ x.Name found) × (found.text ≡ name)
IsExprOf (Add a b) tree = (span : Span) × (left right : Tree) × (tree ≡ x.Binary operator.Add span (left, right)) × IsExprOf a left × IsExprOf b right

-- the name `print`
abbrev pub IsPrint : Tree → Type 0
IsPrint callee = (name : Name) × (callee ≡ x.Name name) × (name.text ≡ codes "print")

-- the call of `print` with this one argument, which has no label
abbrev pub IsPrintOf : Tree → Tree → Type 0
IsPrintOf value tree = (callee : Tree) × (span : Span) × (tree ≡ x.Call callee (span, record { label = None; value = value } ∷ [])) × IsPrint callee

-- the tree of a statement: a `let` without a type, or a call of `print`
abbrev pub IsStmtOf : Stmt → StmtTree → Type 0
IsStmtOf (Let name e) tree = (span : Span) × (found : Name) × (value : Tree) × (tree ≡ s.Local span binding.Let found None value) × (found.text ≡ name) × IsExprOf e value
IsStmtOf (Print e) tree = (call : Tree) × (value : Tree) × (tree ≡ s.Expr call) × IsPrintOf value call × IsExprOf e value

-- the trees of the statements of a body, one each
abbrev pub AreStmtsOf : List Stmt → List StmtTree → Type 0
AreStmtsOf [] [] = Unit {0}
AreStmtsOf [] (tree ∷ trees) = ⊥
AreStmtsOf (stmt ∷ body) [] = ⊥
AreStmtsOf (stmt ∷ body) (tree ∷ trees) = IsStmtOf stmt tree × AreStmtsOf body trees

-- ---- the declaration of `main`

-- system: NodeSystem
abbrev pub IsSystem : Parameter → Type 0
IsSystem p =
    (p.label ≡ label.Own) × (p.name.text ≡ codes "system") × (p.inout ≡ None) × (p.variadic ≡ None)
    × (declared : Name) × (p.declared ≡ «type».Name declared) × (declared.text ≡ codes "NodeSystem")

-- (system: NodeSystem)
abbrev pub TakesSystem : List Parameter → Type 0
TakesSystem parameters = (p : Parameter) × (parameters ≡ p ∷ []) × IsSystem p

-- func main( ) async throws, whatever it takes
abbrev pub IsMain : Signature → Type 0
IsMain s = (s.modifiers ≡ []) × (s.name.text ≡ codes "main") × (s.type_parameters ≡ []) × (s.is_async ≡ true) × (s.throws ≡ true) × (s.result ≡ None)

-- the one declaration is `main`, with these statements
abbrev pub HasMain : List StmtTree → File → Type 0
HasMain body tree = (main : Func) × (tree.decls ≡ d.Func main ∷ []) × IsMain main.signature × TakesSystem main.signature.parameters × (main.body ≡ body)

-- ---- thin trees

-- the tree is thin, and this is the body of its `main`
abbrev pub IsThinTree : List Stmt → File → Type 0
IsThinTree body tree = IsThin body × (trees : List StmtTree) × HasMain trees tree × AreStmtsOf body trees

-- it is not thin
abbrev pub IsNoThinTree : File → Type 0
IsNoThinTree tree = (body : List Stmt) → IsThinTree body tree → ⊥
