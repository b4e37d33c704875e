-- Words of the private contracts of the functions that read a body off a tree.
use Rattle.std.specs.Prelude.{◌≡◌, ℕ, ◌+◌, ◌*◌, ◌-◌, List, [], ◌∷◌, Bool, true, false}
use Rattle.std.specs.Char.{is_ascii_digit}
use Rattle.std.specs.List.{AllByRecursion}
use Rattle.sw_tree.specs.declared.stmt.Stmt.{Stmt as StmtTree}
use Rattle.sw_thin.specs.declared.program.Stmt.{Stmt as CodeStmt}
use Rattle.sw_thin.specs.ProgramView.{stmt_of}
use Rattle.sw_thin.specs.Program.{Stmt, Let, Print}
use Rattle.sw_thin.specs.Thin.{IsThinStmt, IsStmtOf}
use Rattle.sw_thin.specs.ShortestText.{line_text, ended}

-- ---- names

abbrev pub AllAre : (ℕ → Bool) → List ℕ → Type 0
AllAre test text = AllByRecursion (λ c. test c ≡ true) text

-- a text that does not begin with such a character
abbrev pub Stops : (ℕ → Bool) → List ℕ → Type 0
Stops test [] = Unit {0}
Stops test (c ∷ text) = test c ≡ false

abbrev pub IsDigits : List ℕ → Type 0
IsDigits text = AllByRecursion (λ c. is_ascii_digit c ≡ true) text

-- the number that digits write after a number
abbrev pub number_from : ℕ → List ℕ → ℕ
number_from n [] = n
number_from n (c ∷ text) = number_from (10 * n + (c - 48)) text

-- ---- statements

-- how many `let` statements there are with this one
abbrev pub lets_after : ℕ → Stmt → ℕ
lets_after k (Let x e) = k + 1
lets_after k (Print e) = k

-- the statements may stand after so many `let` statements, and these are their trees
abbrev pub AreThin : ℕ → List Stmt → List StmtTree → Type 0
AreThin k [] [] = Unit {0}
AreThin k [] (tree ∷ trees) = ⊥
AreThin k (stmt ∷ body) [] = ⊥
AreThin k (stmt ∷ body) (tree ∷ trees) = (IsStmtOf stmt tree × IsThinStmt k stmt) × AreThin (lets_after k stmt) body trees

-- ---- the shortest source

-- the line of a statement as the code has it, with its end
abbrev pub line_of : CodeStmt → List ℕ
line_of stmt = ended (line_text (stmt_of stmt))
