-- The statements of thin bodies, the first and then the others.
use Rattle.std.proofs.Common.{◌≡◌, ℕ, ◌+◌, List, [], ◌∷◌, ◌++◌, refl, sym, ap, subst, arith}
use Rattle.sw_thin.specs.Program.{Stmt, Let, Print}
use Rattle.sw_thin.specs.Thin.{IsThinStmt, lets, IsThin}
use Rattle.sw_thin.specs.TreeReading.{lets_after}

-- each statement may stand after k `let` statements and those before it
abbrev pub AreThinAfter : ℕ → List Stmt → Type 0
AreThinAfter k body = (before : List Stmt) (stmt : Stmt) (after : List Stmt) → body ≡ before ++ (stmt ∷ after) → IsThinStmt (k + lets before) stmt

counted : (k : ℕ) (stmt : Stmt) (before : List Stmt) → lets_after k stmt + lets before ≡ k + lets (stmt ∷ before)
counted k (Let x e) before = omega arith
counted k (Print e) before = refl

pub first_thin : (k : ℕ) (stmt : Stmt) (body : List Stmt) → AreThinAfter k (stmt ∷ body) → IsThinStmt k stmt
first_thin k stmt body each =
    let none : k + lets [] ≡ k = omega arith in
    subst (λ n. IsThinStmt n stmt) none (each [] stmt body refl)

pub rest_thin : (k : ℕ) (stmt : Stmt) (body : List Stmt) → AreThinAfter k (stmt ∷ body) → AreThinAfter (lets_after k stmt) body
rest_thin k stmt body each before other after is =
    subst (λ n. IsThinStmt n other) (sym (counted k stmt before)) (each (stmt ∷ before) other after (ap (λ l. stmt ∷ l) is))

pub none_after : (k : ℕ) → AreThinAfter k []
none_after k [] other after is = absurd (cc)
none_after k (s ∷ before) other after is = absurd (cc)

pub more_after : (k : ℕ) (stmt : Stmt) (body : List Stmt) → IsThinStmt k stmt → AreThinAfter (lets_after k stmt) body → AreThinAfter k (stmt ∷ body)
more_after k stmt body thin rest [] other after is =
    let none : k ≡ k + lets [] = omega arith in
    let same : stmt ≡ other = cc in
    subst (λ n. IsThinStmt n other) none (subst (λ s. IsThinStmt k s) same thin)
more_after k stmt body thin rest (s ∷ before) other after is =
    let same : stmt ≡ s = cc in
    let left : body ≡ before ++ (other ∷ after) = cc in
    subst (λ s. IsThinStmt (k + lets (s ∷ before)) other) same (subst (λ n. IsThinStmt n other) (counted k stmt before) (rest before other after left))

none_before : (body : List Stmt) → 0 + lets body ≡ lets body
none_before body = omega arith

-- each statement may stand after those before it, as `IsThin` says it
pub all_after : (body : List Stmt) → IsThin body → AreThinAfter 0 body
all_after body thin before stmt after is = subst (λ n. IsThinStmt n stmt) (sym (none_before before)) (thin.each before stmt after is)

pub after_none : (body : List Stmt) → AreThinAfter 0 body → (before : List Stmt) (stmt : Stmt) (after : List Stmt) → body ≡ before ++ (stmt ∷ after) → IsThinStmt (lets before) stmt
after_none body each before stmt after is = subst (λ n. IsThinStmt n stmt) (none_before before) (each before stmt after is)
