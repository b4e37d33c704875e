-- Bodies of thin trees are typed.
use Rattle.std.proofs.Common.{◌≡◌, ◌≢◌, ℕ, ◌+◌, ◌<◌, List, [], ◌∷◌, Bool, true, false, Some, if◌then◌else◌, refl, sym, ap, ◌∙◌, arith, subst}
use Rattle.std.specs.Prelude.{nat_eq}
use Rattle.std.specs.Cmp.Lexicographic.{pointwise}
use Rattle.std.proofs.lemmas.Bool.{false≢true}
use Rattle.std.proofs.lemmas.Slice.Eq.{bytes_eq-Decides}
use Rattle.sw_thin.specs.Program.{Expr, Int, Str, Var, Add, Stmt, Let, Print}
use Rattle.sw_job.specs.declared.value.Ty.{Ty}
use Rattle.sw_job.specs.declared.value.Ty.TheVariants.{Int as IntTy}
use Rattle.sw_job.specs.Typed.{IsPrintable}
use Rattle.sw_thin.specs.Lowering.{Vars, var_type, type_of, IsTypedExpr, IsTypedStmt, IsTypedBody, vars_after}
use Rattle.sw_thin.specs.Thin.{IsSum, name_of, IsName, IsThinStmt, IsThin}
use Rattle.sw_thin.specs.TreeReading.{lets_after}
use Rattle.sw_thin.proofs.BodyLemmas.{AreThinAfter, first_thin, rest_thin, all_after}

-- the first k names are integers
abbrev pub AreInts : ℕ → Vars → Type 0
AreInts k vars = (j : ℕ) → j < k → var_type (name_of j) vars ≡ Some IntTy

sum_typed : (vars : Vars) (e : Expr) → IsSum e → IsTypedExpr vars e × (type_of vars e ≡ IntTy)
sum_typed vars (Int n) s = (tt, refl)
sum_typed vars (Str t) s = absurd s
sum_typed vars (Var x) s = absurd s
sum_typed vars (Add a (Int n)) s = let r = sum_typed vars a s.0 in ((r.0, r.1, tt, refl), refl)
sum_typed vars (Add a (Str t)) s = absurd s.1
sum_typed vars (Add a (Var x)) s = absurd s.1
sum_typed vars (Add a (Add b c)) s = absurd s.1

-- one more name
ints_more : (k : ℕ) (vars : Vars) (t : Ty) → t ≡ IntTy → AreInts k vars → AreInts (k + 1) ((name_of k, t) ∷ vars)
ints_more k vars t int ints j lt = seen (pointwise nat_eq (name_of j) (name_of k)) refl
  where
    older : pointwise nat_eq (name_of j) (name_of k) ≡ false → var_type (name_of j) vars ≡ Some IntTy
    older h = ints j (below (λ same. false≢true (sym h ∙ (bytes_eq-Decides (name_of j) (name_of k)).1 (ap name_of same))))
      where
        below : j ≢ k → j < k
        below ne = omega (arith, ne)

    seen : (b : Bool) → pointwise nat_eq (name_of j) (name_of k) ≡ b → (if b then Some t else var_type (name_of j) vars) ≡ Some IntTy
    seen true h = ap Some int
    seen false h = older h

printable : (t : Ty) → t ≡ IntTy → IsPrintable t
printable t int = subst IsPrintable (sym int) tt

named_typed : (k : ℕ) (vars : Vars) (x : List ℕ) → AreInts k vars → IsName k x → IsTypedStmt vars (Print (Var x))
named_typed k vars x ints is =
    let known : var_type x vars ≡ Some IntTy = subst (λ y. var_type y vars ≡ Some IntTy) (sym is.2) (ints is.0 is.1) in
    ((IntTy, known), rw known tt)

stmt_typed : (k : ℕ) (vars : Vars) (s : Stmt) → AreInts k vars → IsThinStmt k s → IsTypedStmt vars s × AreInts (lets_after k s) (vars_after vars s)
stmt_typed k vars (Let x e) ints thin =
    let r = sum_typed vars e thin.1.0 in
    (r.0, subst (λ y. AreInts (k + 1) ((y, type_of vars e) ∷ vars)) (sym thin.0) (ints_more k vars (type_of vars e) r.1 ints))
stmt_typed k vars (Print (Var x)) ints thin = (named_typed k vars x ints thin, ints)
stmt_typed k vars (Print (Str t)) ints thin = ((tt, tt), ints)
stmt_typed k vars (Print (Int n)) ints thin = let r = sum_typed vars (Int n) thin.0 in ((r.0, printable (type_of vars (Int n)) r.1), ints)
stmt_typed k vars (Print (Add a b)) ints thin = let r = sum_typed vars (Add a b) thin.0 in ((r.0, tt), ints)

stmts_typed : (k : ℕ) (vars : Vars) (body : List Stmt) → AreInts k vars → AreThinAfter k body → IsTypedBody vars body
stmts_typed k vars [] ints each = tt
stmts_typed k vars (s ∷ body) ints each =
    let r = stmt_typed k vars s ints (first_thin k s body each) in
    (r.0, stmts_typed (lets_after k s) (vars_after vars s) body r.1 (rest_thin k s body each))

-- the body of a thin tree is typed
pub thin_typed : (body : List Stmt) → IsThin body → IsTypedBody [] body
thin_typed body thin = stmts_typed 0 [] body (λ j lt. absurd (omega (arith, lt))) (all_after body thin)
