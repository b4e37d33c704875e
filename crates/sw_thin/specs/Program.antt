-- The programs of thin trees as plain inductive types, on which definitions match.
use Rattle.std.specs.Prelude.{ℕ, ℤ, List, codes}

pub data Expr : Type 0 where
  Int : ℤ → Expr
  Str : List ℕ → Expr
  Var : List ℕ → Expr
  Add : Expr → Expr → Expr

pub data Stmt : Type 0 where
  Let : List ℕ → Expr → Stmt
  Print : Expr → Stmt

pub record Func : Type 0 where
  pub name : List ℕ
  pub body : List Stmt

-- the func `main` with this body
abbrev pub main_func : List Stmt → Func
main_func body = record { name = codes "main"; body = body }
