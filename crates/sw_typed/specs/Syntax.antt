-- Expressions of a source as an inductive type, on which definitions match.
use Rattle.std.specs.Prelude.{ℕ, ℤ, Bool, Option, List}
use Rattle.sw_base.specs.declared.ids.Span.{Span}
use Rattle.sw_tree.specs.declared.expr.Name.{Name}
use Rattle.sw_tree.specs.declared.expr.TryForm.{TryForm}
use Rattle.sw_tree.specs.declared.expr.PrefixOperator.{PrefixOperator}
use Rattle.sw_tree.specs.declared.expr.BinaryOperator.{BinaryOperator}

mutual
  pub data Expr : Type 0 where
    Try : TryForm → Span → Expr → Expr
    Await : Span → Expr → Expr
    Ternary : Expr → Expr → Expr → Expr
    Binary : BinaryOperator → Span → Expr → Expr → Expr
    Prefix : PrefixOperator → Span → Expr → Expr
    Member : Expr → Name → Expr
    Call : Expr → Span → Args → Expr
    Index : Expr → Span → Expr → Expr
    Force : Expr → Span → Expr
    Literal : Span → Constant → Expr
    Nil : Span → Expr
    Named : Name → Expr
    SelfValue : Span → Expr
    Implicit : Span → Name → Expr
    Paren : Span → Expr → Expr
    Array : Span → Exprs → Expr
    Issue : Span → Expr → Expr
    Wait : Name → Expr

  pub data Constant : Type 0 where
    Integer : ℤ → Constant
    Truth : Bool → Constant
    String : List ℕ → Pieces → Constant

  -- the elements of an array
  pub data Exprs : Type 0 where
    no_expr : Exprs
    expr : Expr → Exprs → Exprs

  -- arguments with their labels
  pub data Args : Type 0 where
    no_arg : Args
    arg : Option Name → Expr → Args → Args

  -- `\( )` in a string, each with the text after it
  pub data Pieces : Type 0 where
    no_piece : Pieces
    piece : Expr → List ℕ → Pieces → Pieces
