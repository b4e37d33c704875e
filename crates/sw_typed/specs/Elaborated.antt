-- Elaborated expressions as an inductive type, on which definitions match.
use Rattle.std.specs.Prelude.{ℕ, ℤ, Bool, List, Option}
use Rattle.sw_base.specs.declared.ids.Span.{Span}
use Rattle.sw_tree.specs.declared.expr.TryForm.{TryForm}
use Rattle.sw_tree.specs.declared.expr.PrefixOperator.{PrefixOperator}
use Rattle.sw_tree.specs.declared.expr.BinaryOperator.{BinaryOperator}
use Rattle.sw_value.specs.declared.ty.Ty.{Ty}
use Rattle.sw_typed.specs.declared.entity.Entity.{Entity}
use Rattle.sw_typed.specs.declared.expr.Variable.{«Variable» as VariableNo}
use Rattle.sw_typed.specs.declared.expr.Coalescing.{Coalescing}

mutual
  -- its type, where it has one, and its first token
  pub data Expr : Type 0 where
    expr : Option Ty → Span → Form → Expr

  pub data Form : Type 0 where
    Integer : ℤ → Form
    Truth : Bool → Form
    String : List ℕ → Pieces → Form
    Nil : Form
    Variable : VariableNo → Form
    SelfValue : Form
    Member : Entity → Receiver → Span → Form
    Call : Entity → Receiver → Span → Exprs → Form
    Unresolved : Exprs → Form
    Index : Span → Expr → Expr → Form
    Array : Exprs → Form
    Binary : BinaryOperator → Span → Expr → Expr → Form
    Coalesce : Coalescing → Span → Expr → Expr → Form
    Prefix : PrefixOperator → Span → Expr → Form
    Ternary : Expr → Expr → Expr → Form
    Force : Span → Expr → Form
    Try : TryForm → Span → Expr → Form
    Await : Span → Expr → Form
    Paren : Expr → Form
    Present : Expr → Form
    Erase : Expr → Form
    Issue : Span → Expr → Form
    Wait : VariableNo → Form

  pub data Receiver : Type 0 where
    Nothing : Receiver
    Own : Receiver
    Value : Expr → Receiver

  pub data Exprs : Type 0 where
    no_expr : Exprs
    also : Expr → Exprs → Exprs

  pub data Pieces : Type 0 where
    no_piece : Pieces
    piece : Expr → List ℕ → Pieces → Pieces
