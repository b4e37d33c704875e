-- The nonterminals of the grammar, and what the sentences of each stand for.
use Rattle.std.specs.Prelude.{ℕ, List, Option}
use Rattle.sw_tree.specs.declared.expr.Expr.{Expr as ExprTree}
use Rattle.sw_tree.specs.declared.expr.Argument.{Argument as ArgumentTree}
use Rattle.sw_tree.specs.declared.types.«Type».{«Type» as TypeTree}
use Rattle.sw_tree.specs.declared.stmt.Stmt.{Stmt}
use Rattle.sw_tree.specs.declared.stmt.Branch.{Branch}
use Rattle.sw_tree.specs.declared.stmt.SwitchArm.{SwitchArm}
use Rattle.sw_tree.specs.declared.stmt.Condition.{Condition as ConditionTree}
use Rattle.sw_tree.specs.declared.stmt.Pattern.{Pattern as PatternTree}
use Rattle.sw_tree.specs.declared.stmt.CatchPattern.{CatchPattern}
use Rattle.sw_tree.specs.declared.decl.Tree.{Tree}
use Rattle.sw_tree.specs.declared.decl.Decl.{Decl}
use Rattle.sw_tree.specs.declared.decl.Member.{Member}
use Rattle.sw_tree.specs.declared.decl.EnumItem.{EnumItem}
use Rattle.sw_tree.specs.declared.decl.Requirement.{Requirement}
use Rattle.sw_tree.specs.declared.decl.Case.{Case as CaseTree}
use Rattle.sw_tree.specs.declared.decl.Payload.{Payload as PayloadTree}
use Rattle.sw_tree.specs.declared.decl.Parameter.{Parameter}

-- what stands in a list whose items are separated by `;` or a line break, other than statements
pub data ItemKind : Type 0 where
  Decls : ItemKind
  Members : ItemKind
  EnumItems : ItemKind
  Requirements : ItemKind

-- where statements stand: between braces, or in an arm of a `switch`, where other arms may follow
pub data Context : Type 0 where
  InBlock : Context
  InArm : Context

-- what a statement ends in: an expression, with which what follows may go on, or something else
pub data Ending : Type 0 where
  Open : Ending
  Closed : Ending

pub data Nonterminal : Type 0 where
  File : Nonterminal
  -- items of a list, at least one; what may follow an item; one item
  ItemList : ItemKind → Nonterminal
  AfterItem : ItemKind → Nonterminal
  Item : ItemKind → Nonterminal
  Param : Nonterminal
  Case : Nonterminal
  Payload : Nonterminal
  TypeExpr : Nonterminal
  BaseType : Nonterminal
  Block : Nonterminal
  -- statements, perhaps none; at least one; and what may follow a statement
  Statements : Context → Nonterminal
  SomeStatements : Context → Nonterminal
  AfterStatement : Context → Ending → Nonterminal
  AfterReturn : Context → Nonterminal
  -- a statement with this ending; a `return` has either
  Statement : Ending → Nonterminal
  If : Nonterminal
  -- at least one arm
  Arms : Nonterminal
  Condition : Nonterminal
  Pattern : Nonterminal
  Caught : Nonterminal
  Expr : Nonterminal
  Ternary : Nonterminal
  -- an expression whose binary operators are of this strength or more
  Binary : ℕ → Nonterminal
  Prefix : Nonterminal
  Postfix : Nonterminal
  -- what may follow a primary
  PostfixForm : Nonterminal
  Argument : Nonterminal
  Primary : Nonterminal
  Elements : Nonterminal

abbrev pub ItemTree : ItemKind → Type 0
ItemTree Decls = Decl
ItemTree Members = Member
ItemTree EnumItems = EnumItem
ItemTree Requirements = Requirement

-- statements, and the arms after them; in a block there are none
abbrev pub Body : Type 0
Body = List Stmt × List SwitchArm

-- the branches of an `if`, and the block of an `else` without `if`
abbrev pub Branches : Type 0
Branches = Branch × (List Branch × Option (List Stmt))

abbrev pub Sort : Nonterminal → Type 0
Sort File = Tree
Sort (ItemList l) = List (ItemTree l)
Sort (AfterItem l) = List (ItemTree l)
Sort (Item l) = ItemTree l
Sort Param = Parameter
Sort Case = CaseTree
Sort Payload = PayloadTree
Sort TypeExpr = TypeTree
Sort BaseType = TypeTree
Sort Block = List Stmt
Sort (Statements p) = Body
Sort (SomeStatements p) = Body
Sort (AfterStatement p e) = Body
-- the value of the `return` too
Sort (AfterReturn p) = Option ExprTree × Body
Sort (Statement e) = Stmt
Sort If = Branches
Sort Arms = List SwitchArm
Sort Condition = ConditionTree
Sort Pattern = PatternTree
Sort Caught = CatchPattern
Sort Expr = ExprTree
Sort Ternary = ExprTree
Sort (Binary n) = ExprTree
Sort Prefix = ExprTree
Sort Postfix = ExprTree
-- what it makes of the expression before it
Sort PostfixForm = ExprTree → ExprTree
Sort Argument = ArgumentTree
Sort Primary = ExprTree
Sort Elements = List ExprTree
