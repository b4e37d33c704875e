-- The events of types, expressions, patterns, conditions, statements and blocks: one line for each form.
use Rattle.std.specs.Prelude.{List, [], ◌∷◌, ◌++◌, map, Option, Some, None, codes, length, if◌then◌else◌, ◌==◌}
use Rattle.sw_base.specs.declared.ids.Span.{Span}
use Rattle.sw_tree.specs.declared.expr.Argument.{Argument}
use Rattle.sw_tree.specs.declared.expr.StringPiece.{StringPiece}
use Rattle.sw_tree.specs.declared.expr.Literal.{Literal}
use Rattle.sw_tree.specs.declared.expr.Expr.{Expr, fold-Expr}
use Rattle.sw_tree.specs.declared.expr.Expr.TheOpen.{Expr-F, Literal-F, Argument-F, StringPiece-F}
use Rattle.sw_tree.specs.declared.expr.Expr.TheFolds.{fold-Literal}
use Rattle.sw_tree.specs.declared.types.«Type».{«Type» as TypeTree, fold-Type}
use Rattle.sw_tree.specs.declared.types.«Type».TheOpen.{Type-F}
use Rattle.sw_tree.specs.declared.stmt.Stmt.{Stmt, fold-Stmt}
use Rattle.sw_tree.specs.declared.stmt.Stmt.TheOpen.{Stmt-F, Branch-F, Catch-F, SwitchArm-F}
use Rattle.sw_tree.specs.declared.stmt.Branch.{Branch}
use Rattle.sw_tree.specs.declared.stmt.SwitchArm.{SwitchArm}
use Rattle.sw_tree.specs.declared.stmt.Catch.{Catch}
use Rattle.sw_tree.specs.declared.stmt.Condition.{Condition}
use Rattle.sw_tree.specs.declared.stmt.Condition.TheVariants as c
use Rattle.sw_tree.specs.declared.stmt.ArmLabel.{ArmLabel}
use Rattle.sw_tree.specs.declared.stmt.ArmLabel.TheVariants as arm
use Rattle.sw_tree.specs.declared.stmt.Pattern.{Pattern}
use Rattle.sw_tree.specs.declared.stmt.Pattern.TheVariants as p
use Rattle.sw_tree.specs.declared.stmt.Bind.{Bind}
use Rattle.sw_tree.specs.declared.stmt.Bind.TheVariants as b
use Rattle.sw_tree.specs.declared.stmt.CatchPattern.{CatchPattern}
use Rattle.sw_tree.specs.declared.stmt.CatchPattern.TheVariants as cp
use Rattle.sw_declared.specs.Members.{Label, Called}
use Rattle.sw_declared.specs.Declarations.{label_text}
use Rattle.sw_scope.specs.Events.{Event, binds, reads, types, inner, instance, scope, in_turn, each, perhaps}

-- ---- types

abbrev pub type_level : Type-F (List Event) → List Event
type_level (Type-F.Name name) = types name ∷ []
type_level (Type-F.Member outer name) = inner outer name ∷ []
type_level (Type-F.Array at x) = x
type_level (Type-F.Any at name) = types name ∷ []
type_level (Type-F.Void at) = []
type_level (Type-F.Optional x) = x

abbrev pub type_events : TypeTree → List Event
type_events = fold-Type (List Event) type_level

-- ---- expressions

-- The events of an expression, by the labels with which it is called, where it is. They go down to a name that stands
-- alone, and to nothing else.
abbrev pub ByCall : Type 0
ByCall = Called → List Event

-- of an argument: its label, and the events of its value
abbrev pub Labelled : Type 0
Labelled = Label × List Event

abbrev pub expr_level : Expr-F ByCall (List Event) Labelled (List Event) → ByCall
expr_level (Expr-F.Try form at x) called = x None
expr_level (Expr-F.Await at x) called = x None
expr_level (Expr-F.Ternary x (y, z)) called = x None ++ (y None ++ z None)
expr_level (Expr-F.Binary operator at (x, y)) called = x None ++ y None
expr_level (Expr-F.Prefix operator at x) called = x None
expr_level (Expr-F.Member x name) called = x None
expr_level (Expr-F.Call x (at, arguments)) called = x (Some (map (λ a. a.0) arguments)) ++ each (λ a. a.1) arguments
expr_level (Expr-F.Index x (at, y)) called = x None ++ y None
expr_level (Expr-F.Force x at) called = x None
expr_level (Expr-F.Literal at x) called = x
expr_level (Expr-F.Nil at) called = []
expr_level (Expr-F.Name name) called = reads name called ∷ []
expr_level (Expr-F.SelfValue at) called = instance at ∷ []
expr_level (Expr-F.Implicit at name) called = []
expr_level (Expr-F.Paren at x) called = x None
expr_level (Expr-F.Array at xs) called = each (λ x. x None) xs
expr_level (Expr-F.Issue at x) called = x None
expr_level (Expr-F.Wait name) called = reads name None ∷ []

abbrev pub literal_level : Literal-F ByCall (List Event) Labelled (List Event) → List Event
literal_level (Literal-F.Integer n) = []
literal_level (Literal-F.Bool value) = []
literal_level (Literal-F.String text pieces) = in_turn pieces

abbrev pub argument_level : Argument-F ByCall (List Event) Labelled (List Event) → Labelled
argument_level x = (label_text x.label, x.value None)

abbrev pub piece_level : StringPiece-F ByCall (List Event) Labelled (List Event) → List Event
piece_level x = x.value None

abbrev pub called_events : Expr → ByCall
called_events = fold-Expr ByCall (List Event) Labelled (List Event) expr_level literal_level argument_level piece_level

abbrev pub expr_events : Expr → List Event
expr_events x = called_events x None

abbrev pub argument_events : Argument → List Event
argument_events x = expr_events x.value

abbrev pub piece_events : StringPiece → List Event
piece_events x = expr_events x.value

abbrev pub literal_events : Literal → List Event
literal_events = fold-Literal ByCall (List Event) Labelled (List Event) expr_level literal_level argument_level piece_level

-- ---- patterns and conditions

abbrev pub bind_events : Bind → List Event
bind_events (b.Let name) = binds name ∷ []
bind_events b.Any = []

abbrev pub pattern_events : Pattern → List Event
pattern_events (p.Any at) = []
pattern_events (p.Literal at value) = literal_events value
pattern_events (p.Nil at) = []
pattern_events (p.Case of at name parts) = perhaps (λ name. types name ∷ []) of ++ perhaps (each bind_events) parts

-- What a `catch` binds; without a pattern, the name `error`.
abbrev pub caught_events : Span → Option CatchPattern → List Event
caught_events at None = binds (record { text = codes "error"; span = at }) ∷ []
caught_events at (Some (cp.As name of)) = types of ∷ binds name ∷ []
caught_events at (Some (cp.Case of name parts)) = types of ∷ perhaps (each bind_events) parts

abbrev pub condition_events : Condition → List Event
condition_events (c.Expr x) = expr_events x
condition_events (c.Bind binding name (Some value)) = expr_events value ++ binds name ∷ []
condition_events (c.Bind binding name None) = reads name None ∷ binds name ∷ []

-- ---- statements

-- a block is a scope
abbrev pub block : List (List Event) → List Event
block statements = scope (in_turn statements)

-- What one pattern binds is in sight in the arm; what one of several binds is not.
abbrev pub arm_events : ArmLabel → List Event → List Event
arm_events arm.Default body = body
arm_events (arm.Case patterns) body =
    if length patterns == 1 then scope (each pattern_events patterns ++ body) else scope (each pattern_events patterns) ++ body

-- A `let` or `var` binds after its own value. What a condition, a `for`, a `case` or a `catch` binds is in a scope round
-- the block that follows. A `guard` binds where it stands, and its block does not see that: so its block is listed first.
-- The order of the list says what is in sight where, and not where a refusal stands.
abbrev pub stmt_level : Stmt-F (List Event) (List Event) (List Event) (List Event) → List Event
stmt_level (Stmt-F.Local at binding name declared value) = perhaps type_events declared ++ (expr_events value ++ binds name ∷ [])
stmt_level (Stmt-F.Assign to operator at value) = expr_events to ++ expr_events value
stmt_level (Stmt-F.Discard at value) = expr_events value
stmt_level (Stmt-F.Expr x) = expr_events x
stmt_level (Stmt-F.If first others otherwise) = first ++ (in_turn others ++ perhaps block otherwise)
stmt_level (Stmt-F.Guard at conditions body) = block body ++ each condition_events conditions
stmt_level (Stmt-F.While at conditions body) = scope (each condition_events conditions ++ block body)
stmt_level (Stmt-F.For at name first last body) = expr_events first ++ (perhaps (λ end. expr_events end.value) last ++ scope (perhaps (λ name. binds name ∷ []) name ++ block body))
stmt_level (Stmt-F.Switch at subject arms) = expr_events subject ++ in_turn arms
stmt_level (Stmt-F.Do at body catches) = block body ++ in_turn catches
stmt_level (Stmt-F.Return at value) = perhaps expr_events value
stmt_level (Stmt-F.Throw at value) = expr_events value
stmt_level (Stmt-F.Break at) = []
stmt_level (Stmt-F.Continue at) = []

abbrev pub branch_level : Branch-F (List Event) (List Event) (List Event) (List Event) → List Event
branch_level x = scope (each condition_events x.conditions ++ block x.body)

abbrev pub catch_level : Catch-F (List Event) (List Event) (List Event) (List Event) → List Event
catch_level x = scope (caught_events x.span x.pattern ++ block x.body)

abbrev pub arm_level : SwitchArm-F (List Event) (List Event) (List Event) (List Event) → List Event
arm_level x = arm_events x.label (block x.body)

abbrev pub stmt_events : Stmt → List Event
stmt_events = fold-Stmt (List Event) (List Event) (List Event) (List Event) stmt_level branch_level catch_level arm_level

abbrev pub block_events : List Stmt → List Event
block_events body = block (map stmt_events body)

abbrev pub branch_events : Branch → List Event
branch_events x = scope (each condition_events x.conditions ++ block_events x.body)

abbrev pub catch_events : Catch → List Event
catch_events x = scope (caught_events x.span x.pattern ++ block_events x.body)

abbrev pub switch_arm_events : SwitchArm → List Event
switch_arm_events x = arm_events x.label (block_events x.body)
