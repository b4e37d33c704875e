-- How patterns, conditions and statements are written.
use Rattle.std.specs.Prelude.{List, [], ◌∷◌, ◌++◌, map, Option, Some, None, Bool, true, false, if◌then◌else◌}
use Rattle.sw_lex.specs.declared.token.TokenKind.{TokenKind}
use Rattle.sw_lex.specs.declared.token.TokenKind.TheVariants as k
use Rattle.sw_layout.specs.declared.gap.Gap.{Gap}
use Rattle.sw_layout.specs.declared.gap.Gap.TheVariants as gap
use Rattle.sw_layout.specs.Words.{Word, plain}
use Rattle.sw_tree.specs.declared.expr.Name.{Name}
use Rattle.sw_tree.specs.declared.expr.Expr.{Expr}
use Rattle.sw_tree.specs.declared.expr.Binding.{Binding}
use Rattle.sw_tree.specs.declared.expr.Binding.TheVariants as binding
use Rattle.sw_tree.specs.declared.types.«Type».{«Type» as TypeTree}
use Rattle.sw_tree.specs.declared.stmt.AssignOperator.{AssignOperator}
use Rattle.sw_tree.specs.declared.stmt.AssignOperator.TheVariants as assign
use Rattle.sw_tree.specs.declared.stmt.RangeOperator.{RangeOperator}
use Rattle.sw_tree.specs.declared.stmt.RangeOperator.TheVariants as range
use Rattle.sw_tree.specs.declared.stmt.RangeEnd.{RangeEnd}
use Rattle.sw_tree.specs.declared.stmt.Condition.{Condition}
use Rattle.sw_tree.specs.declared.stmt.Condition.TheVariants as c
use Rattle.sw_tree.specs.declared.stmt.ArmLabel.{ArmLabel}
use Rattle.sw_tree.specs.declared.stmt.ArmLabel.TheVariants as arm
use Rattle.sw_tree.specs.declared.stmt.Pattern.{Pattern}
use Rattle.sw_tree.specs.declared.stmt.Pattern.TheVariants as p
use Rattle.sw_tree.specs.declared.stmt.Bind.{Bind}
use Rattle.sw_tree.specs.declared.stmt.Bind.TheVariants as b
use Rattle.sw_tree.specs.declared.stmt.CatchPattern.{CatchPattern}
use Rattle.sw_tree.specs.declared.stmt.CatchPattern.TheVariants as cp
use Rattle.sw_tree.specs.declared.stmt.Branch.{Branch}
use Rattle.sw_tree.specs.declared.stmt.Catch.{Catch}
use Rattle.sw_tree.specs.declared.stmt.SwitchArm.{SwitchArm}
use Rattle.sw_tree.specs.declared.stmt.Stmt.{Stmt, fold-Stmt}
use Rattle.sw_tree.specs.declared.stmt.Stmt.TheOpen.{Stmt-F, Branch-F, Catch-F, SwitchArm-F}
use Rattle.sw_print.specs.Expressions.{W, name_word, dot_name, listed, in_parens, perhaps, type_words, expr_words, literal_words}

-- ---- patterns

abbrev pub bind_words : Bind → W
bind_words (b.Let name) g = plain k.Let g ∷ name_word name gap.Space ∷ []
bind_words b.Any g = plain k.Underscore g ∷ []

abbrev pub binds_words : Option (List Bind) → List Word
binds_words = perhaps (λ xs. in_parens (map bind_words xs))

abbrev pub pattern_words : Pattern → W
pattern_words (p.Any at) g = plain k.Underscore g ∷ []
pattern_words (p.Literal at value) g = literal_words value g
pattern_words (p.Nil at) g = plain k.Nil g ∷ []
pattern_words (p.Case None at name binds) g = dot_name name g ++ binds_words binds
pattern_words (p.Case (Some outer) at name binds) g = name_word outer g ∷ (dot_name name gap.Joined ++ binds_words binds)

abbrev pub catch_pattern_words : CatchPattern → W
catch_pattern_words (cp.As name of) g = plain k.Let g ∷ name_word name gap.Space ∷ plain k.As gap.Space ∷ name_word of gap.Space ∷ []
catch_pattern_words (cp.Case outer name binds) g = name_word outer g ∷ (dot_name name gap.Joined ++ binds_words binds)

-- ---- parts of statements

abbrev pub binding_word : Binding → Gap → Word
binding_word binding.Let = plain k.Let
binding_word binding.Var = plain k.Var

abbrev pub assign_mark : AssignOperator → TokenKind
assign_mark assign.Assign = k.Assign
assign_mark assign.Add = k.PlusAssign
assign_mark assign.Subtract = k.MinusAssign
assign_mark assign.Multiply = k.StarAssign
assign_mark assign.Divide = k.SlashAssign
assign_mark assign.Remainder = k.PercentAssign

abbrev pub range_mark : RangeOperator → TokenKind
range_mark range.HalfOpen = k.HalfOpenRange
range_mark range.Closed = k.Ellipsis

-- : type
abbrev pub annotation_words : TypeTree → List Word
annotation_words declared = plain k.Colon gap.Space ∷ type_words declared gap.Space

-- = expr
abbrev pub initial_words : Expr → List Word
initial_words value = plain k.Assign gap.Space ∷ expr_words value gap.Space

abbrev pub condition_words : Condition → W
condition_words (c.Expr x) g = expr_words x g
condition_words (c.Bind binding name value) g = binding_word binding g ∷ name_word name gap.Space ∷ perhaps initial_words value

abbrev pub conditions_words : List Condition → List Word
conditions_words xs = listed (map condition_words xs)

-- a name, or `_`
abbrev pub loop_word : Option Name → Word
loop_word None = plain k.Underscore gap.Space
loop_word (Some name) = name_word name gap.Space

abbrev pub range_words : RangeEnd → List Word
range_words x = plain (range_mark x.operator) gap.Space ∷ expr_words x.value gap.Space

-- ---- statements

abbrev pub begins_with_dot : List Word → Bool
begins_with_dot [] = false
begins_with_dot (first ∷ words) = is_dot first.kind
  where
    is_dot : TokenKind → Bool
    is_dot k.Dot = true
    is_dot kind = false

-- A statement after another has a line of its own; one that begins with `.` stands on the line on which the one before
-- it ends, after `;`.
abbrev pub separated : W → List Word
separated x = if begins_with_dot (x gap.Line) then plain k.Semicolon gap.Space ∷ x gap.Space else x gap.Line

abbrev pub followed : List W → List Word
followed [] = []
followed (x ∷ xs) = separated x ++ followed xs

-- statements: the first has a line of its own
abbrev pub lines : List W → List Word
lines [] = []
lines (x ∷ xs) = x gap.Line ++ followed xs

-- each on a line of its own
abbrev pub each_line : List W → List Word
each_line [] = []
each_line (x ∷ xs) = x gap.Line ++ each_line xs

-- words between braces, of which the closing one has a line of its own
abbrev pub in_braces : List Word → List Word
in_braces words = plain k.LeftBrace gap.Space ∷ (words ++ plain k.RightBrace gap.Line ∷ [])

abbrev pub label_words : ArmLabel → W
label_words (arm.Case patterns) g = plain k.Case g ∷ (listed (map pattern_words patterns) ++ plain k.Colon gap.Space ∷ [])
label_words arm.Default g = plain k.Default g ∷ plain k.Colon gap.Space ∷ []

-- each after an `else`
abbrev pub else_ifs : List W → List Word
else_ifs [] = []
else_ifs (x ∷ xs) = plain k.Else gap.Space ∷ (x gap.Space ++ else_ifs xs)

abbrev pub else_words : List W → List Word
else_words body = plain k.Else gap.Space ∷ in_braces (lines body)

abbrev pub catches_words : List W → List Word
catches_words [] = []
catches_words (x ∷ xs) = x gap.Space ++ catches_words xs

abbrev pub stmt_level : Stmt-F W W W W → W
stmt_level (Stmt-F.Local at binding name declared value) g = binding_word binding g ∷ name_word name gap.Space ∷ (perhaps annotation_words declared ++ initial_words value)
stmt_level (Stmt-F.Assign to operator at value) g = expr_words to g ++ (plain (assign_mark operator) gap.Space ∷ expr_words value gap.Space)
stmt_level (Stmt-F.Discard at value) g = plain k.Underscore g ∷ initial_words value
stmt_level (Stmt-F.Expr x) g = expr_words x g
stmt_level (Stmt-F.If first others otherwise) g = first g ++ (else_ifs others ++ perhaps else_words otherwise)
stmt_level (Stmt-F.Guard at conditions body) g = plain k.Guard g ∷ (conditions_words conditions ++ else_words body)
stmt_level (Stmt-F.While at conditions body) g = plain k.While g ∷ (conditions_words conditions ++ in_braces (lines body))
stmt_level (Stmt-F.For at name first last body) g =
    plain k.For g ∷ loop_word name ∷ plain k.In gap.Space ∷ (expr_words first gap.Space ++ (perhaps range_words last ++ in_braces (lines body)))
stmt_level (Stmt-F.Switch at subject arms) g = plain k.Switch g ∷ (expr_words subject gap.Space ++ in_braces (each_line arms))
stmt_level (Stmt-F.Do at body catches) g = plain k.Do g ∷ (in_braces (lines body) ++ catches_words catches)
stmt_level (Stmt-F.Return at value) g = plain k.Return g ∷ perhaps (λ x. expr_words x gap.Space) value
stmt_level (Stmt-F.Throw at value) g = plain k.Throw g ∷ expr_words value gap.Space
stmt_level (Stmt-F.Break at) g = plain k.Break g ∷ []
stmt_level (Stmt-F.Continue at) g = plain k.Continue g ∷ []

abbrev pub branch_level : Branch-F W W W W → W
branch_level x g = plain k.If g ∷ (conditions_words x.conditions ++ in_braces (lines x.body))

abbrev pub catch_level : Catch-F W W W W → W
catch_level x g = plain k.Catch g ∷ (perhaps (λ pattern. catch_pattern_words pattern gap.Space) x.pattern ++ in_braces (lines x.body))

abbrev pub arm_level : SwitchArm-F W W W W → W
arm_level x g = label_words x.label g ++ lines x.body

abbrev pub stmt_words : Stmt → W
stmt_words = fold-Stmt W W W W stmt_level branch_level catch_level arm_level

abbrev pub block_words : List Stmt → List Word
block_words body = in_braces (lines (map stmt_words body))

abbrev pub branch_words : Branch → W
branch_words x g = plain k.If g ∷ (conditions_words x.conditions ++ block_words x.body)

abbrev pub catch_words : Catch → W
catch_words x g = plain k.Catch g ∷ (perhaps (λ pattern. catch_pattern_words pattern gap.Space) x.pattern ++ block_words x.body)

abbrev pub arm_words : SwitchArm → W
arm_words x g = label_words x.label g ++ lines (map stmt_words x.body)
