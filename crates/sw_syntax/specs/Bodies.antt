-- What is read of a body, or of a statement, after its first parts, for a reader that goes on from there.
use Rattle.std.specs.Prelude.{◌≡◌, ℕ, Bool, true, false, ◌&&◌, List, [], ◌∷◌, ◌++◌, Option, Some, None}
use Rattle.sw_base.specs.declared.ids.Span.{Span}
use Rattle.sw_lex.specs.declared.token.TokenKind.TheVariants as k
use Rattle.sw_grammar.specs.Grammar.{nonterminal, maybe, many, terminal, gives, counts}
use Rattle.sw_grammar.specs.Reading.{Out, got, ◌>>=◌, at_first, if_goes}
use Rattle.sw_tree.specs.declared.expr.Name.{Name}
use Rattle.sw_tree.specs.declared.expr.Expr.{Expr as ExprTree}
use Rattle.sw_tree.specs.declared.types.«Type».{«Type» as TypeTree}
use Rattle.sw_tree.specs.declared.stmt.Stmt.{Stmt}
use Rattle.sw_tree.specs.declared.stmt.Stmt.TheVariants as s
use Rattle.sw_tree.specs.declared.stmt.Branch.{Branch}
use Rattle.sw_tree.specs.declared.stmt.SwitchArm.{SwitchArm}
use Rattle.sw_tree.specs.declared.stmt.ArmLabel.{ArmLabel}
use Rattle.sw_tree.specs.declared.stmt.Catch.{Catch}
use Rattle.sw_tree.specs.declared.stmt.CatchPattern.{CatchPattern}
use Rattle.sw_tree.specs.declared.stmt.Condition.{Condition as ConditionTree}
use Rattle.sw_tree.specs.declared.stmt.Pattern.{Pattern as PatternTree}
use Rattle.sw_tree.specs.declared.stmt.RangeEnd.{RangeEnd}
use Rattle.sw_syntax.specs.declared.class.Sight.{Sight}
use Rattle.sw_syntax.specs.Tokens.{Sighted}
use Rattle.sw_syntax.specs.Tests.{is, is_else, is_else_if, is_assignment, is_range, goes_on_line, starts_expr}
use Rattle.sw_syntax.specs.Values.{or_none, is_target}
use Rattle.sw_syntax.specs.Forms.{range_end, ahead, assigned, else_if, else_block, branches_of}
use Rattle.sw_syntax.specs.Nonterminals.{Context, InArm, Ending, Statements, AfterStatement, AfterReturn, Block, If, Arms, Condition, Pattern, Caught, Body, Branches}
use Rattle.sw_syntax.specs.Parts.{P, ◌·◌, ◌∣◌, tok, name, after, any, whole_expr, in_braces}
use Rattle.sw_syntax.specs.Grammar.{annotation, initial, conds, branch, arm_label, catch}
use Rattle.sw_syntax.specs.Answering.{read, read_part}
use Rattle.sw_syntax.specs.Lists.{more}

-- ---- bodies

-- a body with these statements before it
abbrev pub put : List Stmt → Body → Body
put xs body = (xs ++ body.0, body.1)

unfoldable pub body_from : (lenient : Bool) → Context → ℕ → ℕ → ℕ → List Stmt → List Sighted → Out Sighted Body
body_from lenient at d l c xs ts = read lenient (Statements at) d l c ts >>= (λ body c' rest. got (put xs body) c' rest)

-- the same from after a statement with this ending on
unfoldable pub after_stmt : (lenient : Bool) → Context → Ending → ℕ → ℕ → ℕ → List Stmt → Stmt → List Sighted → Out Sighted Body
after_stmt lenient at ending d l c xs x ts = read lenient (AfterStatement at ending) d l c ts >>= (λ body c' rest. got (put xs (ahead x body)) c' rest)

-- the same from after a `return` on, which stands at this place
unfoldable pub after_return : (lenient : Bool) → Context → ℕ → ℕ → ℕ → List Stmt → Span → List Sighted → Out Sighted Body
after_return lenient at d l c xs span ts = read lenient (AfterReturn at) d l c ts >>= (λ x c' rest. got (put xs (ahead (s.Return span x.0) x.1)) c' rest)

-- the expression of a `return` begins on its line
abbrev pub is_returned : Sight → Bool
is_returned t = goes_on_line t && starts_expr t

-- after the statements of an arm: another arm, or nothing more
abbrev pub after_body : (lenient : Bool) → ℕ → ℕ → ℕ → List Stmt → Bool → List Sighted → Out Sighted Body
after_body lenient d l c xs true ts = read lenient Arms d l c ts >>= (λ arms c' rest. got (xs, arms) c' rest)
after_body lenient d l c xs false ts = got (xs, []) c ts

-- ---- arms

-- the arms between the braces of a `switch`, perhaps none; and those after the first ones
unfoldable pub arm_list : (lenient : Bool) → ℕ → ℕ → ℕ → List Sighted → Out Sighted (List SwitchArm)
arm_list lenient = read_part lenient (gives or_none (maybe (nonterminal Arms)))

unfoldable pub switch_block : (lenient : Bool) → ℕ → ℕ → ℕ → List Sighted → Out Sighted (List SwitchArm)
switch_block lenient = read_part lenient (in_braces (gives or_none (maybe (nonterminal Arms))))

unfoldable pub arms_from : (lenient : Bool) → ℕ → ℕ → ℕ → List SwitchArm → List Sighted → Out Sighted (List SwitchArm)
arms_from lenient d l c arms ts = read lenient Arms d l c ts >>= (λ others c' rest. got (arms ++ others) c' rest)

unfoldable pub pattern_list : (lenient : Bool) → ℕ → ℕ → ℕ → List Sighted → Out Sighted (List PatternTree)
pattern_list lenient = read_part lenient (any (nonterminal Pattern))

abbrev pub more_patterns : (lenient : Bool) → ℕ → ℕ → ℕ → List PatternTree → List Sighted → Out Sighted (List PatternTree)
more_patterns lenient = more lenient (nonterminal Pattern)

unfoldable pub label_part : (lenient : Bool) → ℕ → ℕ → ℕ → List Sighted → Out Sighted ArmLabel
label_part lenient = read_part lenient arm_label

-- arms after the first ones, from the first statement of an arm with this label on
abbrev pub arm_from : (lenient : Bool) → ℕ → ℕ → ℕ → List SwitchArm → ArmLabel → List Sighted → Out Sighted (List SwitchArm)
arm_from lenient d l c arms label ts = body_from lenient InArm d l c [] ts >>= (λ body c' rest. got (arms ++ record { label = label; body = body.0 } ∷ body.1) c' rest)

-- ---- `if`

unfoldable pub cond_list : (lenient : Bool) → ℕ → ℕ → ℕ → List Sighted → Out Sighted (List ConditionTree)
cond_list lenient = read_part lenient conds

abbrev pub more_conds : (lenient : Bool) → ℕ → ℕ → ℕ → List ConditionTree → List Sighted → Out Sighted (List ConditionTree)
more_conds lenient = more lenient (nonterminal Condition)

unfoldable pub branch_part : (lenient : Bool) → ℕ → ℕ → ℕ → List Sighted → Out Sighted Branch
branch_part lenient = read_part lenient branch

-- what follows a branch
abbrev pub otherwise : P (Branch → Branches)
otherwise = gives else_block (after (terminal is_else) (nonterminal Block)) ∣ gives else_if (after (counts (terminal is_else_if)) (nonterminal If))

-- the branches after the first ones, and the block of an `else` without `if`
abbrev pub with_others : Branch → List Branch → Option (Branch → Branches) → Branches
with_others first others rest = (first, (others ++ (branches_of first rest).1.0, (branches_of first rest).1.1))

unfoldable pub branches_from : (lenient : Bool) → ℕ → ℕ → ℕ → Branch → List Branch → List Sighted → Out Sighted Branches
branches_from lenient d l c first others ts = read_part lenient (maybe otherwise) d l c ts >>= (λ x c' rest. got (with_others first others x) c' rest)

-- ---- `do`

unfoldable pub catches_from : (lenient : Bool) → ℕ → ℕ → ℕ → List Catch → List Sighted → Out Sighted (List Catch)
catches_from lenient d l c xs ts = read_part lenient (many catch) d l c ts >>= (λ ys c' rest. got (xs ++ ys) c' rest)

unfoldable pub catch_pattern : (lenient : Bool) → ℕ → ℕ → ℕ → List Sighted → Out Sighted (Option CatchPattern)
catch_pattern lenient = read_part lenient (maybe (nonterminal Caught))

-- ---- parts of statements

unfoldable pub annotation_part : (lenient : Bool) → ℕ → ℕ → ℕ → List Sighted → Out Sighted (Option TypeTree)
annotation_part lenient = read_part lenient (maybe annotation)

unfoldable pub initial_part : (lenient : Bool) → ℕ → ℕ → ℕ → List Sighted → Out Sighted (Option ExprTree)
initial_part lenient = read_part lenient (maybe initial)

-- the mark of an assignment to this expression and its right side, if they come
unfoldable pub assigned_part : (lenient : Bool) → ℕ → ℕ → ℕ → ExprTree → List Sighted → Out Sighted Stmt
assigned_part lenient d l c x ts =
    if_goes (is_target x && at_first is_assignment ts) x c ts (read_part lenient (terminal is_assignment · whole_expr) d l c ts) >>= (λ y c' rest. got (assigned y.0 y.1) c' rest)

-- the name of a `for`, or its `_`
unfoldable pub loop_name : (lenient : Bool) → ℕ → ℕ → ℕ → List Sighted → Out Sighted (Option Name)
loop_name lenient = read_part lenient (gives Some name ∣ gives (λ _. None) (tok k.Underscore))

unfoldable pub range_part : (lenient : Bool) → ℕ → ℕ → ℕ → List Sighted → Out Sighted (Option RangeEnd)
range_part lenient = read_part lenient (maybe (gives (λ x. range_end x.0 x.1) (terminal is_range · whole_expr)))

-- none of `if`, `guard` and `while` stands first
abbrev pub IsNoCondition : List Sighted → Type 0
IsNoCondition ts = (at_first (is k.If) ts ≡ false) × (at_first (is k.Guard) ts ≡ false) × (at_first (is k.While) ts ≡ false)

-- and none of `for`, `switch` and `do`
abbrev pub IsJump : List Sighted → Type 0
IsJump ts = IsNoCondition ts × (at_first (is k.For) ts ≡ false) × (at_first (is k.Switch) ts ≡ false) × (at_first (is k.Do) ts ≡ false)
