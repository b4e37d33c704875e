-- Patterns, conditions and statements are written as words that stand apart.
use Rattle.std.proofs.Common.{◌≡◌, Bool, true, false, if◌then◌else◌, List, [], ◌∷◌, ◌++◌, map, Option, Some, None, refl, sym, subst, append_assoc}
use Rattle.sw_lex.specs.declared.token.TokenKind.{TokenKind}
use Rattle.sw_lex.specs.declared.token.TokenKind.TheVariants as k
use Rattle.sw_lex.specs.Bytes.{Text}
use Rattle.sw_layout.specs.declared.gap.Gap.{Gap}
use Rattle.sw_layout.specs.declared.gap.Gap.TheVariants as gap
use Rattle.sw_layout.specs.Words.{Word, plain, fixed}
use Rattle.sw_tree.specs.declared.expr.Name.{Name}
use Rattle.sw_tree.specs.declared.expr.Expr.{Expr}
use Rattle.sw_tree.specs.declared.expr.Binding.{Binding}
use Rattle.sw_tree.specs.declared.expr.Binding.TheVariants as binding
use Rattle.sw_tree.specs.declared.types.«Type».{«Type» as TypeTree}
use Rattle.sw_tree.specs.declared.stmt.AssignOperator.{AssignOperator}
use Rattle.sw_tree.specs.declared.stmt.AssignOperator.TheVariants as assign
use Rattle.sw_tree.specs.declared.stmt.RangeOperator.{RangeOperator}
use Rattle.sw_tree.specs.declared.stmt.RangeOperator.TheVariants as range
use Rattle.sw_tree.specs.declared.stmt.RangeEnd.{RangeEnd}
use Rattle.sw_tree.specs.declared.stmt.Condition.{Condition}
use Rattle.sw_tree.specs.declared.stmt.Condition.TheVariants as c
use Rattle.sw_tree.specs.declared.stmt.ArmLabel.{ArmLabel}
use Rattle.sw_tree.specs.declared.stmt.ArmLabel.TheVariants as arm
use Rattle.sw_tree.specs.declared.stmt.Pattern.{Pattern}
use Rattle.sw_tree.specs.declared.stmt.Pattern.TheVariants as p
use Rattle.sw_tree.specs.declared.stmt.Bind.{Bind}
use Rattle.sw_tree.specs.declared.stmt.Bind.TheVariants as b
use Rattle.sw_tree.specs.declared.stmt.CatchPattern.{CatchPattern}
use Rattle.sw_tree.specs.declared.stmt.CatchPattern.TheVariants as cp
use Rattle.sw_tree.specs.declared.stmt.Stmt.{Stmt, map-Stmt, roll-Stmt}
use Rattle.sw_tree.specs.declared.stmt.Branch.{Branch, fold-Branch, map-Branch, roll-Branch}
use Rattle.sw_tree.specs.declared.stmt.Catch.{Catch, fold-Catch, map-Catch, roll-Catch}
use Rattle.sw_tree.specs.declared.stmt.SwitchArm.{SwitchArm, fold-SwitchArm, map-SwitchArm, roll-SwitchArm}
use Rattle.sw_tree.specs.declared.stmt.Stmt.TheOpen.{Stmt-F, Branch-F, Catch-F, SwitchArm-F}
use Rattle.sw_tree.specs.declared.stmt.Stmt.TheFolds.{ind-Stmt, fold-roll-Stmt, fold-roll-Branch, fold-roll-Catch, fold-roll-SwitchArm}
use Rattle.sw_print.specs.Expressions.{W, word, dot_name, listed, perhaps, expr_words, type_words}
use Rattle.sw_print.specs.Statements.{bind_words, binds_words, pattern_words, catch_pattern_words, binding_word, assign_mark, range_mark, annotation_words, initial_words, condition_words, conditions_words, loop_word, range_words, begins_with_dot, separated, followed, lines, each_line, in_braces, label_words, else_ifs, else_words, catches_words, stmt_level, branch_level, catch_level, arm_level, stmt_words, block_words}
use Rattle.sw_print.proofs.Shape.{Shape, Held, Laid, Lead, Ends, AllHeld, is_simple, is_free, begins, begin, next, below, cons, none, cat, space, going_on, parens, member, member_laid, listed_laid}
use Rattle.sw_print.proofs.TypeShape.{type_laid}
use Rattle.sw_print.proofs.ExprShape.{expr_held, literal_held}

pub maybe_laid : {A : Type 0} (f : A → List Word) (x : Option A) → ((x : A) → Laid (f x)) → Laid (perhaps f x)
maybe_laid f None h = none
maybe_laid f (Some x) h = h x

-- ---- patterns

bind_held : (x : Bind) → Held (bind_words x)
bind_held (b.Let name) = begins k.Let (fixed k.Let) (word k.Name name.text gap.Space ∷ []) refl refl refl (cons k.Name name.text [] refl refl none)
bind_held b.Any = begins k.Underscore (fixed k.Underscore) [] refl refl refl none

binds_held : (xs : List Bind) → AllHeld (map bind_words xs)
binds_held [] = tt
binds_held (x ∷ xs) = (bind_held x, binds_held xs)

binds_laid : (xs : Option (List Bind)) → Laid (binds_words xs)
binds_laid None = none
binds_laid (Some xs) = parens (listed (map bind_words xs)) (listed_laid (map bind_words xs) (binds_held xs))

-- `.` and a name, going_on binds
case_held : (name : Name) (xs : Option (List Bind)) → Laid (plain k.Dot gap.Joined ∷ word k.Name name.text gap.Joined ∷ binds_words xs)
case_held name xs = cat (plain k.Dot gap.Joined ∷ word k.Name name.text gap.Joined ∷ []) (binds_words xs) (member_laid (fixed k.Dot) name.text) (binds_laid xs)

pub pattern_held : (x : Pattern) → Held (pattern_words x)
pattern_held (p.Any at) = begins k.Underscore (fixed k.Underscore) [] refl refl refl none
pattern_held (p.Literal at value) = literal_held value
pattern_held (p.Nil at) = begins k.Nil (fixed k.Nil) [] refl refl refl none
pattern_held (p.Case None at name xs) = going_on (dot_name name) (binds_words xs) (member (fixed k.Dot) name.text) (binds_laid xs)
pattern_held (p.Case (Some outer) at name xs) = begins k.Name outer.text (plain k.Dot gap.Joined ∷ word k.Name name.text gap.Joined ∷ binds_words xs) refl refl refl (case_held name xs)

pub patterns_held : (xs : List Pattern) → AllHeld (map pattern_words xs)
patterns_held [] = tt
patterns_held (x ∷ xs) = (pattern_held x, patterns_held xs)

pub catch_pattern_held : (x : CatchPattern) → Held (catch_pattern_words x)
catch_pattern_held (cp.As name of) =
    begins k.Let (fixed k.Let) (word k.Name name.text gap.Space ∷ plain k.As gap.Space ∷ word k.Name of.text gap.Space ∷ []) refl refl refl
    (cons k.Name name.text (plain k.As gap.Space ∷ word k.Name of.text gap.Space ∷ []) refl refl
    (cons k.As (fixed k.As) (word k.Name of.text gap.Space ∷ []) refl refl (cons k.Name of.text [] refl refl none)))
catch_pattern_held (cp.Case outer name xs) = begins k.Name outer.text (plain k.Dot gap.Joined ∷ word k.Name name.text gap.Joined ∷ binds_words xs) refl refl refl (case_held name xs)

-- ---- parts of statements

pub annotation_laid : (x : TypeTree) → Laid (annotation_words x)
annotation_laid x = cons k.Colon (fixed k.Colon) (type_words x gap.Space) refl refl (type_laid x)

pub expr_laid : (x : Expr) → Laid (expr_words x gap.Space)
expr_laid x = space (expr_words x) (expr_held x)

pub initial_laid : (x : Expr) → Laid (initial_words x)
initial_laid x = cons k.Assign (fixed k.Assign) (expr_words x gap.Space) refl refl (expr_laid x)

pub binding_held : (x : Binding) (v : List Word) → Laid v → Held (λ g. binding_word x g ∷ v)
binding_held binding.Let v h = begins k.Let (fixed k.Let) v refl refl refl h
binding_held binding.Var v h = begins k.Var (fixed k.Var) v refl refl refl h

condition_held : (x : Condition) → Held (condition_words x)
condition_held (c.Expr x) = expr_held x
condition_held (c.Bind binding name value) = binding_held binding (word k.Name name.text gap.Space ∷ perhaps initial_words value) (cons k.Name name.text (perhaps initial_words value) refl refl (maybe_laid initial_words value initial_laid))

conditions_held : (xs : List Condition) → AllHeld (map condition_words xs)
conditions_held [] = tt
conditions_held (x ∷ xs) = (condition_held x, conditions_held xs)

conditions_laid : (xs : List Condition) → Laid (conditions_words xs)
conditions_laid xs = listed_laid (map condition_words xs) (conditions_held xs)

assign_simple : (x : AssignOperator) → (is_simple (assign_mark x) ≡ true) × Ends (assign_mark x)
assign_simple assign.Assign = (refl, refl)
assign_simple assign.Add = (refl, refl)
assign_simple assign.Subtract = (refl, refl)
assign_simple assign.Multiply = (refl, refl)
assign_simple assign.Divide = (refl, refl)
assign_simple assign.Remainder = (refl, refl)

range_simple : (x : RangeOperator) → (is_simple (range_mark x) ≡ true) × Ends (range_mark x)
range_simple range.HalfOpen = (refl, refl)
range_simple range.Closed = (refl, refl)

range_laid : (x : RangeEnd) → Laid (range_words x)
range_laid x = cons (range_mark x.operator) (fixed (range_mark x.operator)) (expr_words x.value gap.Space) (range_simple x.operator).0 (range_simple x.operator).1 (expr_laid x.value)

loop_laid : (x : Option Name) (v : List Word) → Laid v → Laid (loop_word x ∷ v)
loop_laid None v h = cons k.Underscore (fixed k.Underscore) v refl refl h
loop_laid (Some name) v h = cons k.Name name.text v refl refl h

-- ---- outside of strings, where lines end

abbrev pub Stated : W → Type 0
Stated w = (g : Gap) (l : Option TokenKind) (rest : List Word) → Lead g [] l → ((e : TokenKind) → Ends e → Shape [] (Some e) rest) → Shape [] l (w g ++ rest)

abbrev pub Set : List Word → Type 0
Set ws = (i : TokenKind) (rest : List Word) → Ends i → ((e : TokenKind) → Ends e → Shape [] (Some e) rest) → Shape [] (Some i) (ws ++ rest)

pub set : (ws : List Word) → Laid ws → Set ws
set ws h i rest e more = h [] i rest e more

pub stated : (w : W) → Held w → Stated w
stated w h g l rest lead more = h g [] l rest lead more

pub set_none : Set []
set_none i rest e more = more i e

pub set_cat : (u v : List Word) → Set u → Set v → Set (u ++ v)
set_cat u v h h' i rest e more = subst (Shape [] (Some i)) (sym (append_assoc u v rest)) (h i (v ++ rest) e (λ j f. h' j rest f more))

pub set_cons : (kind : TokenKind) (text : Text) (v : List Word) → is_simple kind ≡ true → Ends kind → Set v → Set (word kind text gap.Space ∷ v)
set_cons kind text v s d h i rest e more = next kind text [] i (v ++ rest) s (h kind rest d more)

pub set_below : (kind : TokenKind) (text : Text) (v : List Word) → is_simple kind ≡ true → Ends kind → Set v → Set (word kind text gap.Line ∷ v)
set_below kind text v s d h i rest e more = below kind text i (v ++ rest) s (h kind rest d more)

pub state_begins : (kind : TokenKind) (text : Text) (v : List Word) → is_simple kind ≡ true → is_free kind ≡ true → Ends kind → Set v → Stated (λ g. word kind text g ∷ v)
state_begins kind text v s f d h g l rest lead more = begin kind text g [] l (v ++ rest) s f lead (h kind rest d more)

pub state_going_on : (w : W) (v : List Word) → Stated w → Set v → Stated (λ g. w g ++ v)
state_going_on w v h h' g l rest lead more = subst (Shape [] l) (sym (append_assoc (w g) v rest)) (h g l (v ++ rest) lead (λ e f. h' e rest f more))

pub set_space : (w : W) → Stated w → Set (w gap.Space)
set_space w h i rest e more = h gap.Space (Some i) rest (i, refl, e) more

pub set_line : (w : W) → Stated w → Set (w gap.Line)
set_line w h i rest e more = h gap.Line (Some i) rest (refl, (i, refl)) more

pub braces : (ws : List Word) → Set ws → Set (in_braces ws)
braces ws h = set_cons k.LeftBrace (fixed k.LeftBrace) (ws ++ plain k.RightBrace gap.Line ∷ []) refl refl (set_cat ws (plain k.RightBrace gap.Line ∷ []) h (set_below k.RightBrace (fixed k.RightBrace) [] refl refl set_none))

abbrev pub AllStated : List W → Type 0
AllStated [] = Unit {0}
AllStated (w ∷ ws) = Stated w × AllStated ws

separated_set : (w : W) → Stated w → Set (separated w)
separated_set w h = go (begins_with_dot (w gap.Line))
  where
    go : (t : Bool) → Set (if t then plain k.Semicolon gap.Space ∷ w gap.Space else w gap.Line)
    go true = set_cons k.Semicolon (fixed k.Semicolon) (w gap.Space) refl refl (set_space w h)
    go false = set_line w h

followed_set : (ws : List W) → AllStated ws → Set (followed ws)
followed_set [] h = set_none
followed_set (w ∷ ws) h = set_cat (separated w) (followed ws) (separated_set w h.0) (followed_set ws h.1)

pub lines_set : (ws : List W) → AllStated ws → Set (lines ws)
lines_set [] h = set_none
lines_set (w ∷ ws) h = set_cat (w gap.Line) (followed ws) (set_line w h.0) (followed_set ws h.1)

pub each_set : (ws : List W) → AllStated ws → Set (each_line ws)
each_set [] h = set_none
each_set (w ∷ ws) h = set_cat (w gap.Line) (each_line ws) (set_line w h.0) (each_set ws h.1)

else_ifs_set : (ws : List W) → AllStated ws → Set (else_ifs ws)
else_ifs_set [] h = set_none
else_ifs_set (w ∷ ws) h = set_cons k.Else (fixed k.Else) (w gap.Space ++ else_ifs ws) refl refl (set_cat (w gap.Space) (else_ifs ws) (set_space w h.0) (else_ifs_set ws h.1))

catches_set : (ws : List W) → AllStated ws → Set (catches_words ws)
catches_set [] h = set_none
catches_set (w ∷ ws) h = set_cat (w gap.Space) (catches_words ws) (set_space w h.0) (catches_set ws h.1)

else_set : (ws : List W) → AllStated ws → Set (else_words ws)
else_set ws h = set_cons k.Else (fixed k.Else) (in_braces (lines ws)) refl refl (braces (lines ws) (lines_set ws h))

label_stated : (x : ArmLabel) → Stated (label_words x)
label_stated (arm.Case patterns) =
    state_begins k.Case (fixed k.Case) (listed (map pattern_words patterns) ++ plain k.Colon gap.Space ∷ []) refl refl refl
    (set (listed (map pattern_words patterns) ++ plain k.Colon gap.Space ∷ []) (cat (listed (map pattern_words patterns)) (plain k.Colon gap.Space ∷ []) (listed_laid (map pattern_words patterns) (patterns_held patterns)) (cons k.Colon (fixed k.Colon) [] refl refl none)))
label_stated arm.Default = state_begins k.Default (fixed k.Default) (plain k.Colon gap.Space ∷ []) refl refl refl (set (plain k.Colon gap.Space ∷ []) (cons k.Colon (fixed k.Colon) [] refl refl none))

-- ---- layers

abbrev inner_branch : Branch → W
inner_branch = fold-Branch W W W W stmt_level branch_level catch_level arm_level

abbrev inner_catch : Catch → W
inner_catch = fold-Catch W W W W stmt_level branch_level catch_level arm_level

abbrev inner_arm : SwitchArm → W
inner_arm = fold-SwitchArm W W W W stmt_level branch_level catch_level arm_level

abbrev SS : Type 0
SS = (x : Stmt) × Stated (stmt_words x)

abbrev SB : Type 0
SB = (x : Branch) × Stated (inner_branch x)

abbrev SC : Type 0
SC = (x : Catch) × Stated (inner_catch x)

abbrev SA : Type 0
SA = (x : SwitchArm) × Stated (inner_arm x)

stmts_stated : (xs : List SS) → AllStated (map stmt_words (map (λ x. x.0) xs))
stmts_stated [] = tt
stmts_stated (x ∷ xs) = (x.1, stmts_stated xs)

branches_stated : (xs : List SB) → AllStated (map inner_branch (map (λ x. x.0) xs))
branches_stated [] = tt
branches_stated (x ∷ xs) = (x.1, branches_stated xs)

catches_stated : (xs : List SC) → AllStated (map inner_catch (map (λ x. x.0) xs))
catches_stated [] = tt
catches_stated (x ∷ xs) = (x.1, catches_stated xs)

arms_stated : (xs : List SA) → AllStated (map inner_arm (map (λ x. x.0) xs))
arms_stated [] = tt
arms_stated (x ∷ xs) = (x.1, arms_stated xs)

abbrev body_of : List SS → List W
body_of xs = map stmt_words (map (λ x. x.0) xs)

body_set : (xs : List SS) → Set (in_braces (lines (body_of xs)))
body_set xs = braces (lines (body_of xs)) (lines_set (body_of xs) (stmts_stated xs))

abbrev layer : Stmt-F SS SB SC SA → W
layer y = stmt_level (map-Stmt Stmt Branch Catch SwitchArm W W W W stmt_words inner_branch inner_catch inner_arm (map-Stmt SS SB SC SA Stmt Branch Catch SwitchArm (λ x. x.0) (λ x. x.0) (λ x. x.0) (λ x. x.0) y))

layer_stated : (y : Stmt-F SS SB SC SA) → Stated (layer y)
layer_stated (Stmt-F.Local at binding name declared value) =
    stated (λ g. binding_word binding g ∷ word k.Name name.text gap.Space ∷ (perhaps annotation_words declared ++ initial_words value)) (binding_held binding (word k.Name name.text gap.Space ∷ (perhaps annotation_words declared ++ initial_words value))
    (cons k.Name name.text (perhaps annotation_words declared ++ initial_words value) refl refl
    (cat (perhaps annotation_words declared) (initial_words value) (maybe_laid annotation_words declared annotation_laid) (initial_laid value))))
layer_stated (Stmt-F.Assign to operator at value) =
    stated (λ g. expr_words to g ++ (plain (assign_mark operator) gap.Space ∷ expr_words value gap.Space)) (going_on (expr_words to) (plain (assign_mark operator) gap.Space ∷ expr_words value gap.Space) (expr_held to)
    (cons (assign_mark operator) (fixed (assign_mark operator)) (expr_words value gap.Space) (assign_simple operator).0 (assign_simple operator).1 (expr_laid value)))
layer_stated (Stmt-F.Discard at value) = state_begins k.Underscore (fixed k.Underscore) (initial_words value) refl refl refl (set (initial_words value) (initial_laid value))
layer_stated (Stmt-F.Expr x) = stated (expr_words x) (expr_held x)
layer_stated (Stmt-F.If first others None) =
    state_going_on (inner_branch first.0) (else_ifs (map inner_branch (map (λ x. x.0) others)) ++ []) first.1
    (set_cat (else_ifs (map inner_branch (map (λ x. x.0) others))) [] (else_ifs_set (map inner_branch (map (λ x. x.0) others)) (branches_stated others)) set_none)
layer_stated (Stmt-F.If first others (Some body)) =
    state_going_on (inner_branch first.0) (else_ifs (map inner_branch (map (λ x. x.0) others)) ++ else_words (body_of body)) first.1
    (set_cat (else_ifs (map inner_branch (map (λ x. x.0) others))) (else_words (body_of body)) (else_ifs_set (map inner_branch (map (λ x. x.0) others)) (branches_stated others)) (else_set (body_of body) (stmts_stated body)))
layer_stated (Stmt-F.Guard at conditions body) =
    state_begins k.Guard (fixed k.Guard) (conditions_words conditions ++ else_words (body_of body)) refl refl refl
    (set_cat (conditions_words conditions) (else_words (body_of body)) (set (conditions_words conditions) (conditions_laid conditions)) (else_set (body_of body) (stmts_stated body)))
layer_stated (Stmt-F.While at conditions body) =
    state_begins k.While (fixed k.While) (conditions_words conditions ++ in_braces (lines (body_of body))) refl refl refl
    (set_cat (conditions_words conditions) (in_braces (lines (body_of body))) (set (conditions_words conditions) (conditions_laid conditions)) (body_set body))
layer_stated (Stmt-F.For at name first last body) =
    state_begins k.For (fixed k.For) (loop_word name ∷ plain k.In gap.Space ∷ (expr_words first gap.Space ++ (perhaps range_words last ++ in_braces (lines (body_of body))))) refl refl refl
    (set_cat (loop_word name ∷ plain k.In gap.Space ∷ []) (expr_words first gap.Space ++ (perhaps range_words last ++ in_braces (lines (body_of body))))
    (set (loop_word name ∷ plain k.In gap.Space ∷ []) (loop_laid name (plain k.In gap.Space ∷ []) (cons k.In (fixed k.In) [] refl refl none)))
    (set_cat (expr_words first gap.Space) (perhaps range_words last ++ in_braces (lines (body_of body))) (set (expr_words first gap.Space) (expr_laid first))
    (set_cat (perhaps range_words last) (in_braces (lines (body_of body))) (set (perhaps range_words last) (maybe_laid range_words last range_laid)) (body_set body))))
layer_stated (Stmt-F.Switch at subject arms) =
    state_begins k.Switch (fixed k.Switch) (expr_words subject gap.Space ++ in_braces (each_line (map inner_arm (map (λ x. x.0) arms)))) refl refl refl
    (set_cat (expr_words subject gap.Space) (in_braces (each_line (map inner_arm (map (λ x. x.0) arms)))) (set (expr_words subject gap.Space) (expr_laid subject))
    (braces (each_line (map inner_arm (map (λ x. x.0) arms))) (each_set (map inner_arm (map (λ x. x.0) arms)) (arms_stated arms))))
layer_stated (Stmt-F.Do at body catches) =
    state_begins k.Do (fixed k.Do) (in_braces (lines (body_of body)) ++ catches_words (map inner_catch (map (λ x. x.0) catches))) refl refl refl
    (set_cat (in_braces (lines (body_of body))) (catches_words (map inner_catch (map (λ x. x.0) catches))) (body_set body) (catches_set (map inner_catch (map (λ x. x.0) catches)) (catches_stated catches)))
layer_stated (Stmt-F.Return at value) = state_begins k.Return (fixed k.Return) (perhaps (λ x. expr_words x gap.Space) value) refl refl refl (set (perhaps (λ x. expr_words x gap.Space) value) (maybe_laid (λ x. expr_words x gap.Space) value expr_laid))
layer_stated (Stmt-F.Throw at value) = state_begins k.Throw (fixed k.Throw) (expr_words value gap.Space) refl refl refl (set (expr_words value gap.Space) (expr_laid value))
layer_stated (Stmt-F.Break at) = state_begins k.Break (fixed k.Break) [] refl refl refl set_none
layer_stated (Stmt-F.Continue at) = state_begins k.Continue (fixed k.Continue) [] refl refl refl set_none

stmt_node : (y : Stmt-F SS SB SC SA) → Stated (stmt_words (roll-Stmt (map-Stmt SS SB SC SA Stmt Branch Catch SwitchArm (λ x. x.0) (λ x. x.0) (λ x. x.0) (λ x. x.0) y)))
stmt_node y = subst Stated (sym (fold-roll-Stmt W W W W stmt_level branch_level catch_level arm_level (map-Stmt SS SB SC SA Stmt Branch Catch SwitchArm (λ x. x.0) (λ x. x.0) (λ x. x.0) (λ x. x.0) y))) (layer_stated y)

branch_node : (y : Branch-F SS SB SC SA) → Stated (inner_branch (roll-Branch (map-Branch SS SB SC SA Stmt Branch Catch SwitchArm (λ x. x.0) (λ x. x.0) (λ x. x.0) (λ x. x.0) y)))
branch_node y = subst Stated (sym (fold-roll-Branch W W W W stmt_level branch_level catch_level arm_level (map-Branch SS SB SC SA Stmt Branch Catch SwitchArm (λ x. x.0) (λ x. x.0) (λ x. x.0) (λ x. x.0) y)))
    (state_begins k.If (fixed k.If) (conditions_words y.conditions ++ in_braces (lines (body_of y.body))) refl refl refl
    (set_cat (conditions_words y.conditions) (in_braces (lines (body_of y.body))) (set (conditions_words y.conditions) (conditions_laid y.conditions)) (body_set y.body)))

catch_node : (y : Catch-F SS SB SC SA) → Stated (inner_catch (roll-Catch (map-Catch SS SB SC SA Stmt Branch Catch SwitchArm (λ x. x.0) (λ x. x.0) (λ x. x.0) (λ x. x.0) y)))
catch_node y = subst Stated (sym (fold-roll-Catch W W W W stmt_level branch_level catch_level arm_level (map-Catch SS SB SC SA Stmt Branch Catch SwitchArm (λ x. x.0) (λ x. x.0) (λ x. x.0) (λ x. x.0) y)))
    (state_begins k.Catch (fixed k.Catch) (perhaps (λ pattern. catch_pattern_words pattern gap.Space) y.pattern ++ in_braces (lines (body_of y.body))) refl refl refl
    (set_cat (perhaps (λ pattern. catch_pattern_words pattern gap.Space) y.pattern) (in_braces (lines (body_of y.body)))
    (set (perhaps (λ pattern. catch_pattern_words pattern gap.Space) y.pattern) (maybe_laid (λ pattern. catch_pattern_words pattern gap.Space) y.pattern (λ pattern. space (catch_pattern_words pattern) (catch_pattern_held pattern)))) (body_set y.body)))

arm_node : (y : SwitchArm-F SS SB SC SA) → Stated (inner_arm (roll-SwitchArm (map-SwitchArm SS SB SC SA Stmt Branch Catch SwitchArm (λ x. x.0) (λ x. x.0) (λ x. x.0) (λ x. x.0) y)))
arm_node y = subst Stated (sym (fold-roll-SwitchArm W W W W stmt_level branch_level catch_level arm_level (map-SwitchArm SS SB SC SA Stmt Branch Catch SwitchArm (λ x. x.0) (λ x. x.0) (λ x. x.0) (λ x. x.0) y)))
    (state_going_on (label_words y.label) (lines (body_of y.body)) (label_stated y.label) (lines_set (body_of y.body) (stmts_stated y.body)))

pub stmt_stated : (x : Stmt) → Stated (stmt_words x)
stmt_stated = ind-Stmt (λ x. Stated (stmt_words x)) (λ x. Stated (inner_branch x)) (λ x. Stated (inner_catch x)) (λ x. Stated (inner_arm x))
    (λ x y is. subst (λ x. Stated (stmt_words (roll-Stmt x))) is (stmt_node y))
    (λ x y is. subst (λ x. Stated (inner_branch (roll-Branch x))) is (branch_node y))
    (λ x y is. subst (λ x. Stated (inner_catch (roll-Catch x))) is (catch_node y))
    (λ x y is. subst (λ x. Stated (inner_arm (roll-SwitchArm x))) is (arm_node y))

all_stated : (xs : List Stmt) → AllStated (map stmt_words xs)
all_stated [] = tt
all_stated (x ∷ xs) = (stmt_stated x, all_stated xs)

pub block_set : (body : List Stmt) → Set (block_words body)
block_set body = braces (lines (map stmt_words body)) (lines_set (map stmt_words body) (all_stated body))
