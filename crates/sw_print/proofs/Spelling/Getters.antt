-- No statement that is written begins with a name before `{`: none begins as a getter does.
use Rattle.std.proofs.Common.{◌≡◌, Bool, true, false, not, if◌then◌else◌, List, [], ◌∷◌, ◌++◌, map, codes, refl, sym, subst}
use Rattle.sw_lex.specs.Bytes.{Text}
use Rattle.sw_lex.specs.Tables.{is_same_text}
use Rattle.sw_lex.specs.declared.token.TokenKind.{TokenKind}
use Rattle.sw_lex.specs.declared.token.TokenKind.TheVariants as k
use Rattle.sw_lex.specs.declared.token.Token.{Token}
use Rattle.sw_grammar.specs.Grammar.{FirstPasses}
use Rattle.sw_layout.specs.declared.gap.Gap.{Gap}
use Rattle.sw_layout.specs.declared.gap.Gap.TheVariants as gap
use Rattle.sw_layout.specs.Words.{Word, plain, token_of}
use Rattle.sw_tree.specs.declared.expr.TryForm.TheVariants as try_form
use Rattle.sw_tree.specs.declared.expr.Binding.TheVariants as binding
use Rattle.sw_tree.specs.declared.expr.PrefixOperator.TheVariants as prefix
use Rattle.sw_tree.specs.declared.expr.BinaryOperator.{BinaryOperator}
use Rattle.sw_tree.specs.declared.expr.BinaryOperator.TheVariants as binary
use Rattle.sw_tree.specs.declared.expr.Expr.{Expr, map-Expr, roll-Expr}
use Rattle.sw_tree.specs.declared.expr.Argument.{Argument, fold-Argument}
use Rattle.sw_tree.specs.declared.expr.Literal.{Literal, fold-Literal, map-Literal, roll-Literal}
use Rattle.sw_tree.specs.declared.expr.StringPiece.{StringPiece, fold-StringPiece, map-StringPiece, roll-StringPiece}
use Rattle.sw_tree.specs.declared.expr.Expr.TheOpen.{Expr-F, Literal-F, StringPiece-F}
use Rattle.sw_tree.specs.declared.expr.Expr.TheFolds.{ind-Expr, fold-roll-Expr, fold-roll-Literal, fold-roll-StringPiece}
use Rattle.sw_tree.specs.declared.stmt.AssignOperator.{AssignOperator}
use Rattle.sw_tree.specs.declared.stmt.AssignOperator.TheVariants as assign
use Rattle.sw_tree.specs.declared.stmt.Stmt.{Stmt, map-Stmt, roll-Stmt}
use Rattle.sw_tree.specs.declared.stmt.Branch.{Branch, fold-Branch, map-Branch, roll-Branch}
use Rattle.sw_tree.specs.declared.stmt.Catch.{Catch, fold-Catch}
use Rattle.sw_tree.specs.declared.stmt.SwitchArm.{SwitchArm, fold-SwitchArm}
use Rattle.sw_tree.specs.declared.stmt.Stmt.TheOpen.{Stmt-F, Branch-F}
use Rattle.sw_tree.specs.declared.stmt.Stmt.TheFolds.{ind-Stmt, fold-roll-Stmt, fold-roll-Branch}
use Rattle.sw_syntax.specs.declared.class.Class.{Class}
use Rattle.sw_syntax.specs.declared.class.Class.TheVariants as class
use Rattle.sw_syntax.specs.Tokens.{same_kind, class_in, is_next, touches_next}
use Rattle.sw_syntax.specs.Tests.{is_get_block_class, is_no_getter}
use Rattle.sw_print.specs.Seen.{seen_in}
use Rattle.sw_print.specs.Expressions.{W, mark_of, listed, pieces_words, expr_words, expr_level, literal_level, argument_level, piece_level}
use Rattle.sw_print.specs.Statements.{assign_mark, begins_with_dot, separated, followed, lines, stmt_level, branch_level, catch_level, arm_level, stmt_words}
use Rattle.sw_print.proofs.Spelling.Contextual.{choose}

-- the words do not begin with `{`
abbrev NoBrace : List Word → Type 0
NoBrace [] = Unit {0}
NoBrace (word ∷ words) = same_kind word.kind k.LeftBrace ≡ false

-- there are words, and neither the first nor the next is `{`
abbrev Unbraced : List Word → Type 0
Unbraced [] = ⊥
Unbraced (word ∷ words) = (same_kind word.kind k.LeftBrace ≡ false) × NoBrace words

-- there are words, and the first is no name and no `{`
abbrev Keyed : List Word → Type 0
Keyed [] = ⊥
Keyed (word ∷ words) = (same_kind word.kind k.LeftBrace ≡ false) × (same_kind word.kind k.Name ≡ false)

-- there are words, the first is no `{`, and after a name there is none
abbrev NoGetter : List Word → Type 0
NoGetter [] = ⊥
NoGetter (word ∷ words) = (same_kind word.kind k.LeftBrace ≡ false) × (word.kind ≡ k.Name → NoBrace words)

no_brace_append : (v w : List Word) → NoBrace v → NoBrace w → NoBrace (v ++ w)
no_brace_append [] w p q = q
no_brace_append (x ∷ v) w p q = p

unbraced_start : (v : List Word) → Unbraced v → NoBrace v
unbraced_start [] p = tt
unbraced_start (x ∷ v) p = p.0

unbraced_first : (v w : List Word) → Unbraced v → NoBrace (v ++ w)
unbraced_first [] w p = elim p [ ]
unbraced_first (x ∷ v) w p = p.0

unbraced_append : (v w : List Word) → Unbraced v → NoBrace w → Unbraced (v ++ w)
unbraced_append [] w p q = elim p [ ]
unbraced_append (x ∷ v) w p q = (p.0, no_brace_append v w p.1 q)

by_unbraced : (v : List Word) → Unbraced v → NoGetter v
by_unbraced [] p = elim p [ ]
by_unbraced (x ∷ v) p = (p.0, λ e. p.1)

by_key : (v w : List Word) → Keyed v → NoGetter (v ++ w)
unfolding same_kind
by_key [] w p = elim p [ ]
by_key (x ∷ v) w p = (p.0, λ e. absurd (no_name x.kind e p.1))
  where
    no_name : (kind : TokenKind) → kind ≡ k.Name → same_kind kind k.Name ≡ false → ⊥
    no_name kind e h = absurd (subst (λ kind. same_kind kind k.Name ≡ false → ⊥) (sym e) (λ h. cc) h)

getter_append : (v w : List Word) → NoGetter v → NoBrace w → NoGetter (v ++ w)
getter_append [] w p q = elim p [ ]
getter_append (x ∷ v) w p q = (p.0, λ e. no_brace_append v w (p.1 e) q)

getter_start : (v : List Word) → NoGetter v → NoBrace v
getter_start [] p = tt
getter_start (x ∷ v) p = p.0

-- ---- expressions

abbrev inner_words : Literal → W
inner_words = fold-Literal W W W (W × Text) expr_level literal_level argument_level piece_level

abbrev inner_argument : Argument → W
inner_argument = fold-Argument W W W (W × Text) expr_level literal_level argument_level piece_level

abbrev inner_piece : StringPiece → W × Text
inner_piece = fold-StringPiece W W W (W × Text) expr_level literal_level argument_level piece_level

abbrev AllUnbraced : W → Type 0
AllUnbraced w = (g : Gap) → Unbraced (w g)

abbrev SE : Type 0
SE = (x : Expr) × AllUnbraced (expr_words x)

abbrev SL : Type 0
SL = (x : Literal) × AllUnbraced (inner_words x)

abbrev SA : Type 0
SA = (x : Argument) × Unit {0}

abbrev SP : Type 0
SP = (x : StringPiece) × AllUnbraced (inner_piece x).0

mark_unbraced : (operator : BinaryOperator) → same_kind (mark_of operator) k.LeftBrace ≡ false
unfolding same_kind
mark_unbraced binary.Or = refl
mark_unbraced binary.And = refl
mark_unbraced binary.Equal = refl
mark_unbraced binary.NotEqual = refl
mark_unbraced binary.Less = refl
mark_unbraced binary.LessEqual = refl
mark_unbraced binary.Greater = refl
mark_unbraced binary.GreaterEqual = refl
mark_unbraced binary.Coalesce = refl
mark_unbraced binary.Add = refl
mark_unbraced binary.Subtract = refl
mark_unbraced binary.Multiply = refl
mark_unbraced binary.Divide = refl
mark_unbraced binary.Remainder = refl

elements_start : (xs : List SE) (w : List Word) → NoBrace w → NoBrace (listed (map expr_words (map (λ x. x.0) xs)) ++ w)
elements_start [] w h = h
elements_start (x ∷ xs) w h = no_brace_append (listed (map expr_words (map (λ x. x.0) (x ∷ xs)))) w (unbraced_first (expr_words x.0 gap.Space) _ (x.1 gap.Space)) h

abbrev layer : Expr-F SE SL SA SP → W
layer y = expr_level (map-Expr Expr Literal Argument StringPiece W W W (W × Text) expr_words inner_words inner_argument inner_piece (map-Expr SE SL SA SP Expr Literal Argument StringPiece (λ x. x.0) (λ x. x.0) (λ x. x.0) (λ x. x.0) y))

layer_unbraced : (y : Expr-F SE SL SA SP) → AllUnbraced (layer y)
unfolding same_kind
layer_unbraced (Expr-F.Try try_form.Plain at x) g = (refl, unbraced_start (expr_words x.0 gap.Space) (x.1 gap.Space))
layer_unbraced (Expr-F.Try try_form.Optional at x) g = (refl, refl)
layer_unbraced (Expr-F.Await at x) g = (refl, unbraced_start (expr_words x.0 gap.Space) (x.1 gap.Space))
layer_unbraced (Expr-F.Ternary x (y, z)) g = unbraced_append (expr_words x.0 g) _ (x.1 g) refl
layer_unbraced (Expr-F.Binary operator at (x, y)) g = unbraced_append (expr_words x.0 g) (plain (mark_of operator) gap.Space ∷ expr_words y.0 gap.Space) (x.1 g) (mark_unbraced operator)
layer_unbraced (Expr-F.Prefix prefix.Minus at x) g = (refl, unbraced_start (expr_words x.0 gap.Joined) (x.1 gap.Joined))
layer_unbraced (Expr-F.Prefix prefix.Not at x) g = (refl, unbraced_start (expr_words x.0 gap.Space) (x.1 gap.Space))
layer_unbraced (Expr-F.Member x name) g = unbraced_append (expr_words x.0 g) _ (x.1 g) refl
layer_unbraced (Expr-F.Call x (at, xs)) g = unbraced_append (expr_words x.0 g) _ (x.1 g) refl
layer_unbraced (Expr-F.Index x (at, y)) g = unbraced_append (expr_words x.0 g) _ (x.1 g) refl
layer_unbraced (Expr-F.Force x at) g = unbraced_append (expr_words x.0 g) _ (x.1 g) refl
layer_unbraced (Expr-F.Literal at value) g = value.1 g
layer_unbraced (Expr-F.Nil at) g = (refl, tt)
layer_unbraced (Expr-F.Name name) g = (refl, tt)
layer_unbraced (Expr-F.SelfValue at) g = (refl, tt)
layer_unbraced (Expr-F.Implicit at name) g = (refl, refl)
layer_unbraced (Expr-F.Paren at x) g = (refl, unbraced_first (expr_words x.0 gap.Space) _ (x.1 gap.Space))
layer_unbraced (Expr-F.Array at xs) g = (refl, elements_start xs (plain k.RightBracket gap.Space ∷ []) refl)
layer_unbraced (Expr-F.Issue at x) g = x.1 g
layer_unbraced (Expr-F.Wait name) g = (refl, tt)

expr_node : (y : Expr-F SE SL SA SP) → AllUnbraced (expr_words (roll-Expr (map-Expr SE SL SA SP Expr Literal Argument StringPiece (λ x. x.0) (λ x. x.0) (λ x. x.0) (λ x. x.0) y)))
expr_node y = subst AllUnbraced (sym (fold-roll-Expr W W W (W × Text) expr_level literal_level argument_level piece_level (map-Expr SE SL SA SP Expr Literal Argument StringPiece (λ x. x.0) (λ x. x.0) (λ x. x.0) (λ x. x.0) y))) (layer_unbraced y)

pieces_start : (p : W × Text) (ps : List (W × Text)) → Unbraced (p.0 gap.Joined) → NoBrace (pieces_words p ps)
pieces_start p [] h = unbraced_first (p.0 gap.Joined) _ h
pieces_start p (q ∷ ps) h = unbraced_first (p.0 gap.Joined) _ h

literal_layer : (y : Literal-F SE SL SA SP) → AllUnbraced (literal_level (map-Literal Expr Literal Argument StringPiece W W W (W × Text) expr_words inner_words inner_argument inner_piece (map-Literal SE SL SA SP Expr Literal Argument StringPiece (λ x. x.0) (λ x. x.0) (λ x. x.0) (λ x. x.0) y)))
unfolding same_kind
literal_layer (Literal-F.Integer n) g = (refl, tt)
literal_layer (Literal-F.Bool true) g = (refl, tt)
literal_layer (Literal-F.Bool false) g = (refl, tt)
literal_layer (Literal-F.String text []) g = (refl, tt)
literal_layer (Literal-F.String text (p ∷ ps)) g = (refl, pieces_start (inner_piece p.0) (map inner_piece (map (λ x. x.0) ps)) (p.1 gap.Joined))

literal_node : (y : Literal-F SE SL SA SP) → AllUnbraced (inner_words (roll-Literal (map-Literal SE SL SA SP Expr Literal Argument StringPiece (λ x. x.0) (λ x. x.0) (λ x. x.0) (λ x. x.0) y)))
literal_node y = subst AllUnbraced (sym (fold-roll-Literal W W W (W × Text) expr_level literal_level argument_level piece_level (map-Literal SE SL SA SP Expr Literal Argument StringPiece (λ x. x.0) (λ x. x.0) (λ x. x.0) (λ x. x.0) y))) (literal_layer y)

piece_node : (y : StringPiece-F SE SL SA SP) → AllUnbraced (inner_piece (roll-StringPiece (map-StringPiece SE SL SA SP Expr Literal Argument StringPiece (λ x. x.0) (λ x. x.0) (λ x. x.0) (λ x. x.0) y))).0
piece_node y = subst (λ p. AllUnbraced p.0) (sym (fold-roll-StringPiece W W W (W × Text) expr_level literal_level argument_level piece_level (map-StringPiece SE SL SA SP Expr Literal Argument StringPiece (λ x. x.0) (λ x. x.0) (λ x. x.0) (λ x. x.0) y))) y.value.1

-- neither the first word of an expression nor the next is `{`
expr_unbraced : (x : Expr) → AllUnbraced (expr_words x)
expr_unbraced = ind-Expr (λ x. AllUnbraced (expr_words x)) (λ x. AllUnbraced (inner_words x)) (λ x. Unit {0}) (λ x. AllUnbraced (inner_piece x).0)
    (λ x y is. subst (λ x. AllUnbraced (expr_words (roll-Expr x))) is (expr_node y))
    (λ x y is. subst (λ x. AllUnbraced (inner_words (roll-Literal x))) is (literal_node y))
    (λ x y is. tt)
    (λ x y is. subst (λ x. AllUnbraced (inner_piece (roll-StringPiece x)).0) is (piece_node y))

-- ---- statements

abbrev inner_branch : Branch → W
inner_branch = fold-Branch W W W W stmt_level branch_level catch_level arm_level

abbrev inner_catch : Catch → W
inner_catch = fold-Catch W W W W stmt_level branch_level catch_level arm_level

abbrev inner_arm : SwitchArm → W
inner_arm = fold-SwitchArm W W W W stmt_level branch_level catch_level arm_level

abbrev Begins : W → Type 0
Begins w = (g : Gap) → NoGetter (w g)

abbrev IsKeyed : W → Type 0
IsKeyed w = (g : Gap) → Keyed (w g)

abbrev SS : Type 0
SS = (x : Stmt) × Begins (stmt_words x)

abbrev SB : Type 0
SB = (x : Branch) × IsKeyed (inner_branch x)

abbrev SC : Type 0
SC = (x : Catch) × Unit {0}

abbrev SW : Type 0
SW = (x : SwitchArm) × Unit {0}

assign_unbraced : (operator : AssignOperator) → same_kind (assign_mark operator) k.LeftBrace ≡ false
unfolding same_kind
assign_unbraced assign.Assign = refl
assign_unbraced assign.Add = refl
assign_unbraced assign.Subtract = refl
assign_unbraced assign.Multiply = refl
assign_unbraced assign.Divide = refl
assign_unbraced assign.Remainder = refl

abbrev stmt_layer : Stmt-F SS SB SC SW → W
stmt_layer y = stmt_level (map-Stmt Stmt Branch Catch SwitchArm W W W W stmt_words inner_branch inner_catch inner_arm (map-Stmt SS SB SC SW Stmt Branch Catch SwitchArm (λ x. x.0) (λ x. x.0) (λ x. x.0) (λ x. x.0) y))

layer_begins : (y : Stmt-F SS SB SC SW) → Begins (stmt_layer y)
unfolding same_kind
layer_begins (Stmt-F.Local at binding.Let name declared value) g = (refl, λ e. absurd (cc))
layer_begins (Stmt-F.Local at binding.Var name declared value) g = (refl, λ e. absurd (cc))
layer_begins (Stmt-F.Assign to operator at value) g =
    getter_append (expr_words to g) (plain (assign_mark operator) gap.Space ∷ expr_words value gap.Space) (by_unbraced (expr_words to g) (expr_unbraced to g)) (assign_unbraced operator)
layer_begins (Stmt-F.Discard at value) g = (refl, λ e. absurd (cc))
layer_begins (Stmt-F.Expr x) g = by_unbraced (expr_words x g) (expr_unbraced x g)
layer_begins (Stmt-F.If first others otherwise) g = by_key (inner_branch first.0 g) _ (first.1 g)
layer_begins (Stmt-F.Guard at conditions body) g = (refl, λ e. absurd (cc))
layer_begins (Stmt-F.While at conditions body) g = (refl, λ e. absurd (cc))
layer_begins (Stmt-F.For at name first last body) g = (refl, λ e. absurd (cc))
layer_begins (Stmt-F.Switch at subject arms) g = (refl, λ e. absurd (cc))
layer_begins (Stmt-F.Do at body catches) g = (refl, λ e. absurd (cc))
layer_begins (Stmt-F.Return at value) g = (refl, λ e. absurd (cc))
layer_begins (Stmt-F.Throw at value) g = (refl, λ e. absurd (cc))
layer_begins (Stmt-F.Break at) g = (refl, λ e. absurd (cc))
layer_begins (Stmt-F.Continue at) g = (refl, λ e. absurd (cc))

stmt_node : (y : Stmt-F SS SB SC SW) → Begins (stmt_words (roll-Stmt (map-Stmt SS SB SC SW Stmt Branch Catch SwitchArm (λ x. x.0) (λ x. x.0) (λ x. x.0) (λ x. x.0) y)))
stmt_node y = subst Begins (sym (fold-roll-Stmt W W W W stmt_level branch_level catch_level arm_level (map-Stmt SS SB SC SW Stmt Branch Catch SwitchArm (λ x. x.0) (λ x. x.0) (λ x. x.0) (λ x. x.0) y))) (layer_begins y)

branch_node : (y : Branch-F SS SB SC SW) → IsKeyed (inner_branch (roll-Branch (map-Branch SS SB SC SW Stmt Branch Catch SwitchArm (λ x. x.0) (λ x. x.0) (λ x. x.0) (λ x. x.0) y)))
unfolding same_kind
branch_node y = subst IsKeyed (sym (fold-roll-Branch W W W W stmt_level branch_level catch_level arm_level (map-Branch SS SB SC SW Stmt Branch Catch SwitchArm (λ x. x.0) (λ x. x.0) (λ x. x.0) (λ x. x.0) y))) (λ g. (refl, refl))

stmt_begins : (x : Stmt) → Begins (stmt_words x)
stmt_begins = ind-Stmt (λ x. Begins (stmt_words x)) (λ x. IsKeyed (inner_branch x)) (λ x. Unit {0}) (λ x. Unit {0})
    (λ x y is. subst (λ x. Begins (stmt_words (roll-Stmt x))) is (stmt_node y))
    (λ x y is. subst (λ x. IsKeyed (inner_branch (roll-Branch x))) is (branch_node y))
    (λ x y is. tt)
    (λ x y is. tt)

-- ---- what is seen of statements

separated_start : (x : Stmt) → NoBrace (separated (stmt_words x))
unfolding same_kind
separated_start x = go (begins_with_dot (stmt_words x gap.Line))
  where
    go : (b : Bool) → NoBrace (if b then plain k.Semicolon gap.Space ∷ stmt_words x gap.Space else stmt_words x gap.Line)
    go true = refl
    go false = getter_start (stmt_words x gap.Line) (stmt_begins x gap.Line)

followed_start : (xs : List Stmt) → NoBrace (followed (map stmt_words xs))
followed_start [] = tt
followed_start (x ∷ xs) = no_brace_append (separated (stmt_words x)) (followed (map stmt_words xs)) (separated_start x) (followed_start xs)

not_getter : (kind : TokenKind) (token : Token) (following : List Token) → (kind ≡ k.Name → is_next k.LeftBrace following ≡ false) → not (is_get_block_class (class_in kind token following)) ≡ true
not_getter k.Name token following h =
    let P : Class → Type 0 = λ c. not (is_get_block_class c) ≡ true in
    choose P (is_same_text token.text (codes "actor")) _ _ (λ e. refl) (λ e. choose P (is_same_text token.text (codes "distributed")) _ _ (λ e. refl) (λ e. choose P (is_same_text token.text (codes "nonisolated")) _ _ (λ e. refl)
    (λ e. choose P (is_same_text token.text (codes "mutating")) _ _ (λ e. refl) (λ e. choose P (is_same_text token.text (codes "final")) _ _ (λ e. refl) (λ e. choose P (is_same_text token.text (codes "get")) _ _
    (λ e. choose P (is_next k.LeftBrace following) class.GetBlock class.Get (λ is. clash (is_next k.LeftBrace following) is (h refl)) (λ e. refl)) (λ e. refl))))))
  where
    clash : (b : Bool) → b ≡ true → b ≡ false → false ≡ true
    clash b p q = absurd (cc)
not_getter k.Else token following h = choose (λ c. not (is_get_block_class c) ≡ true) (is_next k.If following) class.ElseIf (class.Is k.Else) (λ e. refl) (λ e. refl)
not_getter k.Bang token following h = choose (λ c. not (is_get_block_class c) ≡ true) token.touches class.TouchingBang (class.Is k.Bang) (λ e. refl) (λ e. refl)
not_getter k.Question token following h = choose (λ c. not (is_get_block_class c) ≡ true) token.touches class.TouchingQuestion _ (λ e. refl)
    (λ e. choose (λ c. not (is_get_block_class c) ≡ true) token.after_space class.SpacedQuestion (class.Is k.Question) (λ e. refl) (λ e. refl))
not_getter k.Minus token following h = choose (λ c. not (is_get_block_class c) ≡ true) (touches_next following) (class.Is k.Minus) class.LooseMinus (λ e. refl) (λ e. refl)
not_getter kind token following h = refl

no_brace_next : (v : List Word) (following : List Token) → NoBrace v → is_next k.LeftBrace following ≡ false → is_next k.LeftBrace (map token_of v ++ following) ≡ false
no_brace_next [] following p q = q
no_brace_next (x ∷ v) following p q = p

heads_no_getter : (words : List Word) (following : List Token) → NoGetter words → is_next k.LeftBrace following ≡ false → FirstPasses is_no_getter (seen_in words following)
heads_no_getter [] following p q = tt
heads_no_getter (word ∷ words) following p q = not_getter word.kind (token_of word) (map token_of words ++ following) (λ e. no_brace_next words following (p.1 e) q)

-- statements before anything but `{` do not begin with `get` before its block
pub no_getter : (xs : List Stmt) (following : List Token) → is_next k.LeftBrace following ≡ false → FirstPasses is_no_getter (seen_in (lines (map stmt_words xs)) following)
no_getter [] following h = tt
no_getter (x ∷ xs) following h =
    heads_no_getter (lines (map stmt_words (x ∷ xs))) following (getter_append (stmt_words x gap.Line) (followed (map stmt_words xs)) (stmt_begins x gap.Line) (followed_start xs)) h
