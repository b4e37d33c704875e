-- What stands first in what is written for an expression or a statement.
use Rattle.std.proofs.Common.{◌≡◌, Bool, true, false, not, ◌||◌, ◌&&◌, ◌⊎◌, inl, inr, if◌then◌else◌, List, [], ◌∷◌, ◌++◌, map, Some, None, refl, sym, ap, subst}
use Rattle.sw_lex.specs.Bytes.{Text}
use Rattle.sw_lex.specs.declared.token.TokenKind.{TokenKind}
use Rattle.sw_lex.specs.declared.token.TokenKind.TheVariants as k
use Rattle.sw_lex.specs.declared.token.Token.{Token}
use Rattle.sw_grammar.specs.Grammar.{FirstPasses}
use Rattle.sw_layout.specs.declared.gap.Gap.{Gap}
use Rattle.sw_layout.specs.declared.gap.Gap.TheVariants as gap
use Rattle.sw_layout.specs.Words.{Word, token_of, is_first as first_gap}
use Rattle.sw_tree.specs.declared.expr.TryForm.TheVariants as try_form
use Rattle.sw_tree.specs.declared.expr.PrefixOperator.TheVariants as prefix
use Rattle.sw_tree.specs.declared.expr.Expr.{Expr, map-Expr, roll-Expr}
use Rattle.sw_tree.specs.declared.expr.Argument.{Argument, fold-Argument}
use Rattle.sw_tree.specs.declared.expr.Literal.{Literal, fold-Literal, map-Literal, roll-Literal}
use Rattle.sw_tree.specs.declared.expr.StringPiece.{StringPiece, fold-StringPiece}
use Rattle.sw_tree.specs.declared.expr.Expr.TheOpen.{Expr-F, Literal-F}
use Rattle.sw_tree.specs.declared.expr.Expr.TheFolds.{ind-Expr, fold-roll-Expr, fold-roll-Literal}
use Rattle.sw_tree.specs.declared.expr.Binding.TheVariants as binding
use Rattle.sw_tree.specs.declared.stmt.Stmt.{Stmt, map-Stmt, roll-Stmt}
use Rattle.sw_tree.specs.declared.stmt.Branch.{Branch, fold-Branch, map-Branch, roll-Branch}
use Rattle.sw_tree.specs.declared.stmt.Catch.{Catch, fold-Catch}
use Rattle.sw_tree.specs.declared.stmt.SwitchArm.{SwitchArm, fold-SwitchArm}
use Rattle.sw_tree.specs.declared.stmt.Stmt.TheOpen.{Stmt-F, Branch-F}
use Rattle.sw_tree.specs.declared.stmt.Stmt.TheFolds.{ind-Stmt, fold-roll-Stmt, fold-roll-Branch}
use Rattle.sw_syntax.specs.declared.class.Class.{Class}
use Rattle.sw_syntax.specs.declared.class.Class.TheVariants as class
use Rattle.sw_syntax.specs.Tokens.{class_in, touches_next, Sighted, seen}
use Rattle.sw_syntax.specs.Nonterminals.{Ending, Open, Closed}
use Rattle.sw_syntax.specs.Grammar.{begins_below}
use Rattle.sw_syntax.specs.Tests.{is, is_first, goes_on_line, is_minus_class, is_loose_minus_class}
use Rattle.sw_print.specs.Seen.{seen_in}
use Rattle.sw_print.specs.Expressions.{W, around, expr_level, literal_level, argument_level, piece_level, expr_words}
use Rattle.sw_print.specs.Statements.{begins_with_dot, stmt_level, branch_level, catch_level, arm_level, stmt_words}
use Rattle.sw_print.proofs.Spelling.Built.{Every}
use Rattle.sw_print.proofs.Spelling.Good.{IsGoodWord}
use Rattle.sw_print.proofs.Spelling.Kinds.{class_kind, minus_kind}

abbrev is_minus : TokenKind → Bool
is_minus k.Minus = true
is_minus kind = false

-- there is a word, and it touches what precedes
abbrev NextJoined : List Word → Type 0
NextJoined [] = ⊥
NextJoined (word ∷ words) = word.gap ≡ gap.Joined

-- There is a first word: a `.`, or one with this gap; and what follows a first `-` touches it.
abbrev pub Begun : Gap → List Word → Type 0
Begun g [] = ⊥
Begun g (word ∷ words) = ((word.kind ≡ k.Dot) × (word.gap ≡ around g)) ⊎ ((word.gap ≡ g) × ((is_minus word.kind ≡ false) ⊎ NextJoined words))

joined_append : (v w : List Word) → NextJoined v → NextJoined (v ++ w)
joined_append [] w h = elim h [ ]
joined_append (x ∷ v) w h = h

pub begun_append : (g : Gap) (v w : List Word) → Begun g v → Begun g (v ++ w)
begun_append g [] w h = elim h [ ]
begun_append g (x ∷ v) w (inl h) = inl h
begun_append g (x ∷ v) w (inr (h, inl p)) = inr (h, inl p)
begun_append g (x ∷ v) w (inr (h, inr p)) = inr (h, inr (joined_append v w p))

begun_joined : (v : List Word) → Begun gap.Joined v → NextJoined v
begun_joined [] h = elim h [ ]
begun_joined (x ∷ v) (inl h) = h.1
begun_joined (x ∷ v) (inr h) = h.0

-- ---- expressions

abbrev inner_words : Literal → W
inner_words = fold-Literal W W W (W × Text) expr_level literal_level argument_level piece_level

abbrev inner_argument : Argument → W
inner_argument = fold-Argument W W W (W × Text) expr_level literal_level argument_level piece_level

abbrev inner_piece : StringPiece → W × Text
inner_piece = fold-StringPiece W W W (W × Text) expr_level literal_level argument_level piece_level

abbrev Starts : W → Type 0
Starts w = (g : Gap) → Begun g (w g)

abbrev SE : Type 0
SE = (x : Expr) × Starts (expr_words x)

abbrev SL : Type 0
SL = (x : Literal) × Starts (inner_words x)

abbrev SA : Type 0
SA = (x : Argument) × Unit {0}

abbrev SP : Type 0
SP = (x : StringPiece) × Unit {0}

abbrev expr_layer : Expr-F SE SL SA SP → W
expr_layer y = expr_level (map-Expr Expr Literal Argument StringPiece W W W (W × Text) expr_words inner_words inner_argument inner_piece (map-Expr SE SL SA SP Expr Literal Argument StringPiece (λ x. x.0) (λ x. x.0) (λ x. x.0) (λ x. x.0) y))

expr_starts : (y : Expr-F SE SL SA SP) → Starts (expr_layer y)
expr_starts (Expr-F.Try try_form.Plain at x) g = inr (refl, inl refl)
expr_starts (Expr-F.Try try_form.Optional at x) g = inr (refl, inl refl)
expr_starts (Expr-F.Await at x) g = inr (refl, inl refl)
expr_starts (Expr-F.Ternary x (y, z)) g = begun_append g (expr_words x.0 g) _ (x.1 g)
expr_starts (Expr-F.Binary operator at (x, y)) g = begun_append g (expr_words x.0 g) _ (x.1 g)
expr_starts (Expr-F.Prefix prefix.Minus at x) g = inr (refl, inr (begun_joined (expr_words x.0 gap.Joined) (x.1 gap.Joined)))
expr_starts (Expr-F.Prefix prefix.Not at x) g = inr (refl, inl refl)
expr_starts (Expr-F.Member x name) g = begun_append g (expr_words x.0 g) _ (x.1 g)
expr_starts (Expr-F.Call x (at, xs)) g = begun_append g (expr_words x.0 g) _ (x.1 g)
expr_starts (Expr-F.Index x (at, y)) g = begun_append g (expr_words x.0 g) _ (x.1 g)
expr_starts (Expr-F.Force x at) g = begun_append g (expr_words x.0 g) _ (x.1 g)
expr_starts (Expr-F.Literal at value) g = value.1 g
expr_starts (Expr-F.Nil at) g = inr (refl, inl refl)
expr_starts (Expr-F.Name name) g = inr (refl, inl refl)
expr_starts (Expr-F.SelfValue at) g = inr (refl, inl refl)
expr_starts (Expr-F.Implicit at name) g = inl (refl, refl)
expr_starts (Expr-F.Paren at x) g = inr (refl, inl refl)
expr_starts (Expr-F.Array at xs) g = inr (refl, inl refl)
expr_starts (Expr-F.Issue at x) g = x.1 g
expr_starts (Expr-F.Wait name) g = inr (refl, inl refl)

expr_node : (y : Expr-F SE SL SA SP) → Starts (expr_words (roll-Expr (map-Expr SE SL SA SP Expr Literal Argument StringPiece (λ x. x.0) (λ x. x.0) (λ x. x.0) (λ x. x.0) y)))
expr_node y = subst Starts (sym (fold-roll-Expr W W W (W × Text) expr_level literal_level argument_level piece_level (map-Expr SE SL SA SP Expr Literal Argument StringPiece (λ x. x.0) (λ x. x.0) (λ x. x.0) (λ x. x.0) y))) (expr_starts y)

literal_starts : (y : Literal-F SE SL SA SP) → Starts (literal_level (map-Literal Expr Literal Argument StringPiece W W W (W × Text) expr_words inner_words inner_argument inner_piece (map-Literal SE SL SA SP Expr Literal Argument StringPiece (λ x. x.0) (λ x. x.0) (λ x. x.0) (λ x. x.0) y)))
literal_starts (Literal-F.Integer n) g = inr (refl, inl refl)
literal_starts (Literal-F.Bool true) g = inr (refl, inl refl)
literal_starts (Literal-F.Bool false) g = inr (refl, inl refl)
literal_starts (Literal-F.String text []) g = inr (refl, inl refl)
literal_starts (Literal-F.String text (piece ∷ pieces)) g = inr (refl, inl refl)

literal_node : (y : Literal-F SE SL SA SP) → Starts (inner_words (roll-Literal (map-Literal SE SL SA SP Expr Literal Argument StringPiece (λ x. x.0) (λ x. x.0) (λ x. x.0) (λ x. x.0) y)))
literal_node y = subst Starts (sym (fold-roll-Literal W W W (W × Text) expr_level literal_level argument_level piece_level (map-Literal SE SL SA SP Expr Literal Argument StringPiece (λ x. x.0) (λ x. x.0) (λ x. x.0) (λ x. x.0) y))) (literal_starts y)

pub expr_begun : (x : Expr) (g : Gap) → Begun g (expr_words x g)
expr_begun = ind-Expr (λ x. Starts (expr_words x)) (λ x. Starts (inner_words x)) (λ x. Unit {0}) (λ x. Unit {0})
    (λ x y is. subst (λ x. Starts (expr_words (roll-Expr x))) is (expr_node y))
    (λ x y is. subst (λ x. Starts (inner_words (roll-Literal x))) is (literal_node y))
    (λ x y is. tt)
    (λ x y is. tt)

-- ---- statements

abbrev inner_branch : Branch → W
inner_branch = fold-Branch W W W W stmt_level branch_level catch_level arm_level

abbrev inner_catch : Catch → W
inner_catch = fold-Catch W W W W stmt_level branch_level catch_level arm_level

abbrev inner_arm : SwitchArm → W
inner_arm = fold-SwitchArm W W W W stmt_level branch_level catch_level arm_level

abbrev TS : Type 0
TS = (x : Stmt) × Starts (stmt_words x)

abbrev TB : Type 0
TB = (x : Branch) × Starts (inner_branch x)

abbrev TC : Type 0
TC = (x : Catch) × Unit {0}

abbrev TA : Type 0
TA = (x : SwitchArm) × Unit {0}

abbrev stmt_layer : Stmt-F TS TB TC TA → W
stmt_layer y = stmt_level (map-Stmt Stmt Branch Catch SwitchArm W W W W stmt_words inner_branch inner_catch inner_arm (map-Stmt TS TB TC TA Stmt Branch Catch SwitchArm (λ x. x.0) (λ x. x.0) (λ x. x.0) (λ x. x.0) y))

stmt_starts : (y : Stmt-F TS TB TC TA) → Starts (stmt_layer y)
stmt_starts (Stmt-F.Local at binding.Let name declared value) g = inr (refl, inl refl)
stmt_starts (Stmt-F.Local at binding.Var name declared value) g = inr (refl, inl refl)
stmt_starts (Stmt-F.Assign to operator at value) g = begun_append g (expr_words to g) _ (expr_begun to g)
stmt_starts (Stmt-F.Discard at value) g = inr (refl, inl refl)
stmt_starts (Stmt-F.Expr x) g = expr_begun x g
stmt_starts (Stmt-F.If first others None) g = begun_append g (inner_branch first.0 g) _ (first.1 g)
stmt_starts (Stmt-F.If first others (Some body)) g = begun_append g (inner_branch first.0 g) _ (first.1 g)
stmt_starts (Stmt-F.Guard at conditions body) g = inr (refl, inl refl)
stmt_starts (Stmt-F.While at conditions body) g = inr (refl, inl refl)
stmt_starts (Stmt-F.For at name first last body) g = inr (refl, inl refl)
stmt_starts (Stmt-F.Switch at subject arms) g = inr (refl, inl refl)
stmt_starts (Stmt-F.Do at body catches) g = inr (refl, inl refl)
stmt_starts (Stmt-F.Return at value) g = inr (refl, inl refl)
stmt_starts (Stmt-F.Throw at value) g = inr (refl, inl refl)
stmt_starts (Stmt-F.Break at) g = inr (refl, inl refl)
stmt_starts (Stmt-F.Continue at) g = inr (refl, inl refl)

stmt_node : (y : Stmt-F TS TB TC TA) → Starts (stmt_words (roll-Stmt (map-Stmt TS TB TC TA Stmt Branch Catch SwitchArm (λ x. x.0) (λ x. x.0) (λ x. x.0) (λ x. x.0) y)))
stmt_node y = subst Starts (sym (fold-roll-Stmt W W W W stmt_level branch_level catch_level arm_level (map-Stmt TS TB TC TA Stmt Branch Catch SwitchArm (λ x. x.0) (λ x. x.0) (λ x. x.0) (λ x. x.0) y))) (stmt_starts y)

branch_node : (y : Branch-F TS TB TC TA) → Starts (inner_branch (roll-Branch (map-Branch TS TB TC TA Stmt Branch Catch SwitchArm (λ x. x.0) (λ x. x.0) (λ x. x.0) (λ x. x.0) y)))
branch_node y = subst Starts (sym (fold-roll-Branch W W W W stmt_level branch_level catch_level arm_level (map-Branch TS TB TC TA Stmt Branch Catch SwitchArm (λ x. x.0) (λ x. x.0) (λ x. x.0) (λ x. x.0) y))) (λ g. inr (refl, inl refl))

pub stmt_begun : (x : Stmt) (g : Gap) → Begun g (stmt_words x g)
stmt_begun = ind-Stmt (λ x. Starts (stmt_words x)) (λ x. Starts (inner_branch x)) (λ x. Unit {0}) (λ x. Unit {0})
    (λ x y is. subst (λ x. Starts (stmt_words (roll-Stmt x))) is (stmt_node y))
    (λ x y is. subst (λ x. Starts (inner_branch (roll-Branch x))) is (branch_node y))
    (λ x y is. tt)
    (λ x y is. tt)

-- ---- what begins a statement below another

decided : (b : Bool) → (b ≡ true → ⊥) → b ≡ false
decided true h = absurd (h refl)
decided false h = refl

clash : (b : Bool) → b ≡ true → b ≡ false → ⊥
clash b p q = cc

dot_begins : (w : Word) (words : List Word) → w.kind ≡ k.Dot → begins_with_dot (w ∷ words) ≡ true
dot_begins w words h = subst (λ kind. begins_with_dot (record { kind = kind; text = w.text; gap = w.gap } ∷ words) ≡ true) (sym h) refl

pub dot_append : (g : Gap) (v w : List Word) → Begun g v → begins_with_dot (v ++ w) ≡ begins_with_dot v
dot_append g [] w h = elim h [ ]
dot_append g (x ∷ v) w h = refl

no_dot : (w : Word) (words : List Word) (following : List Token) → begins_with_dot (w ∷ words) ≡ false → is k.Dot (seen (token_of w) following).sight ≡ false
no_dot w words following h = decided (is k.Dot (seen (token_of w) following).sight) (λ e. clash _ (dot_begins w words (class_kind w.kind (token_of w) following k.Dot e)) h)

loose_minus : (x : Class) → is_loose_minus_class x ≡ true → is_minus_class x ≡ true
loose_minus class.LooseMinus h = refl
loose_minus x h = absurd (cc)

not_loose : (b : Bool) → b ≡ true → is_loose_minus_class (if b then class.Is k.Minus else class.LooseMinus) ≡ true → ⊥
not_loose true h e = absurd (cc)
not_loose false h e = absurd (cc)

joined_touches : (words : List Word) (following : List Token) → NextJoined words → touches_next (map token_of words ++ following) ≡ true
joined_touches [] following h = elim h [ ]
joined_touches (w ∷ words) following h = ap (λ g. (token_of (record { kind = w.kind; text = w.text; gap = g })).touches) h

minus_joined : (w : Word) (words : List Word) (following : List Token) → (is_minus w.kind ≡ false) ⊎ NextJoined words → w.kind ≡ k.Minus
    → is_loose_minus_class (class_in w.kind (token_of w) (map token_of words ++ following)) ≡ true → ⊥
minus_joined w words following (inl h) e = λ p. clash _ (ap is_minus e) h
minus_joined w words following (inr h) e =
    subst (λ kind. is_loose_minus_class (class_in kind (token_of w) (map token_of words ++ following)) ≡ true → ⊥) (sym e) (not_loose (touches_next (map token_of words ++ following)) (joined_touches words following h))

no_loose : (w : Word) (words : List Word) (following : List Token) → IsGoodWord w → (is_minus w.kind ≡ false) ⊎ NextJoined words
    → is_loose_minus_class (seen (token_of w) (map token_of words ++ following)).sight.class ≡ false
no_loose w words following good h =
    let t : Sighted = seen (token_of w) (map token_of words ++ following) in
    decided (is_loose_minus_class t.sight.class) (λ e. minus_joined w words following h (minus_kind t (token_of w, map token_of words ++ following, refl, good) (loose_minus t.sight.class e)) e)

all_three : (a b c : Bool) → a ≡ true → b ≡ false → c ≡ false → (a && not (b || c)) ≡ true
all_three true false false p q r = refl
all_three true false true p q r = cc
all_three true true c p q r = cc
all_three false b c p q r = cc

line_first : (w : Word) (following : List Token) → w.gap ≡ gap.Line → is_first (seen (token_of w) following).sight ≡ true
line_first w following h = ap first_gap h

-- words that begin on a line of their own, with no `.`, may begin a statement after one with any ending
pub heads_below : (ending : Ending) (words : List Word) (following : List Token) → Every IsGoodWord words → Begun gap.Line words → begins_with_dot words ≡ false
    → FirstPasses (begins_below ending) (seen_in words following)
heads_below ending [] following good h dot = elim h [ ]
heads_below ending (w ∷ words) following good (inl h) dot = absurd (clash _ (dot_begins w words h.0) dot)
heads_below Open (w ∷ words) following good (inr (h, p)) dot =
    all_three _ _ _ (line_first w (map token_of words ++ following) h) (no_dot w words (map token_of words ++ following) dot) (no_loose w words following good.0 p)
heads_below Closed (w ∷ words) following good (inr (h, p)) dot = line_first w (map token_of words ++ following) h

-- words that begin after a space stand on the line of what precedes
pub heads_on_line : (words : List Word) (following : List Token) → Begun gap.Space words → FirstPasses goes_on_line (seen_in words following)
heads_on_line [] following h = tt
heads_on_line (w ∷ words) following (inl h) = ap (λ g. not (first_gap g)) h.1
heads_on_line (w ∷ words) following (inr h) = ap (λ g. not (first_gap g)) h.0
