-- Expressions are written as words that stand apart.
use Rattle.std.proofs.Common.{◌≡◌, Bool, true, false, not, cond, ◌&&◌, List, [], ◌∷◌, ◌++◌, map, Option, Some, None, refl, sym, ap, ◌∙◌, subst, append_assoc}
use mathlib.Core.Logic.{inr}
use Rattle.std.specs.Fmt.{signed_decimal}
use Rattle.sw_lex.specs.declared.token.TokenKind.{TokenKind}
use Rattle.sw_lex.specs.declared.token.TokenKind.TheVariants as k
use Rattle.sw_lex.specs.Bytes.{Text}
use Rattle.sw_lex.specs.Tables.{Table, words, kind_in, kind_of_word, is_same_text}
use Rattle.sw_lex.specs.Cut.{Opens}
use Rattle.sw_layout.specs.declared.gap.Gap.TheVariants as gap
use Rattle.sw_layout.specs.Words.{Word, plain, fixed, nowhere}
use Rattle.sw_tree.specs.declared.expr.Name.{Name}
use Rattle.sw_tree.specs.declared.expr.TryForm.TheVariants as try_form
use Rattle.sw_tree.specs.declared.expr.PrefixOperator.TheVariants as prefix
use Rattle.sw_tree.specs.declared.expr.BinaryOperator.{BinaryOperator}
use Rattle.sw_tree.specs.declared.expr.BinaryOperator.TheVariants as binary
use Rattle.sw_tree.specs.declared.expr.Expr.{Expr, map-Expr, roll-Expr}
use Rattle.sw_tree.specs.declared.expr.Expr.TheVariants as e
use Rattle.sw_tree.specs.declared.expr.Argument.{Argument, fold-Argument, map-Argument, roll-Argument}
use Rattle.sw_tree.specs.declared.expr.Literal.{Literal, fold-Literal, map-Literal, roll-Literal}
use Rattle.sw_tree.specs.declared.expr.StringPiece.{StringPiece, fold-StringPiece, map-StringPiece, roll-StringPiece}
use Rattle.sw_tree.specs.declared.expr.Expr.TheOpen.{Expr-F, Literal-F, Argument-F, StringPiece-F}
use Rattle.sw_tree.specs.declared.expr.Expr.TheFolds.{ind-Expr, fold-roll-Expr, fold-roll-Literal, fold-roll-Argument, fold-roll-StringPiece}
use Rattle.sw_print.specs.Expressions.{W, word, labelled, mark_of, string_words, pieces_words, expr_words, literal_words, expr_level, literal_level, argument_level, piece_level, listed}
use Rattle.sw_print.proofs.Shape.{Shape, Held, Laid, Ends, AllHeld, is_simple, is_free, is_dot, leads, begins, begin, joined, cons, none, cat, space, going_on, touching, touch_form, call, parens_held, member, member_laid, listed_laid, apart, no_line}

-- the words of a literal, as they stand within an expression
abbrev inner_words : Literal → W
inner_words = fold-Literal W W W (W × Text) expr_level literal_level argument_level piece_level

abbrev inner_argument : Argument → W
inner_argument = fold-Argument W W W (W × Text) expr_level literal_level argument_level piece_level

abbrev inner_piece : StringPiece → W × Text
inner_piece = fold-StringPiece W W W (W × Text) expr_level literal_level argument_level piece_level

-- ---- labels

abbrev is_label : TokenKind → Bool
is_label kind = (is_simple kind && is_free kind) && not (is_dot kind)

both : (s t : Bool) → (s && t) ≡ true → (s ≡ true) × (t ≡ true)
both true true h = (refl, refl)
both true false h = absurd (cc)
both false t h = absurd (cc)

no : (t : Bool) → not t ≡ true → t ≡ false
no true h = absurd (cc)
no false h = refl

abbrev labels : Table → Bool
labels [] = true
labels (entry ∷ table) = is_label entry.1 && labels table

kind_labels : (table : Table) (text : Text) → labels table ≡ true → is_label (kind_in table text) ≡ true
kind_labels [] text h = refl
kind_labels (entry ∷ table) text h = let two = both (is_label entry.1) (labels table) h in go (is_same_text text entry.0) two.0 (kind_labels table text two.1)
  where
    go : (t : Bool) → is_label entry.1 ≡ true → is_label (kind_in table text) ≡ true → is_label (cond t entry.1 (kind_in table text)) ≡ true
    go true p q = p
    go false p q = q

words_labels : labels words ≡ true
unfolding words
words_labels = refl

pub label_held : (name : Name) (v : List Word) → Laid v → Held (λ g. word (kind_of_word name.text) name.text g ∷ v)
label_held name v h =
    let all = both (is_simple (kind_of_word name.text) && is_free (kind_of_word name.text)) (not (is_dot (kind_of_word name.text))) (kind_labels words name.text words_labels) in
    let two = both (is_simple (kind_of_word name.text)) (is_free (kind_of_word name.text)) all.0 in
    begins (kind_of_word name.text) name.text v two.0 two.1 (no (is_dot (kind_of_word name.text)) all.1) h

pub labelled_held : (label : Option Name) (w : W) → Held w → Held (labelled label w)
labelled_held None w h = h
labelled_held (Some label) w h = label_held label (plain k.Colon gap.Space ∷ w gap.Space) (cons k.Colon (fixed k.Colon) (w gap.Space) refl refl (space w h))

-- ---- strings

abbrev AllPieces : List (W × Text) → Type 0
AllPieces [] = Unit {0}
AllPieces (p ∷ ps) = Held p.0 × AllPieces ps

pieces_shape : (p : W × Text) (ps : List (W × Text)) (o : Opens) (i : TokenKind) (rest : List Word) → Held p.0 → AllPieces ps → leads i ≡ true → Shape o (Some k.StringLast) rest → Shape (true ∷ o) (Some i) (pieces_words p ps ++ rest)
pieces_shape (w, text) [] o i rest h all l more =
    subst (Shape (true ∷ o) (Some i)) (sym (append_assoc (w gap.Joined) (word k.StringLast text gap.Joined ∷ []) rest))
    (h gap.Joined (true ∷ o) (Some i) (word k.StringLast text gap.Joined ∷ rest) (i, refl, l)
    (λ e f. (inr (inr (refl, (touch_form e).4)), ((λ a b. absurd (cc)), (λ a. refl), λ b. absurd (cc)), more)))
pieces_shape (w, text) (p ∷ ps) o i rest h all l more =
    subst (Shape (true ∷ o) (Some i)) (sym (append_assoc (w gap.Joined) (word k.StringMiddle text gap.Joined ∷ pieces_words p ps) rest))
    (h gap.Joined (true ∷ o) (Some i) (word k.StringMiddle text gap.Joined ∷ (pieces_words p ps ++ rest)) (i, refl, l)
    (λ e f. (inr (inr (refl, (touch_form e).3)), ((λ a b. absurd (cc)), (λ a. refl), λ b. absurd (cc)), pieces_shape p ps o k.StringMiddle rest all.0 all.1 refl more)))

string_held : (text : Text) (ps : List (W × Text)) → AllPieces ps → Held (string_words text ps)
string_held text [] all = λ g o l rest lead more. begins k.StringWhole text [] refl refl refl none g o l rest lead more
string_held text (p ∷ ps) all = λ g o l rest lead more.
    (apart g o l k.StringStart text refl lead, ((no_line g o l lead), (λ a. absurd (cc)), λ b. absurd (cc)), pieces_shape p ps o k.StringStart rest all.0 all.1 refl (more k.StringLast refl))

-- ---- layers

abbrev SE : Type 0
SE = (x : Expr) × Held (expr_words x)

abbrev SL : Type 0
SL = (x : Literal) × Held (inner_words x)

abbrev SA : Type 0
SA = (x : Argument) × Held (inner_argument x)

abbrev SP : Type 0
SP = (x : StringPiece) × Held (inner_piece x).0

exprs_held : (xs : List SE) → AllHeld (map expr_words (map (λ x. x.0) xs))
exprs_held [] = tt
exprs_held (x ∷ xs) = (x.1, exprs_held xs)

arguments_held : (xs : List SA) → AllHeld (map inner_argument (map (λ x. x.0) xs))
arguments_held [] = tt
arguments_held (x ∷ xs) = (x.1, arguments_held xs)

pieces_held : (ps : List SP) → AllPieces (map inner_piece (map (λ x. x.0) ps))
pieces_held [] = tt
pieces_held (p ∷ ps) = (p.1, pieces_held ps)

mark_simple : (operator : BinaryOperator) → (is_simple (mark_of operator) ≡ true) × Ends (mark_of operator)
mark_simple binary.Or = (refl, refl)
mark_simple binary.And = (refl, refl)
mark_simple binary.Equal = (refl, refl)
mark_simple binary.NotEqual = (refl, refl)
mark_simple binary.Less = (refl, refl)
mark_simple binary.LessEqual = (refl, refl)
mark_simple binary.Greater = (refl, refl)
mark_simple binary.GreaterEqual = (refl, refl)
mark_simple binary.Coalesce = (refl, refl)
mark_simple binary.Add = (refl, refl)
mark_simple binary.Subtract = (refl, refl)
mark_simple binary.Multiply = (refl, refl)
mark_simple binary.Divide = (refl, refl)
mark_simple binary.Remainder = (refl, refl)

abbrev layer : Expr-F SE SL SA SP → W
layer y = expr_level (map-Expr Expr Literal Argument StringPiece W W W (W × Text) expr_words inner_words inner_argument inner_piece (map-Expr SE SL SA SP Expr Literal Argument StringPiece (λ x. x.0) (λ x. x.0) (λ x. x.0) (λ x. x.0) y))

layer_held : (y : Expr-F SE SL SA SP) → Held (layer y)
layer_held (Expr-F.Try try_form.Plain at x) = begins k.Try (fixed k.Try) (expr_words x.0 gap.Space) refl refl refl (space (expr_words x.0) x.1)
layer_held (Expr-F.Try try_form.Optional at x) = λ g o l rest lead more.
    begin k.Try (fixed k.Try) g o l (plain k.Question gap.Joined ∷ (expr_words x.0 gap.Space ++ rest)) refl refl lead
    (joined k.Question (fixed k.Question) o k.Try (expr_words x.0 gap.Space ++ rest) refl refl (x.1 gap.Space o (Some k.Question) rest (k.Question, refl, refl) more))
layer_held (Expr-F.Await at x) = begins k.Await (fixed k.Await) (expr_words x.0 gap.Space) refl refl refl (space (expr_words x.0) x.1)
layer_held (Expr-F.Ternary x (y, z)) =
    going_on (expr_words x.0) (plain k.Question gap.Space ∷ (expr_words y.0 gap.Space ++ (plain k.Colon gap.Space ∷ expr_words z.0 gap.Space))) x.1
    (cons k.Question (fixed k.Question) (expr_words y.0 gap.Space ++ (plain k.Colon gap.Space ∷ expr_words z.0 gap.Space)) refl refl
    (cat (expr_words y.0 gap.Space) (plain k.Colon gap.Space ∷ expr_words z.0 gap.Space) (space (expr_words y.0) y.1)
    (cons k.Colon (fixed k.Colon) (expr_words z.0 gap.Space) refl refl (space (expr_words z.0) z.1))))
layer_held (Expr-F.Binary operator at (x, y)) =
    going_on (expr_words x.0) (plain (mark_of operator) gap.Space ∷ expr_words y.0 gap.Space) x.1
    (cons (mark_of operator) (fixed (mark_of operator)) (expr_words y.0 gap.Space) (mark_simple operator).0 (mark_simple operator).1 (space (expr_words y.0) y.1))
layer_held (Expr-F.Prefix prefix.Minus at x) = λ g o l rest lead more.
    begin k.Minus (fixed k.Minus) g o l (expr_words x.0 gap.Joined ++ rest) refl refl lead (x.1 gap.Joined o (Some k.Minus) rest (k.Minus, refl, refl) more)
layer_held (Expr-F.Prefix prefix.Not at x) = begins k.Bang (fixed k.Bang) (expr_words x.0 gap.Space) refl refl refl (space (expr_words x.0) x.1)
layer_held (Expr-F.Member x name) = going_on (expr_words x.0) (plain k.Dot gap.Joined ∷ word k.Name name.text gap.Joined ∷ []) x.1 (member_laid (fixed k.Dot) name.text)
layer_held (Expr-F.Call x (at, xs)) =
    going_on (expr_words x.0) (plain k.LeftParen gap.Joined ∷ (listed (map inner_argument (map (λ x. x.0) xs)) ++ plain k.RightParen gap.Space ∷ [])) x.1
    (call (listed (map inner_argument (map (λ x. x.0) xs))) (listed_laid (map inner_argument (map (λ x. x.0) xs)) (arguments_held xs)))
layer_held (Expr-F.Index x (at, y)) =
    going_on (expr_words x.0) (plain k.LeftBracket gap.Joined ∷ (expr_words y.0 gap.Space ++ plain k.RightBracket gap.Space ∷ [])) x.1
    (touching k.LeftBracket (fixed k.LeftBracket) (expr_words y.0 gap.Space ++ plain k.RightBracket gap.Space ∷ []) refl refl (λ i. (touch_form i).1)
    (cat (expr_words y.0 gap.Space) (plain k.RightBracket gap.Space ∷ []) (space (expr_words y.0) y.1) (cons k.RightBracket (fixed k.RightBracket) [] refl refl none)))
layer_held (Expr-F.Force x at) = going_on (expr_words x.0) (plain k.Bang gap.Joined ∷ []) x.1 (touching k.Bang (fixed k.Bang) [] refl refl (λ i. (touch_form i).2) none)
layer_held (Expr-F.Literal at value) = value.1
layer_held (Expr-F.Nil at) = begins k.Nil (fixed k.Nil) [] refl refl refl none
layer_held (Expr-F.Name name) = begins k.Name name.text [] refl refl refl none
layer_held (Expr-F.SelfValue at) = begins k.Self_ (fixed k.Self_) [] refl refl refl none
layer_held (Expr-F.Implicit at name) = member (fixed k.Dot) name.text
layer_held (Expr-F.Paren at x) = parens_held (expr_words x.0 gap.Space) (space (expr_words x.0) x.1)
layer_held (Expr-F.Array at xs) =
    begins k.LeftBracket (fixed k.LeftBracket) (listed (map expr_words (map (λ x. x.0) xs)) ++ plain k.RightBracket gap.Space ∷ []) refl refl refl
    (cat (listed (map expr_words (map (λ x. x.0) xs))) (plain k.RightBracket gap.Space ∷ []) (listed_laid (map expr_words (map (λ x. x.0) xs)) (exprs_held xs)) (cons k.RightBracket (fixed k.RightBracket) [] refl refl none))
layer_held (Expr-F.Issue at x) = x.1
layer_held (Expr-F.Wait name) = begins k.Name name.text [] refl refl refl none

expr_node : (y : Expr-F SE SL SA SP) → Held (expr_words (roll-Expr (map-Expr SE SL SA SP Expr Literal Argument StringPiece (λ x. x.0) (λ x. x.0) (λ x. x.0) (λ x. x.0) y)))
expr_node y = subst Held (sym (fold-roll-Expr W W W (W × Text) expr_level literal_level argument_level piece_level (map-Expr SE SL SA SP Expr Literal Argument StringPiece (λ x. x.0) (λ x. x.0) (λ x. x.0) (λ x. x.0) y))) (layer_held y)

literal_layer : (y : Literal-F SE SL SA SP) → Held (literal_level (map-Literal Expr Literal Argument StringPiece W W W (W × Text) expr_words inner_words inner_argument inner_piece (map-Literal SE SL SA SP Expr Literal Argument StringPiece (λ x. x.0) (λ x. x.0) (λ x. x.0) (λ x. x.0) y)))
literal_layer (Literal-F.Integer n) = begins k.Integer (signed_decimal n) [] refl refl refl none
literal_layer (Literal-F.Bool true) = begins k.True (fixed k.True) [] refl refl refl none
literal_layer (Literal-F.Bool false) = begins k.False (fixed k.False) [] refl refl refl none
literal_layer (Literal-F.String text pieces) = string_held text (map inner_piece (map (λ x. x.0) pieces)) (pieces_held pieces)

literal_node : (y : Literal-F SE SL SA SP) → Held (inner_words (roll-Literal (map-Literal SE SL SA SP Expr Literal Argument StringPiece (λ x. x.0) (λ x. x.0) (λ x. x.0) (λ x. x.0) y)))
literal_node y = subst Held (sym (fold-roll-Literal W W W (W × Text) expr_level literal_level argument_level piece_level (map-Literal SE SL SA SP Expr Literal Argument StringPiece (λ x. x.0) (λ x. x.0) (λ x. x.0) (λ x. x.0) y))) (literal_layer y)

argument_node : (y : Argument-F SE SL SA SP) → Held (inner_argument (roll-Argument (map-Argument SE SL SA SP Expr Literal Argument StringPiece (λ x. x.0) (λ x. x.0) (λ x. x.0) (λ x. x.0) y)))
argument_node y = subst Held (sym (fold-roll-Argument W W W (W × Text) expr_level literal_level argument_level piece_level (map-Argument SE SL SA SP Expr Literal Argument StringPiece (λ x. x.0) (λ x. x.0) (λ x. x.0) (λ x. x.0) y))) (labelled_held y.label (expr_words y.value.0) y.value.1)

piece_node : (y : StringPiece-F SE SL SA SP) → Held (inner_piece (roll-StringPiece (map-StringPiece SE SL SA SP Expr Literal Argument StringPiece (λ x. x.0) (λ x. x.0) (λ x. x.0) (λ x. x.0) y))).0
piece_node y = subst (λ p. Held p.0) (sym (fold-roll-StringPiece W W W (W × Text) expr_level literal_level argument_level piece_level (map-StringPiece SE SL SA SP Expr Literal Argument StringPiece (λ x. x.0) (λ x. x.0) (λ x. x.0) (λ x. x.0) y))) y.value.1

pub expr_held : (x : Expr) → Held (expr_words x)
expr_held = ind-Expr (λ x. Held (expr_words x)) (λ x. Held (inner_words x)) (λ x. Held (inner_argument x)) (λ x. Held (inner_piece x).0)
    (λ x y is. subst (λ x. Held (expr_words (roll-Expr x))) is (expr_node y))
    (λ x y is. subst (λ x. Held (inner_words (roll-Literal x))) is (literal_node y))
    (λ x y is. subst (λ x. Held (inner_argument (roll-Argument x))) is (argument_node y))
    (λ x y is. subst (λ x. Held (inner_piece (roll-StringPiece x)).0) is (piece_node y))

pub literal_held : (x : Literal) → Held (literal_words x)
literal_held x = subst Held (ap expr_words (sym (e.rolls-Literal nowhere x)) ∙ fold-roll-Expr W W W (W × Text) _ _ _ _ (Expr-F.Literal nowhere x)) (expr_held (e.Literal nowhere x))
