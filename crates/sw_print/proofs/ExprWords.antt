-- What is written for each form of type and expression.
use Rattle.std.proofs.Common.{◌≡◌, ℤ, Bool, if◌then◌else◌, List, [], ◌∷◌, ◌++◌, map, refl, sym, ap, ◌∙◌, append_assoc}
use Rattle.std.specs.Fmt.{signed_decimal}
use Rattle.sw_base.specs.declared.ids.Span.{Span}
use Rattle.sw_lex.specs.Bytes.{Text}
use Rattle.sw_lex.specs.declared.token.TokenKind.TheVariants as k
use Rattle.sw_layout.specs.declared.gap.Gap.{Gap}
use Rattle.sw_layout.specs.declared.gap.Gap.TheVariants as gap
use Rattle.sw_layout.specs.Words.{plain}
use Rattle.sw_tree.specs.declared.expr.Name.{Name}
use Rattle.sw_tree.specs.declared.expr.TryForm.{TryForm}
use Rattle.sw_tree.specs.declared.expr.PrefixOperator.{PrefixOperator}
use Rattle.sw_tree.specs.declared.expr.BinaryOperator.{BinaryOperator}
use Rattle.sw_tree.specs.declared.expr.Argument.{Argument}
use Rattle.sw_tree.specs.declared.expr.StringPiece.{StringPiece}
use Rattle.sw_tree.specs.declared.expr.Literal.{Literal, roll-Literal, map-Literal}
use Rattle.sw_tree.specs.declared.expr.Literal.TheVariants as l
use Rattle.sw_tree.specs.declared.expr.Expr.{Expr}
use Rattle.sw_tree.specs.declared.expr.Expr.TheFolds.{fold-roll-Expr, fold-Argument, fold-StringPiece, fold-roll-Literal, fold_out-Argument, fold_out-StringPiece}
use Rattle.sw_tree.specs.declared.expr.Expr.TheOpen.{Expr-F, Literal-F}
use Rattle.sw_tree.specs.declared.expr.Expr.TheVariants as e
use Rattle.sw_tree.specs.declared.types.«Type».{«Type» as TypeTree, fold-roll-Type}
use Rattle.sw_tree.specs.declared.types.«Type».TheOpen.{Type-F}
use Rattle.sw_tree.specs.declared.types.«Type».TheVariants as t
use Rattle.sw_print.proofs.TypeShape.{question_end}
use Rattle.sw_print.specs.Expressions.{W, word, name_word, dot_name, listed, mark_gap, type_words, try_words, mark_of, signed, bool_word, string_words, expr_level, literal_level, argument_level, piece_level, expr_words, literal_words, argument_words}
use Rattle.sw_print.proofs.TextLemmas.{text_append}

pub at : {f g : W} → f ≡ g → (before : Gap) → f before ≡ g before
at h before = ap (λ f. f before) h

pub map_alike : {A B : Type 0} (f g : A → B) → ((x : A) → f x ≡ g x) → (xs : List A) → map f xs ≡ map g xs
map_alike f g h [] = refl
map_alike f g h (x ∷ xs) = ap (λ y. y ∷ map f xs) (h x) ∙ ap (λ ys. g x ∷ ys) (map_alike f g h xs)

argument_fold : Argument → W
argument_fold = fold-Argument W W W (W × Text) expr_level literal_level argument_level piece_level

piece_fold : StringPiece → W × Text
piece_fold = fold-StringPiece W W W (W × Text) expr_level literal_level argument_level piece_level

-- the words of an expression in a string, and the text after it
abbrev pub piece_pair : StringPiece → W × Text
piece_pair piece = (expr_words piece.value, piece.text)

argument_same : (x : Argument) → argument_fold x ≡ argument_words x
unfolding argument_fold
argument_same x = fold_out-Argument W W W (W × Text) expr_level literal_level argument_level piece_level x

piece_same : (x : StringPiece) → piece_fold x ≡ piece_pair x
unfolding piece_fold
piece_same x = fold_out-StringPiece W W W (W × Text) expr_level literal_level argument_level piece_level x

-- ---- types

pub of_type_name : (name : Name) (g : Gap) → type_words (t.Name name) g ≡ name_word name g ∷ []
of_type_name name g = at (ap type_words (sym (t.rolls-Name name)) ∙ fold-roll-Type W _ (Type-F.Name name)) g

pub of_type_member : (outer name : Name) (g : Gap) → type_words (t.Member outer name) g ≡ name_word outer g ∷ dot_name name gap.Joined
of_type_member outer name g = at (ap type_words (sym (t.rolls-Member outer name)) ∙ fold-roll-Type W _ (Type-F.Member outer name)) g

pub of_type_array : (span : Span) (x : TypeTree) (g : Gap) → type_words (t.Array span x) g ≡ plain k.LeftBracket g ∷ (type_words x gap.Space ++ plain k.RightBracket gap.Space ∷ [])
of_type_array span x g = at (ap type_words (sym (t.rolls-Array span x)) ∙ fold-roll-Type W _ (Type-F.Array span x)) g

pub of_type_any : (span : Span) (name : Name) (g : Gap) → type_words (t.Any span name) g ≡ plain k.Any g ∷ name_word name gap.Space ∷ []
of_type_any span name g = at (ap type_words (sym (t.rolls-Any span name)) ∙ fold-roll-Type W _ (Type-F.Any span name)) g

pub of_type_void : (span : Span) (g : Gap) → type_words (t.Void span) g ≡ plain k.LeftParen g ∷ plain k.RightParen gap.Space ∷ []
of_type_void span g = at (ap type_words (sym (t.rolls-Void span)) ∙ fold-roll-Type W _ (Type-F.Void span)) g

pub of_type_optional : (x : TypeTree) (g : Gap) → type_words (t.Optional x) g ≡ type_words x g ++ plain k.Question (mark_gap (type_words x g)) ∷ []
of_type_optional x g = at (ap type_words (sym (t.rolls-Optional x)) ∙ fold-roll-Type W _ (Type-F.Optional x)) g

-- what stands before the `?` after it

abbrev gap_if : Bool → Gap
gap_if b = if b then gap.Space else gap.Joined

pub gap_of_name : (name : Name) (g : Gap) → mark_gap (type_words (t.Name name) g) ≡ gap.Joined
gap_of_name name g = ap mark_gap (of_type_name name g)

pub gap_of_member : (outer name : Name) (g : Gap) → mark_gap (type_words (t.Member outer name) g) ≡ gap.Joined
gap_of_member outer name g = ap mark_gap (of_type_member outer name g)

pub gap_of_array : (span : Span) (x : TypeTree) (g : Gap) → mark_gap (type_words (t.Array span x) g) ≡ gap.Joined
gap_of_array span x g = ap mark_gap (of_type_array span x g) ∙ ap gap_if (question_end (plain k.LeftBracket g ∷ type_words x gap.Space) (plain k.RightBracket gap.Space))

pub gap_of_any : (span : Span) (name : Name) (g : Gap) → mark_gap (type_words (t.Any span name) g) ≡ gap.Joined
gap_of_any span name g = ap mark_gap (of_type_any span name g)

pub gap_of_void : (span : Span) (g : Gap) → mark_gap (type_words (t.Void span) g) ≡ gap.Joined
gap_of_void span g = ap mark_gap (of_type_void span g)

pub gap_of_optional : (x : TypeTree) (g : Gap) → mark_gap (type_words (t.Optional x) g) ≡ gap.Space
gap_of_optional x g = ap mark_gap (of_type_optional x g) ∙ ap gap_if (question_end (type_words x g) (plain k.Question (mark_gap (type_words x g))))

pub ruleset gap_rules = (gap_of_name, gap_of_member, gap_of_array, gap_of_any, gap_of_void, gap_of_optional)

-- for the function that writes types
pub ruleset type_rules = (append_assoc, text_append, of_type_name, of_type_member, of_type_array, of_type_any, of_type_void, of_type_optional)

-- ---- expressions

pub of_try : (form : TryForm) (span : Span) (x : Expr) (g : Gap) → expr_words (e.Try form span x) g ≡ try_words form g ++ expr_words x gap.Space
of_try form span x g = at (ap expr_words (sym (e.rolls-Try form span x)) ∙ fold-roll-Expr W W W (W × Text) _ _ _ _ (Expr-F.Try form span x)) g

pub of_await : (span : Span) (x : Expr) (g : Gap) → expr_words (e.Await span x) g ≡ plain k.Await g ∷ expr_words x gap.Space
of_await span x g = at (ap expr_words (sym (e.rolls-Await span x)) ∙ fold-roll-Expr W W W (W × Text) _ _ _ _ (Expr-F.Await span x)) g

pub of_ternary : (x y z : Expr) (g : Gap) → expr_words (e.Ternary x (y, z)) g ≡ expr_words x g ++ (plain k.Question gap.Space ∷ (expr_words y gap.Space ++ (plain k.Colon gap.Space ∷ expr_words z gap.Space)))
of_ternary x y z g = at (ap expr_words (sym (e.rolls-Ternary x (y, z))) ∙ fold-roll-Expr W W W (W × Text) _ _ _ _ (Expr-F.Ternary x (y, z))) g

pub of_binary : (operator : BinaryOperator) (span : Span) (x y : Expr) (g : Gap) → expr_words (e.Binary operator span (x, y)) g ≡ expr_words x g ++ (plain (mark_of operator) gap.Space ∷ expr_words y gap.Space)
of_binary operator span x y g = at (ap expr_words (sym (e.rolls-Binary operator span (x, y))) ∙ fold-roll-Expr W W W (W × Text) _ _ _ _ (Expr-F.Binary operator span (x, y))) g

pub of_prefix : (operator : PrefixOperator) (span : Span) (x : Expr) (g : Gap) → expr_words (e.Prefix operator span x) g ≡ signed operator (expr_words x) g
of_prefix operator span x g = at (ap expr_words (sym (e.rolls-Prefix operator span x)) ∙ fold-roll-Expr W W W (W × Text) _ _ _ _ (Expr-F.Prefix operator span x)) g

pub of_member : (x : Expr) (name : Name) (g : Gap) → expr_words (e.Member x name) g ≡ expr_words x g ++ dot_name name gap.Joined
of_member x name g = at (ap expr_words (sym (e.rolls-Member x name)) ∙ fold-roll-Expr W W W (W × Text) _ _ _ _ (Expr-F.Member x name)) g

of_call_fold : (x : Expr) (span : Span) (xs : List Argument) (g : Gap) → expr_words (e.Call x (span, xs)) g ≡ expr_words x g ++ (plain k.LeftParen gap.Joined ∷ (listed (map argument_fold xs) ++ plain k.RightParen gap.Space ∷ []))
unfolding argument_fold
of_call_fold x span xs g = at (ap expr_words (sym (e.rolls-Call x (span, xs))) ∙ fold-roll-Expr W W W (W × Text) _ _ _ _ (Expr-F.Call x (span, xs))) g

pub of_call : (x : Expr) (span : Span) (xs : List Argument) (g : Gap) → expr_words (e.Call x (span, xs)) g ≡ expr_words x g ++ (plain k.LeftParen gap.Joined ∷ (listed (map argument_words xs) ++ plain k.RightParen gap.Space ∷ []))
of_call x span xs g = of_call_fold x span xs g ∙ ap (λ ys. expr_words x g ++ (plain k.LeftParen gap.Joined ∷ (listed ys ++ plain k.RightParen gap.Space ∷ []))) (map_alike argument_fold argument_words argument_same xs)

pub of_index : (x : Expr) (span : Span) (y : Expr) (g : Gap) → expr_words (e.Index x (span, y)) g ≡ expr_words x g ++ (plain k.LeftBracket gap.Joined ∷ (expr_words y gap.Space ++ plain k.RightBracket gap.Space ∷ []))
of_index x span y g = at (ap expr_words (sym (e.rolls-Index x (span, y))) ∙ fold-roll-Expr W W W (W × Text) _ _ _ _ (Expr-F.Index x (span, y))) g

pub of_force : (x : Expr) (span : Span) (g : Gap) → expr_words (e.Force x span) g ≡ expr_words x g ++ plain k.Bang gap.Joined ∷ []
of_force x span g = at (ap expr_words (sym (e.rolls-Force x span)) ∙ fold-roll-Expr W W W (W × Text) _ _ _ _ (Expr-F.Force x span)) g

pub of_literal : (span : Span) (value : Literal) (g : Gap) → expr_words (e.Literal span value) g ≡ literal_words value g
of_literal span value g = at (ap expr_words (sym (e.rolls-Literal span value)) ∙ fold-roll-Expr W W W (W × Text) _ _ _ _ (Expr-F.Literal span value)) g

pub of_nil : (span : Span) (g : Gap) → expr_words (e.Nil span) g ≡ plain k.Nil g ∷ []
of_nil span g = at (ap expr_words (sym (e.rolls-Nil span)) ∙ fold-roll-Expr W W W (W × Text) _ _ _ _ (Expr-F.Nil span)) g

pub of_name : (name : Name) (g : Gap) → expr_words (e.Name name) g ≡ name_word name g ∷ []
of_name name g = at (ap expr_words (sym (e.rolls-Name name)) ∙ fold-roll-Expr W W W (W × Text) _ _ _ _ (Expr-F.Name name)) g

pub of_self : (span : Span) (g : Gap) → expr_words (e.SelfValue span) g ≡ plain k.Self_ g ∷ []
of_self span g = at (ap expr_words (sym (e.rolls-SelfValue span)) ∙ fold-roll-Expr W W W (W × Text) _ _ _ _ (Expr-F.SelfValue span)) g

pub of_implicit : (span : Span) (name : Name) (g : Gap) → expr_words (e.Implicit span name) g ≡ dot_name name g
of_implicit span name g = at (ap expr_words (sym (e.rolls-Implicit span name)) ∙ fold-roll-Expr W W W (W × Text) _ _ _ _ (Expr-F.Implicit span name)) g

pub of_paren : (span : Span) (x : Expr) (g : Gap) → expr_words (e.Paren span x) g ≡ plain k.LeftParen g ∷ (expr_words x gap.Space ++ plain k.RightParen gap.Space ∷ [])
of_paren span x g = at (ap expr_words (sym (e.rolls-Paren span x)) ∙ fold-roll-Expr W W W (W × Text) _ _ _ _ (Expr-F.Paren span x)) g

pub of_array : (span : Span) (xs : List Expr) (g : Gap) → expr_words (e.Array span xs) g ≡ plain k.LeftBracket g ∷ (listed (map expr_words xs) ++ plain k.RightBracket gap.Space ∷ [])
of_array span xs g = at (ap expr_words (sym (e.rolls-Array span xs)) ∙ fold-roll-Expr W W W (W × Text) _ _ _ _ (Expr-F.Array span xs)) g

pub of_issue : (span : Span) (x : Expr) (g : Gap) → expr_words (e.Issue span x) g ≡ expr_words x g
of_issue span x g = at (ap expr_words (sym (e.rolls-Issue span x)) ∙ fold-roll-Expr W W W (W × Text) _ _ _ _ (Expr-F.Issue span x)) g

pub of_wait : (name : Name) (g : Gap) → expr_words (e.Wait name) g ≡ name_word name g ∷ []
of_wait name g = at (ap expr_words (sym (e.rolls-Wait name)) ∙ fold-roll-Expr W W W (W × Text) _ _ _ _ (Expr-F.Wait name)) g

-- ---- literals

literal_roll : (layer : Literal-F Expr Literal Argument StringPiece) (value : Literal) → roll-Literal layer ≡ value → (g : Gap)
    → literal_words value g ≡ literal_level (map-Literal Expr Literal Argument StringPiece W W W (W × Text) expr_words literal_words argument_fold piece_fold layer) g
unfolding argument_fold piece_fold
literal_roll layer value h g = at (ap literal_words (sym h) ∙ fold-roll-Literal W W W (W × Text) expr_level literal_level argument_level piece_level layer) g

pub of_integer : (n : ℤ) (g : Gap) → literal_words (l.Integer n) g ≡ word k.Integer (signed_decimal n) g ∷ []
of_integer n g = literal_roll (Literal-F.Integer n) (l.Integer n) (l.rolls-Integer n) g

pub of_bool : (value : Bool) (g : Gap) → literal_words (l.Bool value) g ≡ bool_word value g ∷ []
of_bool value g = literal_roll (Literal-F.Bool value) (l.Bool value) (l.rolls-Bool value) g

pub of_string : (text : Text) (pieces : List StringPiece) (g : Gap) → literal_words (l.String text pieces) g ≡ string_words text (map piece_pair pieces) g
of_string text pieces g =
    literal_roll (Literal-F.String text pieces) (l.String text pieces) (l.rolls-String text pieces) g
    ∙ ap (λ ys. string_words text ys g) (map_alike piece_fold piece_pair piece_same pieces)

-- for the functions that write expressions, and literals
pub ruleset expr_rules = (append_assoc, text_append, of_try, of_await, of_ternary, of_binary, of_prefix, of_member, of_call, of_index, of_force, of_literal, of_nil, of_name, of_self, of_implicit, of_paren, of_array, of_issue, of_wait)

pub ruleset literal_rules = (append_assoc, text_append, of_integer, of_bool)
