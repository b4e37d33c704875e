-- The layers of what is written for an expression.
use Rattle.std.proofs.Common.{◌≡◌, Bool, List, [], ◌∷◌, ◌++◌, map, ℤ, refl, sym, ap, ◌∙◌}
use Rattle.std.specs.Fmt.{signed_decimal}
use Rattle.sw_base.specs.declared.ids.Span.{Span}
use Rattle.sw_lex.specs.Bytes.{Text}
use Rattle.sw_lex.specs.declared.token.TokenKind.TheVariants as k
use Rattle.sw_layout.specs.declared.gap.Gap.{Gap}
use Rattle.sw_layout.specs.declared.gap.Gap.TheVariants as gap
use Rattle.sw_layout.specs.Words.{plain}
use Rattle.sw_tree.specs.declared.expr.Name.{Name}
use Rattle.sw_tree.specs.declared.expr.TryForm.{TryForm}
use Rattle.sw_tree.specs.declared.expr.PrefixOperator.{PrefixOperator}
use Rattle.sw_tree.specs.declared.expr.BinaryOperator.{BinaryOperator}
use Rattle.sw_tree.specs.declared.expr.Argument.{Argument, fold-Argument, fold-roll-Argument, roll-Argument, rolls-Argument'}
use Rattle.sw_tree.specs.declared.expr.Literal.{Literal, fold-Literal, fold-roll-Literal}
use Rattle.sw_tree.specs.declared.expr.Literal.TheVariants as lit
use Rattle.sw_tree.specs.declared.expr.StringPiece.{StringPiece, fold-StringPiece, fold-roll-StringPiece, roll-StringPiece, rolls-StringPiece'}
use Rattle.sw_tree.specs.declared.expr.Expr.{Expr, fold-Expr, fold-roll-Expr}
use Rattle.sw_tree.specs.declared.expr.Expr.TheOpen.{Expr-F, Literal-F, Argument-F, StringPiece-F}
use Rattle.sw_tree.specs.declared.expr.Expr.TheVariants as e
use Rattle.sw_print.specs.Expressions.{W, word, name_word, dot_name, listed, try_words, bool_word, mark_of, signed, string_words, expr_words, literal_words, argument_words}
use Rattle.sw_print.proofs.Spelling.TypeWords.{at}

pub words_try : (form : TryForm) (place : Span) (x : Expr) (g : Gap) → expr_words (e.Try form place x) g ≡ try_words form g ++ expr_words x gap.Space
words_try form place x g = at (ap expr_words (sym (e.rolls-Try form place x)) ∙ fold-roll-Expr W W W (W × Text) _ _ _ _ (Expr-F.Try form place x)) g

abbrev ArgumentLayer : Type 0
ArgumentLayer = Argument-F Expr Literal Argument StringPiece

abbrev PieceLayer : Type 0
PieceLayer = StringPiece-F Expr Literal Argument StringPiece

module _ (A A' A'' A3 : Type 0) (step : Expr-F A A' A'' A3 → A) (step' : Literal-F A A' A'' A3 → A') (step'' : Argument-F A A' A'' A3 → A'') (step3 : StringPiece-F A A' A'' A3 → A3) where
  folded_argument : (x : Argument) → fold-Argument A A' A'' A3 step step' step'' step3 x ≡ step'' (record { label = x.label; value = fold-Expr A A' A'' A3 step step' step'' step3 x.value })
  folded_argument x =
      let d : ArgumentLayer = record { label = x.label; value = x.value } in
      let same : roll-Argument d ≡ x = rolls-Argument' d in
      ap (fold-Argument A A' A'' A3 step step' step'' step3) (sym same) ∙ fold-roll-Argument A A' A'' A3 step step' step'' step3 d

  folded_piece : (x : StringPiece) → fold-StringPiece A A' A'' A3 step step' step'' step3 x ≡ step3 (record { value = fold-Expr A A' A'' A3 step step' step'' step3 x.value; text = x.text })
  folded_piece x =
      let d : PieceLayer = record { value = x.value; text = x.text } in
      let same : roll-StringPiece d ≡ x = rolls-StringPiece' d in
      ap (fold-StringPiece A A' A'' A3 step step' step'' step3) (sym same) ∙ fold-roll-StringPiece A A' A'' A3 step step' step'' step3 d

  same_map : {X Y : Type 0} (f h : X → Y) → ((x : X) → f x ≡ h x) → (xs : List X) → map f xs ≡ map h xs
  same_map f h p [] = refl
  same_map f h p (x ∷ xs) = cons_same (p x) (same_map f h p xs)
    where
      cons_same : {Y : Type 0} {a b : Y} {u v : List Y} → a ≡ b → u ≡ v → (a ∷ u) ≡ (b ∷ v)
      cons_same p q = cc

  folded_arguments : (xs : List Argument) → map (fold-Argument A A' A'' A3 step step' step'' step3) xs ≡ map (λ x. step'' (record { label = x.label; value = fold-Expr A A' A'' A3 step step' step'' step3 x.value })) xs
  folded_arguments = same_map _ _ folded_argument

  folded_pieces : (xs : List StringPiece) → map (fold-StringPiece A A' A'' A3 step step' step'' step3) xs ≡ map (λ x. step3 (record { value = fold-Expr A A' A'' A3 step step' step'' step3 x.value; text = x.text })) xs
  folded_pieces = same_map _ _ folded_piece

  folded_call : (x : Expr) (place : Span) (xs : List Argument) → fold-Expr A A' A'' A3 step step' step'' step3 (e.Call x (place, xs))
      ≡ step (Expr-F.Call (fold-Expr A A' A'' A3 step step' step'' step3 x) (place, map (λ x. step'' (record { label = x.label; value = fold-Expr A A' A'' A3 step step' step'' step3 x.value })) xs))
  folded_call x place xs = ap (fold-Expr A A' A'' A3 step step' step'' step3) (sym (e.rolls-Call x (place, xs))) ∙ fold-roll-Expr A A' A'' A3 step step' step'' step3 (Expr-F.Call x (place, xs))
      ∙ ap (λ ys. step (Expr-F.Call (fold-Expr A A' A'' A3 step step' step'' step3 x) (place, ys))) (folded_arguments xs)

  folded_literal : (place : Span) (x : Literal) → fold-Expr A A' A'' A3 step step' step'' step3 (e.Literal place x) ≡ step (Expr-F.Literal place (fold-Literal A A' A'' A3 step step' step'' step3 x))
  folded_literal place x = ap (fold-Expr A A' A'' A3 step step' step'' step3) (sym (e.rolls-Literal place x)) ∙ fold-roll-Expr A A' A'' A3 step step' step'' step3 (Expr-F.Literal place x)

  folded_integer : (n : ℤ) → fold-Literal A A' A'' A3 step step' step'' step3 (lit.Integer n) ≡ step' (Literal-F.Integer n)
  folded_integer n = ap (fold-Literal A A' A'' A3 step step' step'' step3) (sym (lit.rolls-Integer n)) ∙ fold-roll-Literal A A' A'' A3 step step' step'' step3 (Literal-F.Integer n)

  folded_bool : (b : Bool) → fold-Literal A A' A'' A3 step step' step'' step3 (lit.Bool b) ≡ step' (Literal-F.Bool b)
  folded_bool b = ap (fold-Literal A A' A'' A3 step step' step'' step3) (sym (lit.rolls-Bool b)) ∙ fold-roll-Literal A A' A'' A3 step step' step'' step3 (Literal-F.Bool b)

  folded_string : (text : Text) (xs : List StringPiece) → fold-Literal A A' A'' A3 step step' step'' step3 (lit.String text xs)
      ≡ step' (Literal-F.String text (map (λ x. step3 (record { value = fold-Expr A A' A'' A3 step step' step'' step3 x.value; text = x.text })) xs))
  folded_string text xs = ap (fold-Literal A A' A'' A3 step step' step'' step3) (sym (lit.rolls-String text xs)) ∙ fold-roll-Literal A A' A'' A3 step step' step'' step3 (Literal-F.String text xs)
      ∙ ap (λ ys. step' (Literal-F.String text ys)) (folded_pieces xs)

-- a literal is written alike wherever it stands
pub words_literal : (place : Span) (x : Literal) (g : Gap) → expr_words (e.Literal place x) g ≡ literal_words x g
words_literal place x g = at (folded_literal _ _ _ _ _ _ _ _ place x) g

abbrev pub piece_words : StringPiece → W × Text
piece_words x = (expr_words x.value, x.text)

pub words_call : (x : Expr) (place : Span) (xs : List Argument) (g : Gap) → expr_words (e.Call x (place, xs)) g ≡ expr_words x g ++ (plain k.LeftParen gap.Joined ∷ (listed (map argument_words xs) ++ plain k.RightParen gap.Space ∷ []))
words_call x place xs g = at (folded_call _ _ _ _ _ _ _ _ x place xs) g

pub words_integer : (place : Span) (n : ℤ) (g : Gap) → expr_words (e.Literal place (lit.Integer n)) g ≡ word k.Integer (signed_decimal n) g ∷ []
words_integer place n g = at (folded_literal _ _ _ _ _ _ _ _ place (lit.Integer n)) g ∙ at (folded_integer _ _ _ _ _ _ _ _ n) g

pub words_bool : (place : Span) (b : Bool) (g : Gap) → expr_words (e.Literal place (lit.Bool b)) g ≡ bool_word b g ∷ []
words_bool place b g = at (folded_literal _ _ _ _ _ _ _ _ place (lit.Bool b)) g ∙ at (folded_bool _ _ _ _ _ _ _ _ b) g

pub words_string : (place : Span) (text : Text) (xs : List StringPiece) (g : Gap) → expr_words (e.Literal place (lit.String text xs)) g ≡ string_words text (map piece_words xs) g
words_string place text xs g = at (folded_literal _ _ _ _ _ _ _ _ place (lit.String text xs)) g ∙ at (folded_string _ _ _ _ _ _ _ _ text xs) g

pub words_await : (place : Span) (x : Expr) (g : Gap) → expr_words (e.Await place x) g ≡ plain k.Await g ∷ expr_words x gap.Space
words_await place x g = at (ap expr_words (sym (e.rolls-Await place x)) ∙ fold-roll-Expr W W W (W × Text) _ _ _ _ (Expr-F.Await place x)) g

pub words_ternary : (x y z : Expr) (g : Gap) → expr_words (e.Ternary x (y, z)) g ≡ expr_words x g ++ (plain k.Question gap.Space ∷ (expr_words y gap.Space ++ (plain k.Colon gap.Space ∷ expr_words z gap.Space)))
words_ternary x y z g = at (ap expr_words (sym (e.rolls-Ternary x (y, z))) ∙ fold-roll-Expr W W W (W × Text) _ _ _ _ (Expr-F.Ternary x (y, z))) g

pub words_binary : (operator : BinaryOperator) (place : Span) (x y : Expr) (g : Gap) → expr_words (e.Binary operator place (x, y)) g ≡ expr_words x g ++ (plain (mark_of operator) gap.Space ∷ expr_words y gap.Space)
words_binary operator place x y g = at (ap expr_words (sym (e.rolls-Binary operator place (x, y))) ∙ fold-roll-Expr W W W (W × Text) _ _ _ _ (Expr-F.Binary operator place (x, y))) g

pub words_prefix : (operator : PrefixOperator) (place : Span) (x : Expr) (g : Gap) → expr_words (e.Prefix operator place x) g ≡ signed operator (expr_words x) g
words_prefix operator place x g = at (ap expr_words (sym (e.rolls-Prefix operator place x)) ∙ fold-roll-Expr W W W (W × Text) _ _ _ _ (Expr-F.Prefix operator place x)) g

pub words_member : (x : Expr) (name : Name) (g : Gap) → expr_words (e.Member x name) g ≡ expr_words x g ++ dot_name name gap.Joined
words_member x name g = at (ap expr_words (sym (e.rolls-Member x name)) ∙ fold-roll-Expr W W W (W × Text) _ _ _ _ (Expr-F.Member x name)) g

pub words_index : (x : Expr) (place : Span) (y : Expr) (g : Gap) → expr_words (e.Index x (place, y)) g ≡ expr_words x g ++ (plain k.LeftBracket gap.Joined ∷ (expr_words y gap.Space ++ plain k.RightBracket gap.Space ∷ []))
words_index x place y g = at (ap expr_words (sym (e.rolls-Index x (place, y))) ∙ fold-roll-Expr W W W (W × Text) _ _ _ _ (Expr-F.Index x (place, y))) g

pub words_force : (x : Expr) (place : Span) (g : Gap) → expr_words (e.Force x place) g ≡ expr_words x g ++ plain k.Bang gap.Joined ∷ []
words_force x place g = at (ap expr_words (sym (e.rolls-Force x place)) ∙ fold-roll-Expr W W W (W × Text) _ _ _ _ (Expr-F.Force x place)) g

pub words_nil : (place : Span) (g : Gap) → expr_words (e.Nil place) g ≡ plain k.Nil g ∷ []
words_nil place g = at (ap expr_words (sym (e.rolls-Nil place)) ∙ fold-roll-Expr W W W (W × Text) _ _ _ _ (Expr-F.Nil place)) g

pub words_named : (name : Name) (g : Gap) → expr_words (e.Name name) g ≡ name_word name g ∷ []
words_named name g = at (ap expr_words (sym (e.rolls-Name name)) ∙ fold-roll-Expr W W W (W × Text) _ _ _ _ (Expr-F.Name name)) g

pub words_self : (place : Span) (g : Gap) → expr_words (e.SelfValue place) g ≡ plain k.Self_ g ∷ []
words_self place g = at (ap expr_words (sym (e.rolls-SelfValue place)) ∙ fold-roll-Expr W W W (W × Text) _ _ _ _ (Expr-F.SelfValue place)) g

pub words_implicit : (place : Span) (name : Name) (g : Gap) → expr_words (e.Implicit place name) g ≡ dot_name name g
words_implicit place name g = at (ap expr_words (sym (e.rolls-Implicit place name)) ∙ fold-roll-Expr W W W (W × Text) _ _ _ _ (Expr-F.Implicit place name)) g

pub words_paren : (place : Span) (x : Expr) (g : Gap) → expr_words (e.Paren place x) g ≡ plain k.LeftParen g ∷ (expr_words x gap.Space ++ plain k.RightParen gap.Space ∷ [])
words_paren place x g = at (ap expr_words (sym (e.rolls-Paren place x)) ∙ fold-roll-Expr W W W (W × Text) _ _ _ _ (Expr-F.Paren place x)) g

pub words_elements : (place : Span) (xs : List Expr) (g : Gap) → expr_words (e.Array place xs) g ≡ plain k.LeftBracket g ∷ (listed (map expr_words xs) ++ plain k.RightBracket gap.Space ∷ [])
words_elements place xs g = at (ap expr_words (sym (e.rolls-Array place xs)) ∙ fold-roll-Expr W W W (W × Text) _ _ _ _ (Expr-F.Array place xs)) g
