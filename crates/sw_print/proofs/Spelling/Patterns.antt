-- What is written for patterns and conditions spells them again.
use Rattle.std.proofs.Common.{◌≡◌, ℕ, false, inl, inr, List, [], ◌∷◌, map, Some, None, refl, sym, ap, ◌∙◌}
use Rattle.sw_base.specs.declared.ids.Span.{Span}
use Rattle.sw_lex.specs.declared.token.TokenKind.TheVariants as k
use Rattle.sw_lex.specs.declared.token.Token.{Token}
use Rattle.sw_grammar.specs.Grammar.{terminal, nonterminal}
use Rattle.sw_layout.specs.declared.gap.Gap.{Gap}
use Rattle.sw_layout.specs.declared.gap.Gap.TheVariants as gap
use Rattle.sw_layout.specs.Words.{plain}
use Rattle.sw_tree.specs.declared.expr.Literal.{Literal}
use Rattle.sw_tree.specs.declared.expr.Expr.TheVariants as node
use Rattle.sw_tree.specs.declared.stmt.CatchPattern.TheVariants as cp
use Rattle.sw_syntax.specs.Tokens.{same_kind, Sighted, Face}
use Rattle.sw_syntax.specs.Nonterminals.{Nonterminal, Sort, Expr, Condition, Pattern, Caught}
use Rattle.sw_syntax.specs.Parts.{place, any, whole_expr}
use Rattle.sw_syntax.specs.Grammar.{production, bind, binds, initial, conds}
use Rattle.sw_syntax.specs.Tests.{is_let_or_var}
use Rattle.sw_syntax.specs.Values.{binding_of}
use Rattle.sw_grammar.proofs.Starts.{or_either}
use Rattle.sw_print.specs.Expressions.{name_word, around, in_parens, expr_words, literal_words}
use Rattle.sw_print.specs.Statements.{bind_words, pattern_words, catch_pattern_words, binding_word, initial_words, condition_words, conditions_words}
use Rattle.sw_print.proofs.Spelling.Kinds.{is_kind}
use Rattle.sw_print.proofs.Spelling.Making.{Made, make_both, make_gives, make_left, make_right, make_none, make_some, reword}
use Rattle.sw_print.proofs.Spelling.Marks.{BuiltOf, was_mark, make_plain, make_tok, make_place, make_name}
use Rattle.sw_print.proofs.Spelling.ExprLayers.{words_literal}
use Rattle.sw_print.proofs.Spelling.Texts.{PartAgain}
use Rattle.sw_print.proofs.Spelling.Prims.{literal_again}
use Rattle.sw_print.proofs.Spelling.Lines.{Again, Laid, some_made, any_made, parens_made, maybe_made, whole_expr_again}

-- ---- literals by themselves

-- wherever it stands, a literal is written alike
words_nowhere : (place : Span) (x : Literal) (g : Gap) → literal_words x g ≡ expr_words (node.Literal place x) g
words_nowhere place x g = sym (words_literal place x g)

module _ (D : (s : Nonterminal) → ℕ → ℕ → ℕ → ℕ → List Sighted → Sort s → Type 0) (B : (s : Nonterminal) → ℕ → ℕ → ℕ → ℕ → Sort s → Type 0) where
  -- ---- binds

  -- bind = let name | _
  bind_again : Again D B bind bind_words
  unfolding same_kind
  bind_again d l c e y (inl (x, ((mark_face, x2), (m, p, q), same), h)) g following =
      make_left D (make_gives D h (reword D (ap (λ y. bind_words y g) h) (make_gives D same (reword D (ap (λ x. plain k.Let g ∷ name_word x gap.Space ∷ []) same)
      (make_both D (make_tok D B k.Let g _ d l c m mark_face p refl refl) (make_name D B gap.Space following d l m e x2 q))))))
  bind_again d l c e y (inr (x, p, h)) g following =
      make_right D (make_gives D h (reword D (ap (λ y. bind_words y g) h) (make_tok D B k.Underscore g following d l c e x p refl refl)))

  -- ( bind,* )
  pub binds_again : Laid D B binds (λ xs. in_parens (map bind_words xs))
  binds_again = parens_made D B (any bind) _ (any_made D B bind bind_words bind_again)

  -- ---- a word `let` or `var`

  pub binding_made : (d l c e : ℕ) (x : Face) → BuiltOf B (terminal is_let_or_var) d l c e x → (g : Gap) (following : List Token) → Made D (terminal is_let_or_var) d l c e x (binding_word (binding_of x.kind) g ∷ []) following
  unfolding same_kind
  binding_made d l c e x (t, good, passed, ex, ec) g following = elim (or_either _ _ passed) [
    | inl p ↦
        let was = was_mark k.Let t x good (is_kind k.Let t good p) ex in
        reword D (ap (λ kind. binding_word (binding_of kind) g ∷ []) was.0) (make_plain D B is_let_or_var k.Let g following d l c e x was refl refl ec)
    | inr p ↦
        let was = was_mark k.Var t x good (is_kind k.Var t good p) ex in
        reword D (ap (λ kind. binding_word (binding_of kind) g ∷ []) was.0) (make_plain D B is_let_or_var k.Var g following d l c e x was refl refl ec)
  ]

  module _ (within : PartAgain D B (nonterminal Expr)) where
    -- pat = _ | literal | nil | name? . name (( bind,* ))?
    pub pattern_again : Again D B (production false Pattern) pattern_words
    unfolding same_kind
    pattern_again d l c e y (inl (at, p, h)) g following =
        make_left D (make_gives D h (reword D (ap (λ y. pattern_words y g) h) (make_place D B k.Underscore g following d l c e at p refl (λ x. refl))))
    pattern_again d l c e y (inr (inl (x, p, h))) g following =
        let made = literal_again D B whole_expr (whole_expr_again D B within) d l c e x p g following in
        make_right D (make_left D (make_gives D h (reword D (ap (λ y. pattern_words y g) h ∙ words_nowhere x.0 x.1 g) made.made)))
    pattern_again d l c e y (inr (inr (inl (at, p, h)))) g following =
        make_right D (make_right D (make_left D (make_gives D h (reword D (ap (λ y. pattern_words y g) h) (make_place D B k.Nil g following d l c e at p refl (λ x. refl))))))
    pattern_again d l c e y (inr (inr (inr ((None, (at, (name', xs))), (m, none, (m2, p, (m3, q, r))), h)))) g following =
        make_right D (make_right D (make_right D (make_gives D h (reword D (ap (λ y. pattern_words y g) h)
        (make_both D (make_none D none) (make_both D (make_place D B k.Dot (around g) _ d l m m2 at p refl (λ x. refl))
        (make_both D (make_name D B gap.Joined _ d l m2 m3 name' q) (maybe_made D B binds _ binds_again d l m3 e xs r following))))))))
    pattern_again d l c e y (inr (inr (inr ((Some outer, (at, (name', xs))), (m, o, (m2, p, (m3, q, r))), h)))) g following =
        make_right D (make_right D (make_right D (make_gives D h (reword D (ap (λ y. pattern_words y g) h)
        (make_both D (make_some D (make_name D B g _ d l c m outer o)) (make_both D (make_place D B k.Dot gap.Joined _ d l m m2 at p refl (λ x. refl))
        (make_both D (make_name D B gap.Joined _ d l m2 m3 name' q) (maybe_made D B binds _ binds_again d l m3 e xs r following))))))))

    -- = expr
    pub initial_again : Laid D B initial initial_words
    unfolding same_kind
    initial_again d l c e y ((sign, x), (m, p, q), h) following =
        make_gives D h (reword D (ap initial_words h) (make_both D (make_tok D B k.Assign gap.Space _ d l c m sign p refl refl) (whole_expr_again D B within d l m e x q gap.Space following).made))

    -- cond = expr | (let | var) name (= expr)?
    pub condition_again : Again D B (production false Condition) condition_words
    condition_again d l c e y (inl (x, p, h)) g following =
        make_left D (make_gives D h (reword D (ap (λ y. condition_words y g) h) (whole_expr_again D B within d l c e x p g following).made))
    condition_again d l c e y (inr ((word', (name', value)), (m, p, (m2, q, r)), h)) g following =
        make_right D (make_gives D h (reword D (ap (λ y. condition_words y g) h) (make_both D (binding_made d l c m word' p g _)
        (make_both D (make_name D B gap.Space _ d l m m2 name' q) (maybe_made D B initial initial_words initial_again d l m2 e value r following)))))

  -- cpat = let name as name | name . name (( bind,* ))?
  pub catch_pattern_again : Again D B (production false Caught) catch_pattern_words
  unfolding same_kind
  catch_pattern_again d l c e y (inl ((name', of), ((mark_face, (name2, of2)), (m, p, (m2, q, ((as_face, of3), (m3, r, s), same2))), same), h)) g following =
      make_left D (make_gives D h (reword D (ap (λ y. catch_pattern_words y g) (h ∙ ap (λ x. cp.As x.0 x.1) (same ∙ ap (λ of. (name2, of)) same2))) (make_gives D same
      (make_both D (make_tok D B k.Let g _ d l c m mark_face p refl refl) (make_both D (make_name D B gap.Space _ d l m m2 name2 q)
      (make_gives D same2 (make_both D (make_tok D B k.As gap.Space _ d l m2 m3 as_face r refl refl) (make_name D B gap.Space following d l m3 e of3 s))))))))
  catch_pattern_again d l c e y (inr ((outer, (name', xs)), (m, o, ((dot, (name2, xs2)), (m2, p, (m3, q, r)), same)), h)) g following =
      make_right D (make_gives D h (reword D (ap (λ y. catch_pattern_words y g) (h ∙ ap (λ x. cp.Case outer x.0 x.1) same))
      (make_both D (make_name D B g _ d l c m outer o) (make_gives D same (make_both D (make_tok D B k.Dot gap.Joined _ d l m m2 dot p refl refl)
      (make_both D (make_name D B gap.Joined _ d l m2 m3 name2 q) (maybe_made D B binds _ binds_again d l m3 e xs2 r following)))))))

  -- conds = cond,*  (at least one)
  pub conditions_again : Again D B (nonterminal Condition) condition_words → Laid D B conds conditions_words
  conditions_again again = some_made D B (nonterminal Condition) condition_words again
