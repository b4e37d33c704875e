-- What is written for statements spells them again, where what is written for their parts does.
use Rattle.std.proofs.Common.{ℕ, inl, inr, List, [], ◌∷◌, map, Some, None, refl, ap, ◌∙◌}
use Rattle.sw_lex.specs.declared.token.TokenKind.TheVariants as k
use Rattle.sw_grammar.specs.Grammar.{terminal, nonterminal, many, maybe, gives}
use Rattle.sw_layout.specs.declared.gap.Gap.TheVariants as gap
use Rattle.sw_tree.specs.declared.stmt.RangeEnd.{RangeEnd}
use Rattle.sw_tree.specs.declared.stmt.Stmt.TheVariants as s
use Rattle.sw_syntax.specs.Tokens.{same_kind, Sighted}
use Rattle.sw_syntax.specs.Nonterminals.{Nonterminal, Sort, Open, Closed, Expr, TypeExpr, Condition, Caught, Block, If, Arms}
use Rattle.sw_syntax.specs.Parts.{P, ◌·◌, ◌∣◌, tok, name, whole_expr}
use Rattle.sw_syntax.specs.Grammar.{statement, annotation, catch}
use Rattle.sw_syntax.specs.Tests.{is_range}
use Rattle.sw_syntax.specs.Values.{or_none}
use Rattle.sw_syntax.specs.Forms.{range_end}
use Rattle.sw_print.specs.Statements.{condition_words, catch_pattern_words, annotation_words, loop_word, range_words, each_line, catches_words, stmt_words, block_words}
use Rattle.sw_print.proofs.Spelling.Making.{make_both, make_gives, make_left, make_right, make_none, make_some, make_nil, make_cons, reword}
use Rattle.sw_print.proofs.Spelling.Marks.{make_tok, make_place, make_name}
use Rattle.sw_print.proofs.Spelling.TypeWords.{TypeAgain}
use Rattle.sw_print.proofs.Spelling.Texts.{PartAgain}
use Rattle.sw_print.proofs.Spelling.Lines.{Again, Laid, make_limited, make_then_none, make_then_some, maybe_made, braces_made, whole_expr_again, whole_type_again}
use Rattle.sw_print.proofs.Spelling.Patterns.{binding_made, initial_again, conditions_again}
use Rattle.sw_print.proofs.Spelling.Assignments.{make_assignment, make_range}
use Rattle.sw_print.proofs.Spelling.Elses.{make_any_else}
use Rattle.sw_print.proofs.Spelling.StmtLayers.{catch_words, arm_words, if_words, words_local, words_assign, words_discard, words_expr, words_if, words_guard, words_while, words_for, words_switch, words_do, words_throw, words_break, words_continue}

module _ (D : (s : Nonterminal) → ℕ → ℕ → ℕ → ℕ → List Sighted → Sort s → Type 0) (B : (s : Nonterminal) → ℕ → ℕ → ℕ → ℕ → Sort s → Type 0) where
  -- ---- statements that end in an expression

  module _ (within : PartAgain D B (nonterminal Expr)) where
    -- : type
    pub annotation_again : TypeAgain D B (nonterminal TypeExpr) → Laid D B annotation annotation_words
    unfolding same_kind
    annotation_again types d l c e y ((colon, x), (m, p, q), h) following =
        make_gives D h (reword D (ap annotation_words h) (make_both D (make_tok D B k.Colon gap.Space _ d l c m colon p refl refl) (whole_type_again D B types d l m e x q gap.Space following)))

    pub open_again : TypeAgain D B (nonterminal TypeExpr) → Again D B (statement Open) stmt_words
    unfolding same_kind
    open_again types d l c e y (inl ((word', (name', (declared, value))), (m, p, (m2, q, (m3, r, t))), h)) g following =
        make_left D (make_gives D h (reword D (ap (λ y. stmt_words y g) h ∙ words_local _ _ name' declared value g)
        (make_both D (binding_made D B d l c m word' p g _) (make_both D (make_name D B gap.Space _ d l m m2 name' q)
        (make_both D (maybe_made D B annotation annotation_words (annotation_again types) d l m2 m3 declared r _) (initial_again D B within d l m3 e value t following))))))
    open_again types d l c e y (inr (inl ((x, None), p, h))) g following =
        make_right D (make_left D (make_gives D h (reword D (ap (λ y. stmt_words y g) h ∙ words_expr x g) (make_then_none D (whole_expr_again D B within d l c e x p g following).made))))
    open_again types d l c e y (inr (inl ((x, Some (sign, value)), (m, p, is, (m2, q, r)), h))) g following =
        make_right D (make_left D (make_gives D h (reword D (ap (λ y. stmt_words y g) h ∙ words_assign x _ sign.span value g)
        (make_then_some D is (whole_expr_again D B within d l c m x p g _).made
        (make_both D (make_assignment D B _ d l m m2 sign q) (whole_expr_again D B within d l m2 e value r gap.Space following).made)))))
    open_again types d l c e y (inr (inr (inl ((at, value), (m, p, q), h)))) g following =
        make_right D (make_right D (make_left D (make_gives D h (reword D (ap (λ y. stmt_words y g) h ∙ words_discard at value g)
        (make_both D (make_place D B k.Underscore g _ d l c m at p refl (λ x. refl)) (initial_again D B within d l m e value q following))))))
    open_again types d l c e y (inr (inr (inr ((at, value), (m, p, q), h)))) g following =
        make_right D (make_right D (make_right D (make_gives D h (reword D (ap (λ y. stmt_words y g) h ∙ words_throw at value g)
        (make_both D (make_place D B k.Throw g _ d l c m at p refl (λ x. refl)) (whole_expr_again D B within d l m e value q gap.Space following).made)))))

    -- ---- statements that end in something else

    -- a name, or `_`
    loop_made : Laid D B (gives Some name ∣ gives (λ _. None) (tok k.Underscore)) (λ x. loop_word x ∷ [])
    unfolding same_kind
    loop_made d l c e y (inl (x, p, h)) following = make_left D (make_gives D h (reword D (ap (λ y. loop_word y ∷ []) h) (make_name D B gap.Space following d l c e x p)))
    loop_made d l c e y (inr (x, p, h)) following = make_right D (make_gives D h (reword D (ap (λ y. loop_word y ∷ []) h) (make_tok D B k.Underscore gap.Space following d l c e x p refl refl)))

    abbrev range_part : P RangeEnd
    range_part = gives (λ x. range_end x.0 x.1) (terminal is_range · whole_expr)

    range_made : Laid D B range_part range_words
    range_made d l c e y ((sign, x), (m, p, q), h) following =
        make_gives D h (reword D (ap range_words h) (make_both D (make_range D B _ d l c m sign p) (whole_expr_again D B within d l m e x q gap.Space following).made))

    -- arms between braces, perhaps none
    arms_made : Laid D B (nonterminal Arms) (λ arms. each_line (map arm_words arms)) → Laid D B (gives or_none (maybe (nonterminal Arms))) (λ arms. each_line (map arm_words arms))
    arms_made arms d l c e y (None, p, h) following = make_gives D h (reword D (ap (λ y. each_line (map arm_words y)) h) (make_none D p))
    arms_made arms d l c e y (Some xs, p, h) following = make_gives D h (reword D (ap (λ y. each_line (map arm_words y)) h) (make_some D (arms d l c e xs p following)))

    module _ (conditions : Again D B (nonterminal Condition) condition_words) (block : Laid D B (nonterminal Block) block_words) where
      -- catch cpat? block
      catch_made : Again D B (nonterminal Caught) catch_pattern_words → Again D B catch catch_words
      unfolding same_kind
      catch_made patterns d l c e y ((at, (pattern, body)), (m, p, (m2, q, r)), h) g following =
          make_gives D h (reword D (ap (λ y. catch_words y g) h) (make_both D (make_place D B k.Catch g _ d l c m at p refl (λ x. refl))
          (make_both D (maybe_made D B (nonterminal Caught) _ (λ d l c e x p following. patterns d l c e x p gap.Space following) d l m m2 pattern q _) (block d l m2 e body r following))))

      catches_made : Again D B (nonterminal Caught) catch_pattern_words → Laid D B (many catch) (λ xs. catches_words (map catch_words xs))
      catches_made patterns d l c e [] h following = make_nil D h
      catches_made patterns d l c e (x ∷ xs) (m, p, q) following = make_cons D (catch_made patterns d l c m x p gap.Space _) (catches_made patterns d l m e xs q following)

      pub closed_again : Again D B (nonterminal Caught) catch_pattern_words → Again D B (nonterminal If) if_words → Laid D B (nonterminal Arms) (λ arms. each_line (map arm_words arms))
          → Again D B (statement Closed) stmt_words
      unfolding same_kind
      closed_again patterns branches arms d l c e y (inl (x, (m, p, same), h)) g following =
          make_left D (make_gives D h (reword D (ap (λ y. stmt_words y g) h ∙ words_if x.0 x.1.0 x.1.1 g) (make_limited D (branches d l l m x p g following) same)))
      closed_again patterns branches arms d l c e y (inr (inl ((at, (xs, body)), (m, p, (m2, q, ((word', body2), (m3, r, t), same))), h))) g following =
          make_right D (make_left D (make_gives D h (reword D (ap (λ y. stmt_words y g) (h ∙ ap (s.Guard at xs) same) ∙ words_guard at xs body2 g)
          (make_both D (make_place D B k.Guard g _ d l c m at p refl (λ x. refl)) (make_both D (conditions_again D B conditions d l m m2 xs q _)
          (make_gives D same (make_both D (make_any_else D B _ d l m2 m3 word' r) (block d l m3 e body2 t following))))))))
      closed_again patterns branches arms d l c e y (inr (inr (inl ((at, (xs, body)), (m, p, (m2, q, r)), h)))) g following =
          make_right D (make_right D (make_left D (make_gives D h (reword D (ap (λ y. stmt_words y g) h ∙ words_while at xs body g)
          (make_both D (make_place D B k.While g _ d l c m at p refl (λ x. refl)) (make_both D (conditions_again D B conditions d l m m2 xs q _) (block d l m2 e body r following)))))))
      closed_again patterns branches arms d l c e y (inr (inr (inr (inl ((at, (name', (word', (first, (last, body))))), (m, p, (m2, q, (m3, r, (m4, t, (m5, u, v))))), h))))) g following =
          make_right D (make_right D (make_right D (make_left D (make_gives D h (reword D (ap (λ y. stmt_words y g) h ∙ words_for at name' first last body g)
          (make_both D (make_place D B k.For g _ d l c m at p refl (λ x. refl)) (make_both D (loop_made d l m m2 name' q _) (make_both D (make_tok D B k.In gap.Space _ d l m2 m3 word' r refl refl)
          (make_both D (whole_expr_again D B within d l m3 m4 first t gap.Space _).made
          (make_both D (maybe_made D B range_part range_words range_made d l m4 m5 last u _) (block d l m5 e body v following)))))))))))
      closed_again patterns branches arms d l c e y (inr (inr (inr (inr (inl ((at, (subject, xs)), (m, p, (m2, q, r)), h)))))) g following =
          make_right D (make_right D (make_right D (make_right D (make_left D (make_gives D h (reword D (ap (λ y. stmt_words y g) h ∙ words_switch at subject xs g)
          (make_both D (make_place D B k.Switch g _ d l c m at p refl (λ x. refl)) (make_both D (whole_expr_again D B within d l m m2 subject q gap.Space _).made
          (braces_made D B (gives or_none (maybe (nonterminal Arms))) (λ arms. each_line (map arm_words arms)) (arms_made arms) d l m2 e xs r following)))))))))
      closed_again patterns branches arms d l c e y (inr (inr (inr (inr (inr (inl ((at, (body, xs)), (m, p, (m2, q, r)), h))))))) g following =
          make_right D (make_right D (make_right D (make_right D (make_right D (make_left D (make_gives D h (reword D (ap (λ y. stmt_words y g) h ∙ words_do at body xs g)
          (make_both D (make_place D B k.Do g _ d l c m at p refl (λ x. refl)) (make_both D (block d l m m2 body q _) (catches_made patterns d l m2 e xs r following))))))))))
      closed_again patterns branches arms d l c e y (inr (inr (inr (inr (inr (inr (inl (at, p, h)))))))) g following =
          make_right D (make_right D (make_right D (make_right D (make_right D (make_right D (make_left D (make_gives D h (reword D (ap (λ y. stmt_words y g) h ∙ words_break at g)
          (make_place D B k.Break g following d l c e at p refl (λ x. refl))))))))))
      closed_again patterns branches arms d l c e y (inr (inr (inr (inr (inr (inr (inr (at, p, h)))))))) g following =
          make_right D (make_right D (make_right D (make_right D (make_right D (make_right D (make_right D (make_gives D h (reword D (ap (λ y. stmt_words y g) h ∙ words_continue at g)
          (make_place D B k.Continue g following d l c e at p refl (λ x. refl))))))))))
