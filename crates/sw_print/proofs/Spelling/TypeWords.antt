-- What is written for a type spells it again.
use Rattle.std.proofs.Common.{◌≡◌, ℕ, zero, suc, false, ◌⊎◌, inl, inr, if◌then◌else◌, List, [], ◌∷◌, ◌++◌, Some, None, refl, sym, ap, ◌∙◌, append-nil}
use Rattle.sw_base.specs.declared.ids.Span.{Span}
use Rattle.sw_lex.specs.declared.token.TokenKind.TheVariants as k
use Rattle.sw_lex.specs.declared.token.Token.{Token}
use Rattle.sw_grammar.specs.Grammar.{terminal, nonterminal, many, counts}
use Rattle.sw_layout.specs.declared.gap.Gap.{Gap}
use Rattle.sw_layout.specs.declared.gap.Gap.TheVariants as gap
use Rattle.sw_layout.specs.Words.{plain}
use Rattle.sw_tree.specs.declared.expr.Name.{Name}
use Rattle.sw_tree.specs.declared.types.«Type».{«Type» as TypeTree, fold-roll-Type}
use Rattle.sw_tree.specs.declared.types.«Type».TheOpen.{Type-F}
use Rattle.sw_tree.specs.declared.types.«Type».TheVariants as t
use Rattle.sw_syntax.specs.Tokens.{same_kind, Sighted, Face}
use Rattle.sw_syntax.specs.Nonterminals.{Nonterminal, Sort, TypeExpr, BaseType}
use Rattle.sw_syntax.specs.Parts.{P, whole_type}
use Rattle.sw_syntax.specs.Grammar.{production}
use Rattle.sw_syntax.specs.Tests.{is_joined_question}
use Rattle.sw_syntax.specs.Values.{optional_of}
use Rattle.sw_print.specs.Expressions.{W, name_word, dot_name, type_words, ends_in_question}
use Rattle.sw_print.proofs.TypeShape.{question_end}
use Rattle.sw_print.proofs.Spelling.Kinds.{touching_question_kind}
use Rattle.sw_print.proofs.Spelling.Making.{Made, make_both, make_gives, make_left, make_right, make_none, make_some, make_nest, make_counts, make_nil, make_cons, reword, make_limited}
use Rattle.sw_print.proofs.Spelling.Marks.{BuiltOf, was_mark, make_plain, make_tok, make_place, make_name}

-- ---- the layers of what is written

pub at : {f h : W} → f ≡ h → (g : Gap) → f g ≡ h g
at e g = ap (λ f. f g) e

words_name : (name : Name) (g : Gap) → type_words (t.Name name) g ≡ name_word name g ∷ []
words_name name g = at (ap type_words (sym (t.rolls-Name name)) ∙ fold-roll-Type W _ (Type-F.Name name)) g

words_member : (outer name : Name) (g : Gap) → type_words (t.Member outer name) g ≡ name_word outer g ∷ dot_name name gap.Joined
words_member outer name g = at (ap type_words (sym (t.rolls-Member outer name)) ∙ fold-roll-Type W _ (Type-F.Member outer name)) g

words_array : (place : Span) (x : TypeTree) (g : Gap) → type_words (t.Array place x) g ≡ plain k.LeftBracket g ∷ (type_words x gap.Space ++ plain k.RightBracket gap.Space ∷ [])
words_array place x g = at (ap type_words (sym (t.rolls-Array place x)) ∙ fold-roll-Type W _ (Type-F.Array place x)) g

words_any : (place : Span) (name : Name) (g : Gap) → type_words (t.Any place name) g ≡ plain k.Any g ∷ name_word name gap.Space ∷ []
words_any place name g = at (ap type_words (sym (t.rolls-Any place name)) ∙ fold-roll-Type W _ (Type-F.Any place name)) g

words_void : (place : Span) (g : Gap) → type_words (t.Void place) g ≡ plain k.LeftParen g ∷ plain k.RightParen gap.Space ∷ []
words_void place g = at (ap type_words (sym (t.rolls-Void place)) ∙ fold-roll-Type W _ (Type-F.Void place)) g

words_optional : (x : TypeTree) (g : Gap) → ends_in_question (type_words x g) ≡ false → type_words (t.Optional x) g ≡ type_words x g ++ plain k.Question gap.Joined ∷ []
words_optional x g h = at (ap type_words (sym (t.rolls-Optional x)) ∙ fold-roll-Type W _ (Type-F.Optional x)) g
    ∙ ap (λ b. type_words x g ++ plain k.Question (if b then gap.Space else gap.Joined) ∷ []) h

-- ---- the productions

module _ (D : (s : Nonterminal) → ℕ → ℕ → ℕ → ℕ → List Sighted → Sort s → Type 0) (B : (s : Nonterminal) → ℕ → ℕ → ℕ → ℕ → Sort s → Type 0) where
  -- what is written for each type that the part builds spells it
  abbrev pub TypeAgain : P TypeTree → Type 0
  TypeAgain a = (d l c e : ℕ) (x : TypeTree) → BuiltOf B a d l c e x → (g : Gap) (following : List Token) → Made D a d l c e x (type_words x g) following

  -- The same for a type without its `?`, and it does not end in one.
  abbrev pub BaseAgain : P TypeTree → Type 0
  BaseAgain a = (d l c e : ℕ) (x : TypeTree) → BuiltOf B a d l c e x → (g : Gap) (following : List Token) → (ends_in_question (type_words x g) ≡ false) × Made D a d l c e x (type_words x g) following

  -- type = base ?*, with at most one `?`
  pub type_rule : BaseAgain (nonterminal BaseType) → (d l c m e : ℕ) (y x : TypeTree) (marks : List Face) → BuiltOf B (nonterminal BaseType) d l c m x → BuiltOf B (many (counts (terminal is_joined_question))) d l m e marks → y ≡ optional_of x marks
      → (marks ≡ []) ⊎ ((one : Face) × (marks ≡ one ∷ [])) → (g : Gap) (following : List Token) → Made D (production false TypeExpr) d l c e y (type_words y g) following
  unfolding same_kind
  type_rule base d l c m e y x [] p q h few g following =
      make_gives D h (reword D (ap (λ y. type_words y g) h ∙ sym (append-nil (type_words x g))) (make_both D (base d l c m x p g _).1 (make_nil D q)))
  type_rule base d l c zero e y x (one ∷ []) p (m2, q, r) h few g following = elim q [ ]
  type_rule base d l c (suc m) e y x (one ∷ []) p (m2, (s, good, is, ex, ec), r) h few g following =
      let its = base d l c (suc m) x p g _ in
      make_gives D h (reword D (ap (λ y. type_words y g) h ∙ words_optional x g its.0) (make_both D its.1
      (make_cons D (make_counts D (make_plain D B is_joined_question k.Question gap.Joined following d l m m2 one (was_mark k.Question s one good (touching_question_kind s good is) ex) refl refl ec)) (make_nil D r))))
  type_rule base d l c m e y x (one ∷ two ∷ marks) p q h (inl none) g following = absurd (cc (none))
  type_rule base d l c m e y x (one ∷ two ∷ marks) p q h (inr (only, same)) g following = absurd (cc (same))

  -- base = name | name . name | [ type ] | any name | ( )
  pub base_rule : TypeAgain (nonterminal TypeExpr) → TypeAgain (production false BaseType)
  unfolding same_kind
  base_rule within d l c e y (inl ((name, None), (m, p, q), h)) g following =
      make_left D (make_gives D h (reword D (ap (λ y. type_words y g) h ∙ words_name name g) (make_both D (make_name D B g _ d l c m name p) (make_none D q))))
  base_rule within d l c e y (inl ((outer, Some name), (m, p, ((dot, inner), (m2, q, r), same)), h)) g following =
      make_left D (make_gives D h (reword D (ap (λ y. type_words y g) h ∙ words_member outer name g)
      (make_both D (make_name D B g _ d l c m outer p) (make_some D (make_gives D same
      (make_both D (make_tok D B k.Dot gap.Joined _ d l m m2 dot q refl refl) (reword D (ap (λ n. name_word n gap.Joined ∷ []) same) (make_name D B gap.Joined following d l m2 e inner r))))))))
  base_rule within zero l c e y (inr (inl (x, p, h))) g following = elim p [ ]
  base_rule within (suc d) l zero e y (inr (inl (x, (m, p, q), h))) g following = elim p [ ]
  base_rule within (suc d) l (suc c) e y (inr (inl ((at, (x, close)), (m, p, (m2, q, r)), h))) g following =
      make_right D (make_left D (make_gives D h (reword D (ap (λ y. type_words y g) h ∙ words_array at x g) (make_nest D
      (make_both D (make_counts D (make_place D B k.LeftBracket g _ d l c m at p refl (λ x. refl)))
      (make_both D (within d l m m2 x q gap.Space _) (make_tok D B k.RightBracket gap.Space following d l m2 e close r refl refl)))))))
  base_rule within d l c e y (inr (inr (inl ((at, name), (m, p, q), h)))) g following =
      make_right D (make_right D (make_left D (make_gives D h (reword D (ap (λ y. type_words y g) h ∙ words_any at name g)
      (make_both D (make_place D B k.Any g _ d l c m at p refl (λ x. refl)) (make_name D B gap.Space following d l m e name q))))))
  base_rule within zero l c e y (inr (inr (inr (x, p, h)))) g following = elim p [ ]
  base_rule within (suc d) l c e y (inr (inr (inr ((at, close), (m, p, q), h)))) g following =
      make_right D (make_right D (make_right D (make_gives D h (reword D (ap (λ y. type_words y g) h ∙ words_void at g) (make_nest D
      (make_both D (make_place D B k.LeftParen g _ d l c m at p refl (λ x. refl)) (make_tok D B k.RightParen gap.Space following d l m e close q refl refl)))))))

  -- and it ends in no `?`
  pub base_ends : (d l c e : ℕ) (y : TypeTree) → BuiltOf B (production false BaseType) d l c e y → (g : Gap) → ends_in_question (type_words y g) ≡ false
  base_ends d l c e y (inl ((name, None), p, h)) g = ap (λ y. ends_in_question (type_words y g)) h ∙ ap ends_in_question (words_name name g)
  base_ends d l c e y (inl ((outer, Some name), p, h)) g = ap (λ y. ends_in_question (type_words y g)) h ∙ ap ends_in_question (words_member outer name g)
  base_ends zero l c e y (inr (inl (x, p, h))) g = elim p [ ]
  base_ends (suc d) l c e y (inr (inl ((at, (x, close)), p, h))) g =
      ap (λ y. ends_in_question (type_words y g)) h ∙ ap ends_in_question (words_array at x g) ∙ question_end (plain k.LeftBracket g ∷ type_words x gap.Space) (plain k.RightBracket gap.Space)
  base_ends d l c e y (inr (inr (inl ((at, name), p, h)))) g = ap (λ y. ends_in_question (type_words y g)) h ∙ ap ends_in_question (words_any at name g)
  base_ends zero l c e y (inr (inr (inr (x, p, h)))) g = elim p [ ]
  base_ends (suc d) l c e y (inr (inr (inr ((at, close), p, h)))) g = ap (λ y. ends_in_question (type_words y g)) h ∙ ap ends_in_question (words_void at g)

  -- a type that stands in no other
  pub whole_type_again : TypeAgain (nonterminal TypeExpr) → TypeAgain whole_type
  whole_type_again within d l c e x (m, p, ec) g following = make_limited D ec (within d l l m x p g following)
