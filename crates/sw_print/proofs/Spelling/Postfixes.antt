-- What is written for the forms after a prim, and for the prim with them.
use Rattle.std.proofs.Common.{◌≡◌, ℕ, zero, suc, false, inl, inr, List, [], ◌∷◌, ◌++◌, map, Some, None, refl, sym, ap, ◌∙◌, append_assoc, append-nil}
use Rattle.sw_lex.specs.declared.token.TokenKind.TheVariants as k
use Rattle.sw_lex.specs.declared.token.Token.{Token}
use Rattle.sw_grammar.specs.Grammar.{nonterminal, many}
use Rattle.sw_layout.specs.declared.gap.Gap.{Gap}
use Rattle.sw_layout.specs.declared.gap.Gap.TheVariants as gap
use Rattle.sw_grammar.proofs.Starts.{and_halves}
use Rattle.sw_layout.specs.Words.{Word, plain, token_of}
use Rattle.sw_tree.specs.declared.expr.Argument.{Argument as ArgumentTree}
use Rattle.sw_tree.specs.declared.expr.Expr.{Expr as ExprTree}
use Rattle.sw_tree.specs.declared.expr.Expr.TheVariants as node
use Rattle.sw_syntax.specs.Tokens.{same_kind, is_next, Sighted}
use Rattle.sw_syntax.specs.Nonterminals.{Nonterminal, Sort, Expr, Postfix, Primary, PostfixForm, Argument}
use Rattle.sw_syntax.specs.Parts.{P, tok, after as after_terminal, any}
use Rattle.sw_syntax.specs.Grammar.{production}
use Rattle.sw_syntax.specs.Tests.{is_call, is_index, is_force}
use Rattle.sw_syntax.specs.Values.{with_forms}
use Rattle.sw_print.specs.Expressions.{listed, others, dot_name, expr_words, argument_words}
use Rattle.sw_print.proofs.Spelling.Kinds.{is_kind, touching_bang_kind}
use Rattle.sw_print.proofs.Spelling.Making.{Made, make_both, make_gives, make_left, make_right, make_none, make_some, make_nest, make_counts, make_nil, make_cons, reword}
use Rattle.sw_print.proofs.Spelling.Marks.{BuiltOf, was_mark, make_plain, make_tok, make_name}
use Rattle.sw_print.proofs.Spelling.ExprLayers.{words_member, words_call, words_index, words_force}
use Rattle.sw_print.proofs.Spelling.Texts.{NoColon, no_colon_append, headed_append, spelt, PartAgain}

module _ (D : (s : Nonterminal) → ℕ → ℕ → ℕ → ℕ → List Sighted → Sort s → Type 0) (B : (s : Nonterminal) → ℕ → ℕ → ℕ → ℕ → Sort s → Type 0) where
  -- What is written for an argument spells it, where no `:` follows it.
  abbrev pub ArgumentAgain : P ArgumentTree → Type 0
  ArgumentAgain a = (d l c e : ℕ) (x : ArgumentTree) → BuiltOf B a d l c e x → (g : Gap) (following : List Token) → is_next k.Colon following ≡ false → Made D a d l c e x (argument_words x g) following

  -- words that are written for a form, after those of any expression
  pub record FormSpelt (a : P (ExprTree → ExprTree)) (d l c e : ℕ) (form : ExprTree → ExprTree) (following : List Token) : Type 0 where
    pub words : List Word
    pub after_base : (base : ExprTree) (g : Gap) → expr_words (form base) g ≡ expr_words base g ++ words
    pub no_colon : NoColon words
    pub made : Made D a d l c e form words following

  abbrev pub FormAgain : P (ExprTree → ExprTree) → Type 0
  FormAgain a = (d l c e : ℕ) (form : ExprTree → ExprTree) → BuiltOf B a d l c e form → (following : List Token) → FormSpelt a d l c e form following

  module _ (within : PartAgain D B (nonterminal Expr)) (argument : ArgumentAgain (nonterminal Argument)) where
    abbrev more : P (List ArgumentTree)
    more = many (after_terminal (tok k.Comma) (nonterminal Argument))

    -- after an argument stands a comma, or what follows them all
    no_colon_after : (xs : List ArgumentTree) (following : List Token) → is_next k.Colon following ≡ false → is_next k.Colon (map token_of (others (map argument_words xs)) ++ following) ≡ false
    unfolding same_kind
    no_colon_after [] following h = h
    no_colon_after (x ∷ xs) following h = refl

    other_arguments : (d l c e : ℕ) (xs : List ArgumentTree) → BuiltOf B more d l c e xs → (following : List Token) → is_next k.Colon following ≡ false → Made D more d l c e xs (others (map argument_words xs)) following
    unfolding same_kind
    other_arguments d l c e [] h following none = make_nil D h
    other_arguments d l c e (y ∷ xs) (m, ((comma, x), (m2, p, q), h), r) following none =
        make_cons D (make_gives D h (reword D (ap (λ y. plain k.Comma gap.Space ∷ argument_words y gap.Space) h)
        (make_both D (make_tok D B k.Comma gap.Space _ d l c m2 comma p refl refl) (argument d l m2 m x q gap.Space _ (no_colon_after xs following none)))))
        (other_arguments d l m e xs r following none)

    arguments : (d l c e : ℕ) (xs : List ArgumentTree) → BuiltOf B (any (nonterminal Argument)) d l c e xs → (following : List Token) → is_next k.Colon following ≡ false
        → Made D (any (nonterminal Argument)) d l c e xs (listed (map argument_words xs)) following
    arguments d l c e ys (None, h, same) following none = make_gives D same (reword D (ap (λ ys. listed (map argument_words ys)) same) (make_none D h))
    arguments d l c e ys (Some zs, ((x, xs), (m, p, q), h), same) following none =
        make_gives D same (reword D (ap (λ ys. listed (map argument_words ys)) (same ∙ h)) (make_some D (make_gives D h
        (make_both D (argument d l c m x p gap.Space _ (no_colon_after xs following none)) (other_arguments d l m e xs q following none)))))

    -- form = . name | ( arg,* ) | [ expr ] | !
    pub form_rule : FormAgain (production false PostfixForm)
    unfolding same_kind
    form_rule d l zero e form (inl (member, (x, (m, p, q), same), h)) following = elim p [ ]
    form_rule d l (suc c) e form (inl (member, ((dot, name), (m, p, q), same), h)) following = record {
      words = dot_name name gap.Joined;
      after_base = λ base g. ap (λ f. expr_words (f base) g) h ∙ ap (λ member. expr_words (node.Member base member) g) same ∙ words_member base name g;
      no_colon = refl;
      made = make_left D (make_gives D h (make_gives D same (make_both D (make_counts D (make_tok D B k.Dot gap.Joined _ d l c m dot p refl refl)) (make_name D B gap.Joined following d l m e name q))));
    }
    form_rule zero l c e form (inr (inl (x, p, h))) following = elim p [ ]
    form_rule (suc d) l zero e form (inr (inl ((opening, (xs, close)), (m, p, q), h))) following = elim p [ ]
    form_rule (suc d) l (suc c) e form (inr (inl ((opening, (xs, close)), (m, (t, good, passed, ex, ec), (m2, q, r)), h))) following =
        let was = was_mark k.LeftParen t opening good (is_kind k.LeftParen t good (and_halves _ _ passed).0) ex in record {
          words = plain k.LeftParen gap.Joined ∷ (listed (map argument_words xs) ++ plain k.RightParen gap.Space ∷ []);
          after_base = λ base g. ap (λ f. expr_words (f base) g) h ∙ words_call base opening.span xs g;
          no_colon = refl;
          made = make_right D (make_left D (make_gives D h (make_nest D (make_both D (make_counts D (make_plain D B is_call k.LeftParen gap.Joined _ d l c m opening was refl refl ec))
              (make_both D (arguments d l m m2 xs q _ refl) (make_tok D B k.RightParen gap.Space following d l m2 e close r refl refl))))));
        }
    form_rule zero l c e form (inr (inr (inl (x, p, h)))) following = elim p [ ]
    form_rule (suc d) l zero e form (inr (inr (inl ((opening, (x, close)), (m, p, q), h)))) following = elim p [ ]
    form_rule (suc d) l (suc c) e form (inr (inr (inl ((opening, (x, close)), (m, (t, good, passed, ex, ec), (m2, q, r)), h)))) following =
        let was = was_mark k.LeftBracket t opening good (is_kind k.LeftBracket t good (and_halves _ _ passed).0) ex in record {
          words = plain k.LeftBracket gap.Joined ∷ (expr_words x gap.Space ++ plain k.RightBracket gap.Space ∷ []);
          after_base = λ base g. ap (λ f. expr_words (f base) g) h ∙ words_index base opening.span x g;
          no_colon = refl;
          made = make_right D (make_right D (make_left D (make_gives D h (make_nest D (make_both D (make_counts D (make_plain D B is_index k.LeftBracket gap.Joined _ d l c m opening was refl refl ec))
              (make_both D (within d l m m2 x q gap.Space _).made (make_tok D B k.RightBracket gap.Space following d l m2 e close r refl refl)))))));
        }
    form_rule d l zero e form (inr (inr (inr (mark_face, p, h)))) following = elim p [ ]
    form_rule d l (suc c) e form (inr (inr (inr (bang, (t, good, passed, ex, ec), h)))) following =
        let was = was_mark k.Bang t bang good (touching_bang_kind t good (and_halves _ _ passed).0) ex in record {
          words = plain k.Bang gap.Joined ∷ [];
          after_base = λ base g. ap (λ f. expr_words (f base) g) h ∙ words_force base bang.span g;
          no_colon = refl;
          made = make_right D (make_right D (make_right D (make_gives D h (make_counts D (make_plain D B is_force k.Bang gap.Joined following d l c e bang was refl refl ec)))));
        }

  -- ---- a prim with forms after it

  pub record FormsSpelt (d l c e : ℕ) (forms : List (ExprTree → ExprTree)) (following : List Token) : Type 0 where
    pub words : List Word
    pub after_base : (base : ExprTree) (g : Gap) → expr_words (with_forms base forms) g ≡ expr_words base g ++ words
    pub no_colon : NoColon words
    pub made : Made D (many (nonterminal PostfixForm)) d l c e forms words following

  forms_again : FormAgain (nonterminal PostfixForm) → (d l c e : ℕ) (forms : List (ExprTree → ExprTree)) → BuiltOf B (many (nonterminal PostfixForm)) d l c e forms → (following : List Token) → FormsSpelt d l c e forms following
  forms_again one d l c e [] h following = record { words = []; after_base = λ base g. sym (append-nil (expr_words base g)); no_colon = tt; made = make_nil D h }
  forms_again one d l c e (form ∷ forms) (m, p, q) following =
      let rest = forms_again one d l m e forms q following in
      let first = one d l c m form p (map token_of rest.words ++ following) in record {
        words = first.words ++ rest.words;
        after_base = λ base g. rest.after_base (form base) g ∙ ap (λ v. v ++ rest.words) (first.after_base base g) ∙ append_assoc (expr_words base g) first.words rest.words;
        no_colon = no_colon_append first.words rest.words first.no_colon rest.no_colon;
        made = make_cons D first.made rest.made;
      }

  -- post = prim (. name | ( arg,* ) | [ expr ] | !)*
  pub post_rule : PartAgain D B (nonterminal Primary) → FormAgain (nonterminal PostfixForm) → PartAgain D B (production false Postfix)
  post_rule prim form d l c e y ((x, forms), (m, p, q), h) g following =
      let rest = forms_again form d l m e forms q following in
      let first = prim d l c m x p g (map token_of rest.words ++ following) in
      spelt D B (ap (λ y. expr_words y g) h ∙ rest.after_base x g) (headed_append (expr_words x g) rest.words first.headed rest.no_colon) (make_gives D h (make_both D first.made rest.made))
