-- What is written for properties and their getters spells them again.
use Rattle.std.proofs.Common.{◌≡◌, ℕ, false, inl, inr, List, [], ◌∷◌, ◌++◌, map, Option, Some, None, codes, refl, sym, ap, ◌∙◌, subst}
use Rattle.sw_lex.specs.declared.token.TokenKind.TheVariants as k
use Rattle.sw_lex.specs.declared.token.Token.{Token}
use Rattle.sw_grammar.specs.Grammar.{terminal, nonterminal, maybe, when, gives}
use Rattle.sw_layout.specs.declared.gap.Gap.{Gap}
use Rattle.sw_layout.specs.declared.gap.Gap.TheVariants as gap
use Rattle.sw_layout.specs.Words.{Word, plain, token_of}
use Rattle.sw_tree.specs.declared.expr.Name.{Name}
use Rattle.sw_tree.specs.declared.stmt.Stmt.{Stmt}
use Rattle.sw_tree.specs.declared.decl.Modifier.{Modifier}
use Rattle.sw_tree.specs.declared.decl.Member.{Member}
use Rattle.sw_tree.specs.declared.decl.Accessor.{Accessor}
use Rattle.sw_tree.specs.declared.decl.Accessor.TheVariants as accessor
use Rattle.sw_syntax.specs.Tokens.{same_kind, is_next, Sighted}
use Rattle.sw_syntax.specs.Nonterminals.{InBlock, Nonterminal, Sort, Block, SomeStatements, TypeExpr, Expr, Body}
use Rattle.sw_syntax.specs.Parts.{P, ◌·◌, ◌∣◌, name, after}
use Rattle.sw_syntax.specs.Forms.{Named, stored_var, initial_var, computed_var, typed_var, or_untyped, or_no_statement}
use Rattle.sw_syntax.specs.Tests.{is_getter, is_no_getter}
use Rattle.sw_syntax.specs.Grammar.{annotation, initial, getter, let_property, var_property}
use Rattle.sw_print.specs.Expressions.{name_word, perhaps}
use Rattle.sw_print.specs.Statements.{annotation_words, initial_words, in_braces as braces_words, lines, stmt_words, block_words}
use Rattle.sw_print.specs.Declarations.{contextual, modified, accessor_words, member_words}
use Rattle.sw_print.proofs.Spelling.Making.{Made, make_both, make_gives, make_left, make_right, make_none, make_some, reword}
use Rattle.sw_print.proofs.Spelling.Marks.{BuiltOf, make_tok, make_name}
use Rattle.sw_print.proofs.Spelling.Texts.{PartAgain}
use Rattle.sw_print.proofs.Spelling.TypeWords.{TypeAgain}
use Rattle.sw_print.proofs.Spelling.Lines.{make_when}
use Rattle.sw_print.proofs.Spelling.DeclParts.{Any, Stands, IsBefore, perhaps_made, braces_made, annotation_made, initial_made}
use Rattle.sw_print.proofs.Spelling.Contextual.{make_getter}
use Rattle.sw_print.proofs.Spelling.Getters.{no_getter}
use Rattle.sw_print.proofs.Spelling.Parameters.{Modified}

-- ---- getters

-- what stands between the braces of a getter
abbrev within : P (Option Accessor)
within = maybe (
    gives accessor.Get (after (terminal is_getter) (nonterminal Block))
    ∣ gives (λ body. accessor.Body body.0) (when is_no_getter (nonterminal (SomeStatements InBlock))))

abbrev getter_words : Accessor → List Word
getter_words (accessor.Body body) = lines (map stmt_words body)
getter_words (accessor.Get body) = contextual (codes "get") gap.Space ∷ block_words body

words_getter : (x : Option Accessor) → accessor_words (or_no_statement x) ≡ braces_words (perhaps getter_words x)
words_getter None = refl
words_getter (Some (accessor.Body body)) = refl
words_getter (Some (accessor.Get body)) = refl

module _ (D : (s : Nonterminal) → ℕ → ℕ → ℕ → ℕ → List Sighted → Sort s → Type 0) (B : (s : Nonterminal) → ℕ → ℕ → ℕ → ℕ → Sort s → Type 0) where
  -- what is written for each block spells it
  abbrev pub BlockAgain : Type 0
  BlockAgain = (d l c e : ℕ) (body : List Stmt) → B Block d l c e body → (following : List Token) → Made D (nonterminal Block) d l c e body (block_words body) following

  -- what is written for statements spells them, where a closing brace on a line of its own follows
  abbrev pub StatementsAgain : Type 0
  StatementsAgain = (d l c e : ℕ) (body : Body) → B (SomeStatements InBlock) d l c e body → (rest : List Token)
      → Made D (nonterminal (SomeStatements InBlock)) d l c e body (lines (map stmt_words body.0)) (token_of (plain k.RightBrace gap.Line) ∷ rest)

  module _ (blocks : BlockAgain) (statements : StatementsAgain) where
    within_made : Stands D B (IsBefore D B (plain k.RightBrace gap.Line)) within (perhaps getter_words)
    unfolding same_kind
    within_made d l c e None h following before = make_none D h
    within_made d l c e (Some y) (inl (body, ((face, its), (m, p, q), same), h)) following before =
        make_some D (make_left D (make_gives D h (make_gives D same (reword D (ap getter_words h ∙ ap (λ body. contextual (codes "get") gap.Space ∷ block_words body) same)
        (make_both D (make_getter D B gap.Space _ d l c m face p refl) (blocks d l m e its q following))))))
    within_made d l c e (Some y) (inr (body, p, h)) following before =
        let next : is_next k.LeftBrace following ≡ false = ap (is_next k.LeftBrace) before.1 in
        make_some D (make_right D (make_gives D h (reword D (ap getter_words h) (make_when D (no_getter body.0 following next)
        (subst (λ following. Made D (nonterminal (SomeStatements InBlock)) d l c e body (lines (map stmt_words body.0)) following) (sym before.1) (statements d l c e body p before.0))))))

    -- { (sbody | get block) }
    pub getter_made : Stands D B Any getter accessor_words
    getter_made d l c e y (x, p, h) following ok =
        make_gives D h (reword D (ap accessor_words h ∙ words_getter x) (braces_made D B within (perhaps getter_words) within_made d l c e x p following tt))

  -- ---- properties

  -- what follows the name of a `var`, and its words
  record VarMade (a : P (Named Member)) (d l c e : ℕ) (y : Named Member) (following : List Token) : Type 0 where
    words : List Word
    whole : (ms : List Modifier) (name : Name) (g : Gap) → member_words (y ms name) g ≡ modified ms (λ g. plain k.Var g ∷ name_word name gap.Space ∷ words) g
    made : Made D a d l c e y words following

  module _ (types : TypeAgain D B (nonterminal TypeExpr)) (exprs : PartAgain D B (nonterminal Expr)) where
    -- let name (: type)? (= expr)?
    pub let_again : (d l c e : ℕ) (y : List Modifier → Member) → BuiltOf B let_property d l c e y → (following : List Token) → Modified D B let_property member_words d l c e y following
    unfolding same_kind
    let_again d l c e y (x, ((face, z), (m, p, (m2, q, (m3, r, s))), same), h) following = record {
      own = λ g. plain k.Let g ∷ name_word x.0 gap.Space ∷ (perhaps annotation_words x.1.0 ++ perhaps initial_words x.1.1);
      after_them = λ ms g. ap (λ y. member_words (y ms) g) h;
      made = λ g. make_gives D h (make_gives D same (reword D (ap (λ x. plain k.Let g ∷ name_word x.0 gap.Space ∷ (perhaps annotation_words x.1.0 ++ perhaps initial_words x.1.1)) same)
          (make_both D (make_tok D B k.Let g _ d l c m face p refl refl)
          (make_both D (make_name D B gap.Space _ d l m m2 z.0 q)
          (make_both D (perhaps_made D B annotation annotation_words Any (annotation_made D B types) d l m2 m3 z.1.0 r _ tt)
          (perhaps_made D B initial initial_words Any (initial_made D B exprs) d l m3 e z.1.1 s following tt))))));
    }

    abbrev typed : P (Named Member)
    typed = gives (λ x. typed_var x.0 x.1) (annotation · maybe (gives initial_var initial ∣ gives computed_var getter))

    abbrev untyped : P (Named Member)
    untyped = gives (λ x. stored_var None (Some x)) initial

    module _ (blocks : BlockAgain) (statements : StatementsAgain) where
      typed_made : (d l c e : ℕ) (y : Named Member) → BuiltOf B typed d l c e y → (following : List Token) → VarMade typed d l c e y following
      typed_made d l c e y ((declared, None), (m, p, q), h) following = record {
        words = annotation_words declared ++ [];
        whole = λ ms name g. ap (λ y. member_words (y ms name) g) h;
        made = make_gives D h (make_both D (annotation_made D B types d l c m declared p following tt) (make_none D q));
      }
      typed_made d l c e y ((declared, Some f), (m, p, inl (x, q, same)), h) following = record {
        words = annotation_words declared ++ initial_words x;
        whole = λ ms name g. ap (λ y. member_words (y ms name) g) h ∙ ap (λ f. member_words (f declared ms name) g) same;
        made = make_gives D h (make_both D (annotation_made D B types d l c m declared p _ tt) (make_some D (make_left D (make_gives D same (initial_made D B exprs d l m e x q following tt)))));
      }
      typed_made d l c e y ((declared, Some f), (m, p, inr (x, q, same)), h) following = record {
        words = annotation_words declared ++ accessor_words x;
        whole = λ ms name g. ap (λ y. member_words (y ms name) g) h ∙ ap (λ f. member_words (f declared ms name) g) same;
        made = make_gives D h (make_both D (annotation_made D B types d l c m declared p _ tt) (make_some D (make_right D (make_gives D same (getter_made blocks statements d l m e x q following tt)))));
      }

      rest_made : (d l c e : ℕ) (y : Named Member) → BuiltOf B (typed ∣ untyped) d l c e y → (following : List Token) → VarMade (typed ∣ untyped) d l c e y following
      rest_made d l c e y (inl p) following = let its = typed_made d l c e y p following in record { words = its.words; whole = its.whole; made = make_left D its.made }
      rest_made d l c e y (inr (x, p, h)) following = record {
        words = initial_words x;
        whole = λ ms name g. ap (λ y. member_words (y ms name) g) h;
        made = make_right D (make_gives D h (initial_made D B exprs d l c e x p following tt));
      }

      -- var name (: type)? (= expr)? | var name : type { (sbody | get block) }
      pub var_again : (d l c e : ℕ) (y : List Modifier → Member) → BuiltOf B var_property d l c e y → (following : List Token) → Modified D B var_property member_words d l c e y following
      unfolding same_kind
      var_again d l c e y (x, ((face, (name, None)), (m, p, (m2, q, r)), same), h) following = record {
        own = λ g. plain k.Var g ∷ name_word name gap.Space ∷ [];
        after_them = λ ms g. ap (λ y. member_words (y ms) g) h ∙ ap (λ x. member_words (or_untyped x.1 ms x.0) g) same;
        made = λ g. make_gives D h (make_gives D same (make_both D (make_tok D B k.Var g _ d l c m face p refl refl) (make_both D (make_name D B gap.Space _ d l m m2 name q) (make_none D r))));
      }
      var_again d l c e y (x, ((face, (name, Some z)), (m, p, (m2, q, r)), same), h) following =
          let rest = rest_made d l m2 e z r following in
          record {
            own = λ g. plain k.Var g ∷ name_word name gap.Space ∷ rest.words;
            after_them = λ ms g. ap (λ y. member_words (y ms) g) h ∙ ap (λ x. member_words (or_untyped x.1 ms x.0) g) same ∙ rest.whole ms name g;
            made = λ g. make_gives D h (make_gives D same (make_both D (make_tok D B k.Var g _ d l c m face p refl refl) (make_both D (make_name D B gap.Space _ d l m m2 name q) (make_some D rest.made))));
          }
