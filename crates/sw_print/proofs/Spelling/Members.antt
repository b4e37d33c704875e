-- What is written for the members of a type, and for what follows modifiers, spells it again.
use Rattle.std.proofs.Common.{◌≡◌, ℕ, inl, inr, List, ◌∷◌, ◌++◌, map, refl, ap, ◌∙◌}
use Rattle.sw_lex.specs.declared.token.TokenKind.TheVariants as k
use Rattle.sw_lex.specs.declared.token.Token.{Token}
use Rattle.sw_grammar.specs.Grammar.{nonterminal, gives}
use Rattle.sw_layout.specs.declared.gap.Gap.{Gap}
use Rattle.sw_layout.specs.declared.gap.Gap.TheVariants as gap
use Rattle.sw_layout.specs.Words.{plain, token_of}
use Rattle.sw_tree.specs.declared.decl.Modifier.{Modifier}
use Rattle.sw_tree.specs.declared.decl.Func.{Func}
use Rattle.sw_tree.specs.declared.decl.Member.TheVariants as m
use Rattle.sw_syntax.specs.Tokens.{same_kind, Sighted}
use Rattle.sw_syntax.specs.Nonterminals.{Members, Nonterminal, Sort, Block, TypeExpr, Expr}
use Rattle.sw_syntax.specs.Parts.{P, ◌·◌, ◌∣◌, whole_type}
use Rattle.sw_syntax.specs.Grammar.{mods, typealias, signature, initializer, modified_member, item_of}
use Rattle.sw_print.specs.Expressions.{W, in_parens as parens_words, if_there, type_words}
use Rattle.sw_print.specs.Statements.{block_words}
use Rattle.sw_print.specs.Declarations.{typealias_words, parameter_words, func_words, member_words}
use Rattle.sw_print.proofs.Spelling.Making.{make_both, make_gives, make_left, make_right, reword}
use Rattle.sw_print.proofs.Spelling.Marks.{BuiltOf, make_place, make_name}
use Rattle.sw_print.proofs.Spelling.Texts.{PartAgain}
use Rattle.sw_print.proofs.Spelling.TypeWords.{TypeAgain}
use Rattle.sw_print.proofs.Spelling.DeclParts.{Any, Written, present_made, after_made, whole_type_made}
use Rattle.sw_print.proofs.Spelling.Contextual.{gap_after, words_modified, modified_append, mods_made}
use Rattle.sw_print.proofs.Spelling.Parameters.{ParameterAgain, Modified, params_made, signature_again}
use Rattle.sw_print.proofs.Spelling.Properties.{BlockAgain, StatementsAgain, let_again, var_again}

module _ (D : (s : Nonterminal) → ℕ → ℕ → ℕ → ℕ → List Sighted → Sort s → Type 0) (B : (s : Nonterminal) → ℕ → ℕ → ℕ → ℕ → Sort s → Type 0) where
  -- what is written for each value that the part makes of modifiers spells it
  abbrev pub ModifiedAgain : {A : Type 0} → P (List Modifier → A) → (A → W) → Type 0
  ModifiedAgain {A} a w = (d l c e : ℕ) (y : List Modifier → A) → BuiltOf B a d l c e y → (following : List Token) → Modified D B a w d l c e y following

  pub modified_left : {A : Type 0} {a b : P (List Modifier → A)} {w : A → W} {d l c e : ℕ} {y : List Modifier → A} {following : List Token} → Modified D B a w d l c e y following → Modified D B (a ∣ b) w d l c e y following
  modified_left p = record { own = p.own; after_them = p.after_them; made = λ g. make_left D (p.made g) }

  pub modified_right : {A : Type 0} {a b : P (List Modifier → A)} {w : A → W} {d l c e : ℕ} {y : List Modifier → A} {following : List Token} → Modified D B b w d l c e y following → Modified D B (a ∣ b) w d l c e y following
  modified_right p = record { own = p.own; after_them = p.after_them; made = λ g. make_right D (p.made g) }

  -- modifiers, and what is made of them
  pub with_modifiers : {A : Type 0} (a : P (List Modifier → A)) (w : A → W) → ModifiedAgain a w → Written D B Any (gives (λ x. x.1 x.0) (mods · a)) w
  with_modifiers a w again d l c e y (x, (m, p, q), h) g following ok =
      let its = again d l m e x.1 q following in
      make_gives D h (reword D (ap (λ y. w y g) h ∙ its.after_them x.0 g ∙ words_modified x.0 its.own g)
      (make_both D (mods_made D B d l c m x.0 p g _ tt) (its.made (gap_after x.0 g))))

  -- typealias name = type
  pub typealias_made : TypeAgain D B (nonterminal TypeExpr) → Written D B Any typealias typealias_words
  unfolding same_kind
  typealias_made types d l c e y (x, (m, p, (m2, q, r)), h) g following ok =
      make_gives D h (reword D (ap (λ y. typealias_words y g) h)
      (make_both D (make_place D B k.Typealias g _ d l c m x.0 p refl (λ x. refl))
      (make_both D (make_name D B gap.Space _ d l m m2 x.1.0 q)
      (after_made D B k.Assign (refl, λ x following. refl) whole_type (λ x. type_words x gap.Space) Any (λ d l c e x p following ok. whole_type_made D B types d l c e x p gap.Space following ok)
      d l m2 e x.1.1 r following tt))))

  module _ (parameters : ParameterAgain D B) (types : TypeAgain D B (nonterminal TypeExpr)) (blocks : BlockAgain D B) where
    -- func .. block, after modifiers
    pub func_made : {A : Type 0} (f : Func → A) (w : A → W) → ((x : Func) (g : Gap) → w (f x) g ≡ func_words x g)
        → ModifiedAgain (gives (λ x modifiers. f (record { signature = x.0 modifiers; body = x.1 })) (signature · nonterminal Block)) w
    func_made f w same d l c e y (x, (m, p, q), h) following =
        let its = signature_again D B parameters types d l c m x.0 p (map token_of (block_words x.1) ++ following) in
        record {
          own = λ g. its.own g ++ block_words x.1;
          after_them = λ ms g. ap (λ y. w (y ms) g) h ∙ same (record { signature = x.0 ms; body = x.1 }) g ∙ ap (λ l. l ++ block_words x.1) (its.after_them ms g) ∙ modified_append ms its.own (block_words x.1) g;
          made = λ g. make_gives D h (make_both D (its.made g) (blocks d l m e x.1 q following));
        }

    -- init ( param,* ) throws? block, after modifiers
    pub initializer_made : ModifiedAgain initializer member_words
    unfolding same_kind
    initializer_made d l c e y (x, (m, p, (m2, q, (m3, r, s))), h) following = record {
      own = λ g. plain k.Init g ∷ (parens_words (map parameter_words x.1.0) ++ (if_there k.Throws x.1.1.0 ++ block_words x.1.1.1));
      after_them = λ ms g. ap (λ y. member_words (y ms) g) h;
      made = λ g. make_gives D h
          (make_both D (make_place D B k.Init g _ d l c m x.0 p refl (λ x. refl))
          (make_both D (params_made D B parameters d l m m2 x.1.0 q _ tt)
          (make_both D (present_made D B k.Throws (refl, λ x following. refl) d l m2 m3 x.1.1.0 r _ tt) (blocks d l m3 e x.1.1.1 s following))));
    }

    module _ (exprs : PartAgain D B (nonterminal Expr)) (statements : StatementsAgain D B) where
      member_made : ModifiedAgain modified_member member_words
      member_made d l c e y (inl p) following = modified_left (let_again D B types exprs d l c e y p following)
      member_made d l c e y (inr (inl p)) following = modified_right (modified_left (var_again D B types exprs blocks statements d l c e y p following))
      member_made d l c e y (inr (inr (inl p))) following = modified_right (modified_right (modified_left (func_made m.Func member_words (λ x g. refl) d l c e y p following)))
      member_made d l c e y (inr (inr (inr p))) following = modified_right (modified_right (modified_right (initializer_made d l c e y p following)))

      -- member = prop | func | initial | typealias name = type
      pub member_again : Written D B Any (item_of Members) member_words
      member_again d l c e y (inl (x, p, h)) g following ok = make_left D (make_gives D h (reword D (ap (λ y. member_words y g) h) (typealias_made types d l c e x p g following tt)))
      member_again d l c e y (inr p) g following ok = make_right D (with_modifiers modified_member member_words member_made d l c e y p g following tt)
