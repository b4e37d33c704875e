-- What is written for parameters and for the signatures of funcs spells them again.
use Rattle.std.proofs.Common.{◌≡◌, ℕ, Bool, true, false, ◌||◌, inl, inr, List, [], ◌∷◌, ◌++◌, map, Some, None, refl, sym, ap, ◌∙◌, subst}
use Rattle.sw_lex.specs.Tables.{kind_of_word, same_kind, is_reserved_kind}
use Rattle.sw_lex.specs.declared.token.TokenKind.{TokenKind}
use Rattle.sw_lex.specs.declared.token.TokenKind.TheVariants as k
use Rattle.sw_lex.specs.declared.token.Token.{Token}
use Rattle.sw_grammar.specs.Grammar.{terminal, nonterminal, maybe, gives}
use Rattle.sw_layout.specs.declared.gap.Gap.{Gap}
use Rattle.sw_layout.specs.declared.gap.Gap.TheVariants as gap
use Rattle.sw_layout.specs.Words.{plain, token_of}
use Rattle.sw_tree.specs.declared.expr.Name.{Name}
use Rattle.sw_tree.specs.declared.decl.ParameterLabel.{ParameterLabel}
use Rattle.sw_tree.specs.declared.decl.ParameterLabel.TheVariants as label
use Rattle.sw_tree.specs.declared.decl.Modifier.{Modifier}
use Rattle.sw_tree.specs.declared.decl.Signature.{Signature}
use Rattle.sw_syntax.specs.Tokens.{Sighted}
use Rattle.sw_syntax.specs.Nonterminals.{Nonterminal, Sort, Param, TypeExpr}
use Rattle.sw_syntax.specs.Parts.{P, ◌·◌, ◌∣◌, tok, place, name, after, whole_type}
use Rattle.sw_syntax.specs.Forms.{own_or_other, label_in, other_label}
use Rattle.sw_syntax.specs.Values.{name_of}
use Rattle.sw_syntax.specs.Tests.{is, is_reserved, is_other_label}
use Rattle.sw_syntax.specs.Grammar.{production, params, signature}
use Rattle.sw_grammar.proofs.Starts.{or_either}
use Rattle.sw_print.specs.Expressions.{W, name_word, label_word, in_parens as parens_words, perhaps, if_there, type_words}
use Rattle.sw_print.specs.Declarations.{modified, parameter_label_words, at_place, parameter_words, signature_words}
use Rattle.sw_print.proofs.Spelling.Good.{IsOfKind, good_face, wordy_kind}
use Rattle.sw_print.proofs.Spelling.Kinds.{is_kind, name_kind, reserved_kind, reserved_class}
use Rattle.sw_print.proofs.Spelling.Making.{Made, make_both, make_gives, make_left, make_right, make_none, make_some, make_mark, reword}
use Rattle.sw_print.proofs.Spelling.Marks.{BuiltOf, was_mark, make_plain, make_tok, make_name}
use Rattle.sw_print.proofs.Spelling.Arguments.{wordy_reserved}
use Rattle.sw_print.proofs.Spelling.TypeWords.{TypeAgain}
use Rattle.sw_print.proofs.Spelling.DeclParts.{Any, Written, Stands, perhaps_made, present_made, place_made, after_made, listed_made, whole_type_made}

-- ---- labels

reserved_label : (kind : TokenKind) (other : Name) → is_reserved_kind kind ≡ true → label_in kind other ≡ label.Other other
unfolding same_kind is_reserved_kind
reserved_label k.Underscore other h = absurd (cc)
reserved_label kind other h = refl

or_right : (a b : Bool) → b ≡ true → (a || b) ≡ true
or_right true b h = refl
or_right false b h = h

-- the part of a parameter before its `:`
abbrev labelling : P (ParameterLabel × Name)
labelling = gives (λ x. own_or_other x.0 x.1) (name · maybe name) ∣ gives (λ x. other_label x.0 x.1) (terminal is_other_label · name)

abbrev label_words : ParameterLabel × Name → W
label_words x = parameter_label_words x.0 x.1

module _ (D : (s : Nonterminal) → ℕ → ℕ → ℕ → ℕ → List Sighted → Sort s → Type 0) (B : (s : Nonterminal) → ℕ → ℕ → ℕ → ℕ → Sort s → Type 0) where
  -- a name that stands as a label is written as the name
  name_label : (d l c e : ℕ) (x : Name) → BuiltOf B name d l c e x → (g : Gap) → label_word x g ≡ name_word x g
  name_label d l c e x (face, (t, good, is, ex, ec), h) g =
      let was = was_mark k.Name t face good (name_kind t good is) ex in
      let fits : IsOfKind k.Name x.text = subst (λ text. IsOfKind k.Name text) (ap (λ x. x.text) (sym h)) (subst (λ kind. IsOfKind kind face.text) was.0 was.1) in
      ap (λ kind. record { kind = kind; text = x.text; gap = g }) (wordy_kind k.Name x.text refl fits.0)

  labelling_made : Written D B Any labelling label_words
  unfolding same_kind
  labelling_made d l c e y (inl ((own, None), (m, p, q), h)) g following ok =
      make_left D (make_gives D h (reword D (ap (λ y. label_words y g) h) (make_both D (make_name D B g _ d l c m own p) (make_none D q))))
  labelling_made d l c e y (inl ((other, Some own), (m, p, q), h)) g following ok =
      make_left D (make_gives D h (reword D (ap (λ y. label_words y g) h ∙ ap (λ word. word ∷ name_word own gap.Space ∷ []) (name_label d l c m other p g))
      (make_both D (make_name D B g _ d l c m other p) (make_some D (make_name D B gap.Space following d l m e own q)))))
  labelling_made d l c e y (inr ((face, own), (m, (t, good, passed, ex, ec), q), h)) g following ok = elim (or_either (is k.Underscore t.sight) (is_reserved t.sight) passed) [
    | inl p ↦
        let was = was_mark k.Underscore t face good (is_kind k.Underscore t good p) ex in
        make_right D (make_gives D h (reword D (ap (λ y. label_words y g) h ∙ ap (λ kind. parameter_label_words (label_in kind (name_of face)) own g) was.0)
        (make_both D (make_plain D B is_other_label k.Underscore g _ d l c m face was refl refl ec) (make_name D B gap.Space following d l m e own q))))
    | inr p ↦
        let reserved : is_reserved_kind face.kind ≡ true = ap (λ x. is_reserved_kind x.kind) ex ∙ reserved_kind t good p in
        let its : IsOfKind face.kind face.text = subst (λ x. IsOfKind x.kind x.text) (sym ex) (good_face t good) in
        let kinds : kind_of_word face.text ≡ face.kind = wordy_kind face.kind face.text (wordy_reserved face.kind reserved) its.0 in
        make_right D (make_gives D h (reword D (ap (λ y. label_words y g) h ∙ ap (λ l. parameter_label_words l own g) (reserved_label face.kind (name_of face) reserved))
        (make_both D (make_mark D (label_word (name_of face) g) face (sym kinds) refl (subst (λ kind. IsOfKind kind face.text) (sym kinds) its)
        (or_right _ _ (reserved_class (kind_of_word face.text) (token_of (label_word (name_of face) g)) _ (ap is_reserved_kind kinds ∙ reserved))) ec)
        (make_name D B gap.Space following d l m e own q))))
  ]

  module _ (types : TypeAgain D B (nonterminal TypeExpr)) where
    -- : inout? type ...?
    typing_made : Stands D B Any (after (tok k.Colon) (maybe (place k.Inout) · whole_type · maybe (place k.Ellipsis)))
        (λ x. plain k.Colon gap.Space ∷ (at_place k.Inout x.0 ++ (type_words x.1.0 gap.Space ++ at_place k.Ellipsis x.1.1)))
    unfolding same_kind
    typing_made = after_made D B k.Colon (refl, λ x following. refl) (maybe (place k.Inout) · whole_type · maybe (place k.Ellipsis))
        (λ x. at_place k.Inout x.0 ++ (type_words x.1.0 gap.Space ++ at_place k.Ellipsis x.1.1)) Any
        (λ d l c e x p following ok. make_both D (place_made D B k.Inout (refl, λ x following. refl) d l c p.0 x.0 p.1 _ tt)
        (make_both D (whole_type_made D B types d l p.0 p.2.0 x.1.0 p.2.1 gap.Space _ tt) (place_made D B k.Ellipsis (refl, λ x following. refl) d l p.2.0 e x.1.1 p.2.2 following tt)))

    -- param = (name | _)? name : inout? type ...?
    pub parameter_again : Written D B Any (production false Param) parameter_words
    parameter_again d l c e y (x, (m, p, q), h) g following ok =
        make_gives D h (reword D (ap (λ y. parameter_words y g) h) (make_both D (labelling_made d l c m x.0 p g _ tt) (typing_made d l m e x.1 q following tt)))

  -- what is written for each parameter spells it
  abbrev pub ParameterAgain : Type 0
  ParameterAgain = Written D B Any (nonterminal Param) parameter_words

  -- ( param,* )
  pub params_made : ParameterAgain → Stands D B Any params (λ xs. parens_words (map parameter_words xs))
  params_made again = listed_made D B (nonterminal Param) parameter_words Any (λ rest. tt) (λ rest. tt) again

  -- What a part makes of modifiers is written as these, and words of its own after them.
  pub record Modified {A : Type 0} (a : P (List Modifier → A)) (w : A → W) (d l c e : ℕ) (y : List Modifier → A) (following : List Token) : Type 0 where
    pub own : W
    pub after_them : (ms : List Modifier) (g : Gap) → w (y ms) g ≡ modified ms own g
    pub made : (g : Gap) → Made D a d l c e y (own g) following

  -- func name ( param,* ) async? throws? (-> type)?
  pub signature_again : ParameterAgain → TypeAgain D B (nonterminal TypeExpr) → (d l c e : ℕ) (y : List Modifier → Signature) → BuiltOf B signature d l c e y → (following : List Token) → Modified signature signature_words d l c e y following
  unfolding same_kind
  signature_again again types d l c e y (x, ((func, z), (m, p, (m2, q, (m3, r, (m4, s, (m5, t, u))))), same), h) following = record {
    own = λ g. plain k.Func g ∷ name_word x.0 gap.Space ∷ (parens_words (map parameter_words x.1.0) ++ (if_there k.Async x.1.1.0 ++ (if_there k.Throws x.1.1.1.0 ++ perhaps (λ of. plain k.Arrow gap.Space ∷ type_words of gap.Space) x.1.1.1.1)));
    after_them = λ ms g. ap (λ y. signature_words (y ms) g) h;
    made = λ g. make_gives D h (make_gives D same (reword D
        (ap (λ x. plain k.Func g ∷ name_word x.0 gap.Space ∷ (parens_words (map parameter_words x.1.0) ++ (if_there k.Async x.1.1.0 ++ (if_there k.Throws x.1.1.1.0 ++ perhaps (λ of. plain k.Arrow gap.Space ∷ type_words of gap.Space) x.1.1.1.1)))) same)
        (make_both D (make_tok D B k.Func g _ d l c m func p refl refl)
        (make_both D (make_name D B gap.Space _ d l m m2 z.0 q)
        (make_both D (params_made again d l m2 m3 z.1.0 r _ tt)
        (make_both D (present_made D B k.Async (refl, λ x following. refl) d l m3 m4 z.1.1.0 s _ tt)
        (make_both D (present_made D B k.Throws (refl, λ x following. refl) d l m4 m5 z.1.1.1.0 t _ tt)
        (perhaps_made D B (after (tok k.Arrow) whole_type) (λ of. plain k.Arrow gap.Space ∷ type_words of gap.Space) Any
        (after_made D B k.Arrow (refl, λ x following. refl) whole_type (λ x. type_words x gap.Space) Any (λ d l c e x p following ok. whole_type_made D B types d l c e x p gap.Space following ok))
        d l m5 e z.1.1.1.1 u following tt))))))));
  }
