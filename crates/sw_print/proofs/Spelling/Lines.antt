-- Words that are made for lists, brackets, parts with a count of their own, and parts whose first token passes a test.
use Rattle.std.proofs.Common.{◌≡◌, ℕ, zero, suc, Bool, true, false, List, [], ◌∷◌, ◌++◌, map, Some, None, refl, ap, ◌∙◌}
use Rattle.sw_lex.specs.declared.token.TokenKind.TheVariants as k
use Rattle.sw_lex.specs.declared.token.Token.{Token}
use Rattle.sw_grammar.specs.Grammar.{FirstPasses, nonterminal, many, maybe, then_if, when, limited}
use Rattle.sw_layout.specs.declared.gap.Gap.{Gap}
use Rattle.sw_layout.specs.declared.gap.Gap.TheVariants as gap
use Rattle.sw_layout.specs.Words.{Word, plain, token_of}
use Rattle.sw_places.specs.Places.{unplaced}
use Rattle.sw_syntax.specs.declared.class.Sight.{Sight}
use Rattle.sw_syntax.specs.Tokens.{same_kind, Sighted}
use Rattle.sw_syntax.specs.Nonterminals.{Nonterminal, Sort, Expr, TypeExpr}
use Rattle.sw_syntax.specs.Parts.{P, tok, after as after_terminal, some, any, in_parens as parens_of, in_braces as braces_of, whole_expr, whole_type}
use Rattle.sw_syntax.specs.Grammar.{production}
use Rattle.sw_print.specs.Seen.{seen_in}
use Rattle.sw_print.specs.Expressions.{W, listed, others, perhaps, type_words}
use Rattle.sw_print.specs.Statements.{in_braces}
use Rattle.sw_print.proofs.Spelling.Making.{Made, make_both, make_gives, make_none, make_some, make_nest, make_nil, make_cons, reword}
use Rattle.sw_print.proofs.Spelling.Marks.{BuiltOf, make_tok}
use Rattle.sw_print.proofs.Spelling.Texts.{spelt, PartAgain}
use Rattle.sw_print.proofs.Spelling.TypeWords.{TypeAgain}

first_same : {A : Type 0} (a b : A) (u v : List A) → (a ∷ u) ≡ (b ∷ v) → a ≡ b
first_same a b u v h = cc

-- of runs that are alike but for places, the first token of one passes where that of the other does
pub heads_alike : (f : Sight → Bool) (u v : List Sighted) → map unplaced u ≡ map unplaced v → FirstPasses f v → FirstPasses f u
heads_alike f [] v alike h = tt
heads_alike f (t ∷ u) [] alike h = absurd (cc)
heads_alike f (t ∷ u) (s ∷ v) alike h = ap (λ (t : Sighted). f t.sight) (first_same (unplaced t) (unplaced s) _ _ alike) ∙ h

module _ (D : (s : Nonterminal) → ℕ → ℕ → ℕ → ℕ → List Sighted → Sort s → Type 0) where
  pub make_limited : {A : Type 0} {a : P A} {d l c m e : ℕ} {x : A} {w : List Word} {following : List Token} → Made D a d l l m x w following → e ≡ c → Made D (limited a) d l c e x w following
  make_limited {m = m} p h = record { good = p.good; run = p.run; alike = p.alike; derives = (m, p.derives, h) }

  pub make_when : {A : Type 0} {f : Sight → Bool} {a : P A} {d l c e : ℕ} {x : A} {w : List Word} {following : List Token}
      → FirstPasses f (seen_in w following) → Made D a d l c e x w following → Made D (when f a) d l c e x w following
  make_when {f = f} {w = w} {following = following} h p =
      record { good = p.good; run = p.run; alike = p.alike; derives = (heads_alike f p.run (seen_in w following) p.alike h, p.derives) }

  pub make_then_none : {A B : Type 0} {a : P A} {goes : A → Bool} {b : P B} {d l c e : ℕ} {x : A} {w : List Word} {following : List Token}
      → Made D a d l c e x w following → Made D (then_if a goes b) d l c e (x, None) w following
  make_then_none p = record { good = p.good; run = p.run; alike = p.alike; derives = p.derives }

  pub make_then_some : {A B : Type 0} {a : P A} {goes : A → Bool} {b : P B} {d l c m e : ℕ} {x : A} {y : B} {v w : List Word} {following : List Token}
      → goes x ≡ true → Made D a d l c m x v (map token_of w ++ following) → Made D b d l m e y w following → Made D (then_if a goes b) d l c e (x, Some y) (v ++ w) following
  make_then_some is p q =
      let made = make_both D p q in
      let (u, v, i, cut, first, second) = made.derives in
      record { good = made.good; run = made.run; alike = made.alike; derives = (u, v, i, cut, first, is, second) }

  -- a sentence of the nonterminal's production is one of the nonterminal
  abbrev pub Rises : Nonterminal → Type 0
  Rises s = (d l c e : ℕ) (x : Sort s) (words : List Word) (following : List Token) → Made D (production false s) d l c e x words following → Made D (nonterminal s) d l c e x words following

module _ (D : (s : Nonterminal) → ℕ → ℕ → ℕ → ℕ → List Sighted → Sort s → Type 0) (B : (s : Nonterminal) → ℕ → ℕ → ℕ → ℕ → Sort s → Type 0) where
  -- what is written for each value that the part builds spells it
  abbrev pub Again : {A : Type 0} → P A → (A → W) → Type 0
  Again {A} a w = (d l c e : ℕ) (x : A) → BuiltOf B a d l c e x → (g : Gap) (following : List Token) → Made D a d l c e x (w x g) following

  -- the same for what has no gap of its own
  abbrev pub Laid : {A : Type 0} → P A → (A → List Word) → Type 0
  Laid {A} a w = (d l c e : ℕ) (x : A) → BuiltOf B a d l c e x → (following : List Token) → Made D a d l c e x (w x) following

  -- ---- lists with commas

  module _ {A : Type 0} (a : P A) (w : A → W) (again : Again a w) where
    others_made : Laid (many (after_terminal (tok k.Comma) a)) (λ xs. others (map w xs))
    unfolding same_kind
    others_made d l c e [] h following = make_nil D h
    others_made d l c e (y ∷ xs) (m, ((comma, x), (m2, p, q), h), r) following =
        make_cons D (make_gives D h (reword D (ap (λ y. plain k.Comma gap.Space ∷ w y gap.Space) h)
        (make_both D (make_tok D B k.Comma gap.Space _ d l c m2 comma p refl refl) (again d l m2 m x q gap.Space _))))
        (others_made d l m e xs r following)

    pub some_made : Laid (some a) (λ xs. listed (map w xs))
    some_made d l c e ys ((x, xs), (m, p, q), h) following =
        make_gives D h (reword D (ap (λ ys. listed (map w ys)) h) (make_both D (again d l c m x p gap.Space _) (others_made d l m e xs q following)))

    pub any_made : Laid (any a) (λ xs. listed (map w xs))
    any_made d l c e ys (None, h, same) following = make_gives D same (reword D (ap (λ ys. listed (map w ys)) same) (make_none D h))
    any_made d l c e ys (Some zs, p, same) following = make_gives D same (reword D (ap (λ ys. listed (map w ys)) same) (make_some D (some_made d l c e zs p following)))

  -- ---- brackets

  module _ {A : Type 0} (a : P A) (w : A → List Word) (again : Laid a w) where
    pub parens_made : Laid (parens_of a) (λ x. plain k.LeftParen gap.Space ∷ (w x ++ plain k.RightParen gap.Space ∷ []))
    unfolding same_kind
    parens_made zero l c e y (x, p, h) following = elim p [ ]
    parens_made (suc d) l c e y ((open', (x, close)), (m, p, (m2, q, r)), h) following =
        make_gives D h (reword D (ap (λ x. plain k.LeftParen gap.Space ∷ (w x ++ plain k.RightParen gap.Space ∷ [])) h) (make_nest D
        (make_both D (make_tok D B k.LeftParen gap.Space _ d l c m open' p refl refl)
        (make_both D (again d l m m2 x q _) (make_tok D B k.RightParen gap.Space following d l m2 e close r refl refl)))))

    pub braces_made : Laid (braces_of a) (λ x. in_braces (w x))
    unfolding same_kind
    braces_made zero l c e y (x, p, h) following = elim p [ ]
    braces_made (suc d) l c e y ((open', (x, close)), (m, p, (m2, q, r)), h) following =
        make_gives D h (reword D (ap (λ x. in_braces (w x)) h) (make_nest D
        (make_both D (make_tok D B k.LeftBrace gap.Space _ d l c m open' p refl refl)
        (make_both D (again d l m m2 x q _) (make_tok D B k.RightBrace gap.Line following d l m2 e close r refl refl)))))

  -- a part that may be absent
  pub maybe_made : {A : Type 0} (a : P A) (w : A → List Word) → Laid a w → Laid (maybe a) (perhaps w)
  maybe_made a w again d l c e None h following = make_none D h
  maybe_made a w again d l c e (Some x) p following = make_some D (again d l c e x p following)

  -- ---- what stands in no other expression or type

  pub whole_expr_again : PartAgain D B (nonterminal Expr) → PartAgain D B whole_expr
  whole_expr_again within d l c e x (m, p, h) g following =
      let made = within d l l m x p g following in spelt D B refl made.headed (make_limited D made.made h)

  pub whole_type_again : TypeAgain D B (nonterminal TypeExpr) → Again whole_type type_words
  whole_type_again within d l c e x (m, p, h) g following = make_limited D (within d l l m x p g following) h
