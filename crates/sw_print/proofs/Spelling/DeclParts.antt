-- Parts of which declarations are made: absent ones, marks before them, lists with commas, brackets, whole types and expressions.
use Rattle.std.proofs.Common.{◌≡◌, ℕ, zero, suc, true, false, List, [], ◌∷◌, ◌++◌, map, Some, None, refl, sym, ap, subst}
use Rattle.sw_lex.specs.declared.token.TokenKind.{TokenKind}
use Rattle.sw_lex.specs.declared.token.TokenKind.TheVariants as k
use Rattle.sw_lex.specs.declared.token.Token.{Token}
use Rattle.sw_grammar.specs.Grammar.{nonterminal, maybe, many, limited}
use Rattle.sw_layout.specs.declared.gap.Gap.{Gap}
use Rattle.sw_layout.specs.declared.gap.Gap.TheVariants as gap
use Rattle.sw_layout.specs.Words.{Word, plain, token_of}
use Rattle.sw_syntax.specs.Tokens.{same_kind, Sighted, Face, seen}
use Rattle.sw_syntax.specs.Nonterminals.{Nonterminal, Sort, TypeExpr, Expr}
use Rattle.sw_syntax.specs.Parts.{P, tok, place, name, present, after, some, any, in_parens, in_braces, whole_expr, whole_type}
use Rattle.sw_syntax.specs.Grammar.{annotation, initial}
use Rattle.sw_syntax.specs.Tests.{is}
use Rattle.sw_print.specs.Expressions.{W, name_word, others, listed, in_parens as parens_words, perhaps, if_there, type_words, expr_words}
use Rattle.sw_print.specs.Statements.{annotation_words, initial_words, in_braces as braces_words}
use Rattle.sw_print.specs.Declarations.{at_place}
use Rattle.sw_print.proofs.Spelling.Good.{is_free}
use Rattle.sw_print.proofs.Spelling.Making.{Made, placed, make_both, make_gives, make_none, make_some, make_nest, make_nil, make_cons, reword}
use Rattle.sw_print.proofs.Spelling.Marks.{BuiltOf, make_tok, make_place, make_name}
use Rattle.sw_print.proofs.Spelling.Texts.{PartAgain}
use Rattle.sw_print.proofs.Spelling.TypeWords.{TypeAgain}

-- the kind has one spelling, and what is seen of its word, after this gap, is of the kind
abbrev pub IsMark : TokenKind → Gap → Type 0
IsMark kind g = (is_free kind ≡ false) × ((x : Face) (following : List Token) → is kind (placed x (seen (token_of (plain kind g)) following)).sight ≡ true)

-- any tokens may follow
abbrev pub Any : List Token → Type 0
Any following = Unit {0}

module _ (D : (s : Nonterminal) → ℕ → ℕ → ℕ → ℕ → List Sighted → Sort s → Type 0) (B : (s : Nonterminal) → ℕ → ℕ → ℕ → ℕ → Sort s → Type 0) where
  -- what is written for each value of the part spells it, where what follows is so
  abbrev pub Written : (List Token → Type 0) → {A : Type 0} → P A → (A → W) → Type 0
  Written Ok {A} a w = (d l c e : ℕ) (x : A) → BuiltOf B a d l c e x → (g : Gap) (following : List Token) → Ok following → Made D a d l c e x (w x g) following

  -- the same for words that tell their gaps themselves
  abbrev pub Stands : (List Token → Type 0) → {A : Type 0} → P A → (A → List Word) → Type 0
  Stands Ok {A} a w = (d l c e : ℕ) (x : A) → BuiltOf B a d l c e x → (following : List Token) → Ok following → Made D a d l c e x (w x) following

  pub make_limited : {A : Type 0} {a : P A} {d l c e m : ℕ} {x : A} {w : List Word} {following : List Token} → e ≡ c → Made D a d l l m x w following → Made D (limited a) d l c e x w following
  make_limited {m = m} h p = record { good = p.good; run = p.run; alike = p.alike; derives = (m, p.derives, h) }

  -- ---- parts that may be absent, and marks before parts

  pub perhaps_made : {A : Type 0} (a : P A) (w : A → List Word) (Ok : List Token → Type 0) → Stands Ok a w → Stands Ok (maybe a) (perhaps w)
  perhaps_made a w Ok stands d l c e None h following ok = make_none D h
  perhaps_made a w Ok stands d l c e (Some x) p following ok = make_some D (stands d l c e x p following ok)

  pub present_made : (kind : TokenKind) → IsMark kind gap.Space → Stands Any (present (tok kind)) (if_there kind)
  present_made kind is_mark d l c e y (None, p, h) following ok = make_gives D h (reword D (ap (if_there kind) h) (make_none D p))
  present_made kind is_mark d l c e y (Some x, p, h) following ok =
      make_gives D h (reword D (ap (if_there kind) h) (make_some D (make_tok D B kind gap.Space following d l c e x p is_mark.0 (is_mark.1 x following))))

  pub place_made : (kind : TokenKind) → IsMark kind gap.Space → Stands Any (maybe (place kind)) (at_place kind)
  place_made kind is_mark = perhaps_made (place kind) (λ at. plain kind gap.Space ∷ []) Any
      (λ d l c e x p following ok. make_place D B kind gap.Space following d l c e x p is_mark.0 (λ x. is_mark.1 x following))

  pub after_made : {A : Type 0} (kind : TokenKind) → IsMark kind gap.Space → (a : P A) (w : A → List Word) (Ok : List Token → Type 0) → Stands Ok a w
      → Stands Ok (after (tok kind) a) (λ x. plain kind gap.Space ∷ w x)
  after_made kind is_mark a w Ok stands d l c e y ((x, z), (m, p, q), h) following ok =
      make_gives D h (reword D (ap (λ y. plain kind gap.Space ∷ w y) h)
      (make_both D (make_tok D B kind gap.Space _ d l c m x p is_mark.0 (is_mark.1 x _)) (stands d l m e z q following ok)))

  -- ---- lists with commas

  module _ {A : Type 0} (a : P A) (w : A → W) (Ok : List Token → Type 0) (commas : (rest : List Token) → Ok (token_of (plain k.Comma gap.Space) ∷ rest)) (written : Written Ok a w) where
    ok_others : (xs : List A) (following : List Token) → Ok following → Ok (map token_of (others (map w xs)) ++ following)
    ok_others [] following ok = ok
    ok_others (x ∷ xs) following ok = commas _

    others_made : Stands Ok (many (after (tok k.Comma) a)) (λ xs. others (map w xs))
    unfolding same_kind
    others_made d l c e [] h following ok = make_nil D h
    others_made d l c e (x ∷ xs) (m, ((comma, y), (m2, q, r), same), rest) following ok =
        make_cons D (make_gives D same (reword D (ap (λ x. plain k.Comma gap.Space ∷ w x gap.Space) same)
        (make_both D (make_tok D B k.Comma gap.Space _ d l c m2 comma q refl refl) (written d l m2 m y r gap.Space _ (ok_others xs following ok)))))
        (others_made d l m e xs rest following ok)

    pub some_made : Stands Ok (some a) (λ xs. listed (map w xs))
    some_made d l c e ys ((x, xs), (m, p, q), h) following ok =
        make_gives D h (reword D (ap (λ ys. listed (map w ys)) h) (make_both D (written d l c m x p gap.Space _ (ok_others xs following ok)) (others_made d l m e xs q following ok)))

    pub any_made : Stands Ok (any a) (λ xs. listed (map w xs))
    any_made d l c e ys (None, p, h) following ok = make_gives D h (reword D (ap (λ ys. listed (map w ys)) h) (make_none D p))
    any_made d l c e ys (Some xs, p, h) following ok = make_gives D h (reword D (ap (λ ys. listed (map w ys)) h) (make_some D (some_made d l c e xs p following ok)))

  -- ---- brackets

  abbrev pub IsBefore : Word → List Token → Type 0
  IsBefore word following = (rest : List Token) × (following ≡ token_of word ∷ rest)

  pub parens_made : {A : Type 0} (a : P A) (w : A → List Word) → Stands (IsBefore (plain k.RightParen gap.Space)) a w
      → Stands Any (in_parens a) (λ x. plain k.LeftParen gap.Space ∷ (w x ++ plain k.RightParen gap.Space ∷ []))
  unfolding same_kind
  parens_made a w stands zero l c e y (x, p, h) following ok = elim p [ ]
  parens_made a w stands (suc d) l c e y ((open_, (x, close)), (m, p, (m2, q, r)), h) following ok =
      make_gives D h (reword D (ap (λ y. plain k.LeftParen gap.Space ∷ (w y ++ plain k.RightParen gap.Space ∷ [])) h) (make_nest D
      (make_both D (make_tok D B k.LeftParen gap.Space _ d l c m open_ p refl refl)
      (make_both D (stands d l m m2 x q _ (following, refl)) (make_tok D B k.RightParen gap.Space following d l m2 e close r refl refl)))))

  pub braces_made : {A : Type 0} (a : P A) (w : A → List Word) → Stands (IsBefore (plain k.RightBrace gap.Line)) a w → Stands Any (in_braces a) (λ x. braces_words (w x))
  unfolding same_kind
  braces_made a w stands zero l c e y (x, p, h) following ok = elim p [ ]
  braces_made a w stands (suc d) l c e y ((open_, (x, close)), (m, p, (m2, q, r)), h) following ok =
      make_gives D h (reword D (ap (λ y. braces_words (w y)) h) (make_nest D
      (make_both D (make_tok D B k.LeftBrace gap.Space _ d l c m open_ p refl refl)
      (make_both D (stands d l m m2 x q _ (following, refl)) (make_tok D B k.RightBrace gap.Line following d l m2 e close r refl refl)))))

  -- ( x,* )
  pub listed_made : {A : Type 0} (a : P A) (w : A → W) (Ok : List Token → Type 0) → ((rest : List Token) → Ok (token_of (plain k.Comma gap.Space) ∷ rest)) → ((rest : List Token) → Ok (token_of (plain k.RightParen gap.Space) ∷ rest))
      → Written Ok a w → Stands Any (in_parens (any a)) (λ xs. parens_words (map w xs))
  listed_made a w Ok commas closes written =
      parens_made (any a) (λ xs. listed (map w xs)) (λ d l c e xs p following before. any_made a w Ok commas written d l c e xs p following (subst Ok (sym before.1) (closes before.0)))

  -- ---- names, types and expressions

  pub name_made : Written Any name (λ x g. name_word x g ∷ [])
  name_made d l c e x p g following ok = make_name D B g following d l c e x p

  pub whole_type_made : TypeAgain D B (nonterminal TypeExpr) → Written Any whole_type type_words
  whole_type_made types d l c e x (m, p, h) g following ok = make_limited h (types d l l m x p g following)

  pub whole_expr_made : PartAgain D B (nonterminal Expr) → Written Any whole_expr expr_words
  whole_expr_made exprs d l c e x (m, p, h) g following ok = make_limited h (exprs d l l m x p g following).made

  -- : type
  pub annotation_made : TypeAgain D B (nonterminal TypeExpr) → Stands Any annotation annotation_words
  unfolding same_kind
  annotation_made types = after_made k.Colon (refl, λ x following. refl) whole_type (λ x. type_words x gap.Space) Any (λ d l c e x p following ok. whole_type_made types d l c e x p gap.Space following ok)

  -- = expr
  pub initial_made : PartAgain D B (nonterminal Expr) → Stands Any initial initial_words
  unfolding same_kind
  initial_made exprs = after_made k.Assign (refl, λ x following. refl) whole_expr (λ x. expr_words x gap.Space) Any (λ d l c e x p following ok. whole_expr_made exprs d l c e x p gap.Space following ok)
