-- What is written for literals and for expressions that no mark goes on with.
use Rattle.std.proofs.Common.{◌≡◌, ℕ, zero, suc, true, false, inl, inr, List, [], ◌∷◌, ◌++◌, map, Option, Some, None, pos, refl, sym, ap, ◌∙◌, subst, append_assoc}
use Rattle.std.specs.Fmt.{signed_decimal}
use Rattle.sw_base.specs.declared.ids.Span.{Span}
use Rattle.sw_lex.specs.Bytes.{Text}
use Rattle.sw_lex.specs.Rules.{number}
use Rattle.sw_lex.specs.declared.token.TokenKind.{TokenKind}
use Rattle.sw_lex.specs.declared.token.TokenKind.TheVariants as k
use Rattle.sw_lex.specs.declared.token.Token.{Token}
use Rattle.sw_grammar.specs.Grammar.{nonterminal, many}
use Rattle.sw_layout.specs.declared.gap.Gap.{Gap}
use Rattle.sw_layout.specs.declared.gap.Gap.TheVariants as gap
use Rattle.sw_grammar.proofs.Starts.{or_either}
use Rattle.sw_layout.specs.Words.{Word, token_of}
use Rattle.sw_tree.specs.declared.expr.Literal.{Literal}
use Rattle.sw_tree.specs.declared.expr.Literal.TheVariants as lit
use Rattle.sw_tree.specs.declared.expr.Expr.{Expr as ExprTree}
use Rattle.sw_tree.specs.declared.expr.Expr.TheVariants as node
use Rattle.sw_syntax.specs.Tokens.{same_kind, Sighted, Face, seen}
use Rattle.sw_syntax.specs.Nonterminals.{Nonterminal, Sort, Expr, Primary, Elements}
use Rattle.sw_syntax.specs.Parts.{P, ◌·◌, tok}
use Rattle.sw_syntax.specs.Grammar.{production, literal_with}
use Rattle.sw_syntax.specs.Tests.{is, is_bool}
use Rattle.sw_syntax.specs.Values.{pieces_of, bool_of}
use Rattle.sw_print.specs.Expressions.{W, word, bool_word, pieces_words, string_words, listed, others, around, expr_words}
use Rattle.sw_print.proofs.Spelling.Good.{IsOfKind}
use Rattle.sw_print.proofs.Spelling.Kinds.{is_kind}
use Rattle.sw_print.proofs.Spelling.Numerals.{integer_back, integer_good}
use Rattle.sw_print.proofs.Spelling.Making.{Made, placed, make_both, make_gives, make_left, make_right, make_none, make_some, make_nest, make_nil, make_cons, make_mark, reword}
use Rattle.sw_print.proofs.Spelling.Marks.{BuiltOf, was_mark, make_plain, make_tok, make_place, make_name}
use Rattle.sw_print.proofs.Spelling.ExprLayers.{piece_words, words_integer, words_bool, words_string, words_nil, words_named, words_self, words_implicit, words_paren, words_elements}
use Rattle.sw_print.proofs.Spelling.Texts.{Headed, headed_first, headed_append, Spelt, spelt, PartAgain}

inner_same : (xs zs : List ExprTree) → ◌≡◌ {A = Option (List ExprTree)} (Some xs) (Some zs) → xs ≡ zs
inner_same xs zs h = cc

-- ---- strings

abbrev middle_words : List (Face × ExprTree) → List Word
middle_words [] = []
middle_words (piece ∷ pieces) = (word k.StringMiddle piece.0.text gap.Joined ∷ expr_words piece.1 gap.Joined) ++ middle_words pieces

-- the words of the pieces after the first text
abbrev PiecesAre : ExprTree → List (Face × ExprTree) → Face → Type 0
PiecesAre x middles last =
    (piece : W × Text) × (pieces : List (W × Text)) × (map piece_words (pieces_of x middles last) ≡ piece ∷ pieces)
    × (pieces_words piece pieces ≡ expr_words x gap.Joined ++ (middle_words middles ++ word k.StringLast last.text gap.Joined ∷ []))

pieces_are : (x : ExprTree) (middles : List (Face × ExprTree)) (last : Face) → PiecesAre x middles last
pieces_are x [] last = ((expr_words x, last.text), [], refl, refl)
pieces_are x (one ∷ middles) last =
    let (piece, pieces, p, q) = pieces_are one.1 middles last in (
      (expr_words x, one.0.text),
      piece ∷ pieces,
      ap (λ l. (expr_words x, one.0.text) ∷ l) p,
      ap (λ l. expr_words x gap.Joined ++ (word k.StringMiddle one.0.text gap.Joined ∷ l))
          (q ∙ sym (append_assoc (expr_words one.1 gap.Joined) (middle_words middles) (word k.StringLast last.text gap.Joined ∷ []))),
    )

words_pieces : (place : Span) (text : Text) (x : ExprTree) (middles : List (Face × ExprTree)) (last : Face) (g : Gap)
    → expr_words (node.Literal place (lit.String text (pieces_of x middles last))) g
    ≡ word k.StringStart text g ∷ (expr_words x gap.Joined ++ (middle_words middles ++ word k.StringLast last.text gap.Joined ∷ []))
words_pieces place text x middles last g =
    let (piece, pieces, p, q) = pieces_are x middles last in
    words_string place text (pieces_of x middles last) g ∙ ap (λ l. string_words text l g) p ∙ ap (λ l. word k.StringStart text g ∷ l) q

module _ (D : (s : Nonterminal) → ℕ → ℕ → ℕ → ℕ → List Sighted → Sort s → Type 0) (B : (s : Nonterminal) → ℕ → ℕ → ℕ → ℕ → Sort s → Type 0) where
  -- a token whose text is kept
  make_kept : (kind : TokenKind) (g : Gap) (following : List Token) (d l c e : ℕ) (x : Face) → BuiltOf B (tok kind) d l c e x
      → is kind (placed x (seen (token_of (word kind x.text g)) following)).sight ≡ true → Made D (tok kind) d l c e x (word kind x.text g ∷ []) following
  make_kept kind g following d l c e x (t, good, passed, ex, ec) passes =
      let was = was_mark kind t x good (is_kind kind t good passed) ex in
      make_mark D (word kind x.text g) x was.0 refl (subst (λ kind. IsOfKind kind x.text) was.0 was.1) passes ec

  module _ (inner : P ExprTree) (within : PartAgain D B inner) where
    middles_made : (d l c e : ℕ) (xs : List (Face × ExprTree)) → BuiltOf B (many (tok k.StringMiddle · inner)) d l c e xs → (following : List Token)
        → Made D (many (tok k.StringMiddle · inner)) d l c e xs (middle_words xs) following
    unfolding same_kind
    middles_made d l c e [] h following = make_nil D h
    middles_made d l c e ((t, x) ∷ xs) (m, (m2, p, q), r) following =
        make_cons D (make_both D (make_kept k.StringMiddle gap.Joined _ d l c m2 t p refl) (within d l m2 m x q gap.Joined _).made) (middles_made d l m e xs r following)

    -- literal = integer | true | false | string
    pub literal_again : (d l c e : ℕ) (y : Span × Literal) → BuiltOf B (literal_with inner) d l c e y → (g : Gap) (following : List Token)
        → Spelt D B (literal_with inner) d l c e y (expr_words (node.Literal y.0 y.1) g) following
    unfolding same_kind
    literal_again d l c e y (inl (x, (t, good, passed, ex, ec), h)) g following =
        let was = was_mark k.Integer t x good (is_kind k.Integer t good passed) ex in
        let fits = was.1.1 was.0 in
        let z : Face = record { kind = k.Integer; text = signed_decimal (pos (number 0 x.text)); span = x.span } in
        spelt D B (ap (λ y. expr_words (node.Literal y.0 y.1) g) h ∙ words_integer x.span (pos (number 0 x.text)) g) (refl, tt)
        (make_left D (make_gives D (h ∙ ap (λ n. (x.span, lit.Integer (pos n))) (sym (integer_back (number 0 x.text) fits)))
        (make_mark D (word k.Integer (signed_decimal (pos (number 0 x.text))) g) z refl refl (integer_good (number 0 x.text) fits) refl ec)))
    literal_again d l c e y (inr (inl (x, (t, good, passed, ex, ec), h))) g following = elim (or_either _ _ passed) [
      | inl p ↦
          let was = was_mark k.True t x good (is_kind k.True t good p) ex in
          spelt D B (ap (λ y. expr_words (node.Literal y.0 y.1) g) h ∙ words_bool x.span (bool_of x.kind) g ∙ ap (λ kind. bool_word (bool_of kind) g ∷ []) was.0) (refl, tt)
          (make_right D (make_left D (make_gives D h (make_plain D B is_bool k.True g following d l c e x was refl refl ec))))
      | inr p ↦
          let was = was_mark k.False t x good (is_kind k.False t good p) ex in
          spelt D B (ap (λ y. expr_words (node.Literal y.0 y.1) g) h ∙ words_bool x.span (bool_of x.kind) g ∙ ap (λ kind. bool_word (bool_of kind) g ∷ []) was.0) (refl, tt)
          (make_right D (make_left D (make_gives D h (make_plain D B is_bool k.False g following d l c e x was refl refl ec))))
    ]
    literal_again d l c e y (inr (inr (inl (x, p, h)))) g following =
        spelt D B (ap (λ y. expr_words (node.Literal y.0 y.1) g) h ∙ words_string x.span x.text [] g) (refl, tt)
        (make_right D (make_right D (make_left D (make_gives D h (make_kept k.StringWhole g following d l c e x p refl)))))
    literal_again zero l c e y (inr (inr (inr (x, p, h)))) g following = elim p [ ]
    literal_again (suc d) l c e y (inr (inr (inr ((start, (x, (middles, last))), (m, p, (m2, q, (m3, r, s))), h)))) g following =
        let first = within d l m m2 x q gap.Joined _ in
        spelt D B (ap (λ y. expr_words (node.Literal y.0 y.1) g) h ∙ words_pieces start.span start.text x middles last g) (refl, headed_first (expr_words x gap.Joined) _ first.headed)
        (make_right D (make_right D (make_right D (make_gives D h (make_nest D (make_both D (make_kept k.StringStart g _ d l c m start p refl)
        (make_both D first.made (make_both D (middles_made d l m2 m3 middles r _) (make_kept k.StringLast gap.Joined following d l m3 e last s refl)))))))))

  -- what is written for the elements of an array spells them, and there are some
  abbrev pub ElementsAgain : Type 0
  ElementsAgain = (d l c e : ℕ) (xs : List ExprTree) → B Elements d l c e xs → (following : List Token) → Spelt D B (nonterminal Elements) d l c e xs (listed (map expr_words xs)) following

  module _ (within : PartAgain D B (nonterminal Expr)) (elements : ElementsAgain) where
    -- prim = literal | nil | name | self | . name | ( expr ) | [ expr,* ]
    pub prim_rule : PartAgain D B (production false Primary)
    unfolding same_kind
    prim_rule d l c e y (inl (x, p, h)) g following =
        let made = literal_again (nonterminal Expr) within d l c e x p g following in
        spelt D B (ap (λ y. expr_words y g) h) made.headed (make_left D (make_gives D h made.made))
    prim_rule d l c e y (inr (inl (at, p, h))) g following =
        spelt D B (ap (λ y. expr_words y g) h ∙ words_nil at g) (refl, tt) (make_right D (make_left D (make_gives D h (make_place D B k.Nil g following d l c e at p refl (λ x. refl)))))
    prim_rule d l c e y (inr (inr (inl (name, p, h)))) g following =
        spelt D B (ap (λ y. expr_words y g) h ∙ words_named name g) (refl, tt) (make_right D (make_right D (make_left D (make_gives D h (make_name D B g following d l c e name p)))))
    prim_rule d l c e y (inr (inr (inr (inl (at, p, h))))) g following =
        spelt D B (ap (λ y. expr_words y g) h ∙ words_self at g) (refl, tt)
        (make_right D (make_right D (make_right D (make_left D (make_gives D h (make_place D B k.Self_ g following d l c e at p refl (λ x. refl)))))))
    prim_rule d l c e y (inr (inr (inr (inr (inl ((at, name), (m, p, q), h)))))) g following =
        spelt D B (ap (λ y. expr_words y g) h ∙ words_implicit at name g) (refl, refl)
        (make_right D (make_right D (make_right D (make_right D (make_left D (make_gives D h
        (make_both D (make_place D B k.Dot (around g) _ d l c m at p refl (λ x. refl)) (make_name D B gap.Joined following d l m e name q))))))))
    prim_rule zero l c e y (inr (inr (inr (inr (inr (inl (x, p, h))))))) g following = elim p [ ]
    prim_rule (suc d) l c e y (inr (inr (inr (inr (inr (inl ((at, (x, close)), (m, p, (m2, q, r)), h))))))) g following =
        let inside = within d l m m2 x q gap.Space _ in
        spelt D B (ap (λ y. expr_words y g) h ∙ words_paren at x g) (refl, headed_first (expr_words x gap.Space) _ inside.headed)
        (make_right D (make_right D (make_right D (make_right D (make_right D (make_left D (make_gives D h (make_nest D
        (make_both D (make_place D B k.LeftParen g _ d l c m at p refl (λ x. refl)) (make_both D inside.made (make_tok D B k.RightParen gap.Space following d l m2 e close r refl refl)))))))))))
    prim_rule zero l c e y (inr (inr (inr (inr (inr (inr (x, p, h))))))) g following = elim p [ ]
    prim_rule (suc d) l c e y (inr (inr (inr (inr (inr (inr ((at, (None, close)), (m, p, (m2, q, r)), h))))))) g following =
        spelt D B (ap (λ y. expr_words y g) h ∙ words_elements at [] g) (refl, refl)
        (make_right D (make_right D (make_right D (make_right D (make_right D (make_right D (make_gives D h (make_nest D
        (make_both D (make_place D B k.LeftBracket g _ d l c m at p refl (λ x. refl)) (make_both D (make_none D q) (make_tok D B k.RightBracket gap.Space following d l m2 e close r refl refl)))))))))))
    prim_rule (suc d) l c e y (inr (inr (inr (inr (inr (inr ((at, (Some xs, close)), (m, p, (m2, q, r)), h))))))) g following =
        let inside = elements d l m m2 xs q _ in
        spelt D B (ap (λ y. expr_words y g) h ∙ words_elements at xs g) (refl, headed_first (listed (map expr_words xs)) _ inside.headed)
        (make_right D (make_right D (make_right D (make_right D (make_right D (make_right D (make_gives D h (make_nest D
        (make_both D (make_place D B k.LeftBracket g _ d l c m at p refl (λ x. refl)) (make_both D (make_some D inside.made) (make_tok D B k.RightBracket gap.Space following d l m2 e close r refl refl)))))))))))

    -- expr,* with at least one: the comma after the last is not written
    pub elements_rule : (d l c e : ℕ) (ys : List ExprTree) → BuiltOf B (production false Elements) d l c e ys → (following : List Token) → Spelt D B (production false Elements) d l c e ys (listed (map expr_words ys)) following
    unfolding same_kind
    elements_rule d l c e ys ((x, None), (m, p, q), h) following =
        let first = within d l c m x p gap.Space _ in
        spelt D B (ap (λ ys. listed (map expr_words ys)) h) (headed_append (expr_words x gap.Space) [] first.headed tt) (make_gives D h (make_both D first.made (make_none D q)))
    elements_rule d l c e ys ((x, Some None), (m, p, ((comma, None), (m2, (t, good, passed, ex, ec), r), same)), h) following =
        let first = within d l c m x p gap.Space _ in
        spelt D B (ap (λ ys. listed (map expr_words ys)) h) (headed_append (expr_words x gap.Space) [] first.headed tt)
        (make_gives D h (make_both D first.made (make_none D (r ∙ ec))))
    elements_rule d l c e ys ((x, Some None), (m, p, ((comma, Some xs), q, same)), h) following = absurd (cc)
    elements_rule d l c e ys ((x, Some (Some xs)), (m, p, ((comma, None), q, same)), h) following = absurd (cc)
    elements_rule d l c e ys ((x, Some (Some [])), (m, p, ((comma, Some zs), (m2, q, r), same)), h) following =
        let rest = elements d l m2 e zs r following in
        elim (subst (λ zs. Headed (listed (map expr_words zs))) (inner_same _ _ (sym same)) rest.headed) [ ]
    elements_rule d l c e ys ((x, Some (Some (z ∷ zs))), (m, p, ((comma, Some xs), (m2, q, r), same)), h) following =
        let first = within d l c m x p gap.Space _ in
        let its : xs ≡ z ∷ zs = inner_same _ _ (sym same) in
        let rest = elements d l m2 e xs r following in
        spelt D B (ap (λ ys. listed (map expr_words ys)) h) (headed_append (expr_words x gap.Space) (others (map expr_words (z ∷ zs))) first.headed refl)
        (make_gives D h (make_both D first.made (make_some D (make_gives D same
        (make_both D (make_tok D B k.Comma gap.Space _ d l m m2 comma q refl refl) (make_some D (reword D (ap (λ xs. listed (map expr_words xs)) (sym its)) rest.made)))))))
