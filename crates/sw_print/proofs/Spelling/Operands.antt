-- What is written for signs and operators, with their operands.
use Rattle.std.proofs.Common.{◌≡◌, ℕ, zero, suc, Bool, true, false, ◌||◌, inl, inr, if◌then◌else◌, List, [], ◌∷◌, ◌++◌, map, Option, Some, None, refl, sym, ap, ◌∙◌, append_assoc, append-nil}
use Rattle.sw_base.specs.declared.ids.Span.{Span}
use Rattle.sw_lex.specs.declared.token.TokenKind.TheVariants as k
use Rattle.sw_lex.specs.declared.token.Token.{Token}
use Rattle.sw_grammar.specs.Grammar.{nonterminal, many, maybe, gives}
use Rattle.sw_layout.specs.declared.gap.Gap.{Gap}
use Rattle.sw_layout.specs.declared.gap.Gap.TheVariants as gap
use Rattle.sw_grammar.proofs.Starts.{or_either}
use Rattle.sw_layout.specs.Words.{Word, plain, token_of, is_joined}
use Rattle.sw_tree.specs.declared.expr.TryForm.TheVariants as try_form
use Rattle.sw_tree.specs.declared.expr.Expr.{Expr as ExprTree}
use Rattle.sw_tree.specs.declared.expr.Expr.TheVariants as node
use Rattle.sw_syntax.specs.Tokens.{same_kind, touches_next, Sighted, Face, seen}
use Rattle.sw_syntax.specs.declared.class.Class.TheVariants as class
use Rattle.sw_syntax.specs.Nonterminals.{Nonterminal, Sort, Expr, Ternary, Binary, Prefix, Postfix}
use Rattle.sw_syntax.specs.Parts.{P, ◌·◌, place}
use Rattle.sw_syntax.specs.Grammar.{production, operand, right, leftward}
use Rattle.sw_syntax.specs.Tests.{is_sign, is_ternary, is_joined_question, is_minus_class, is_bang_class}
use Rattle.sw_syntax.specs.Values.{prefix_of, binary_of, to_left, to_right, ternary_of, awaited}
use Rattle.sw_print.specs.Expressions.{mark_of, signed, expr_words}
use Rattle.sw_print.proofs.Spelling.Kinds.{minus_kind, bang_kind, spaced_question_kind, touching_question_kind}
use Rattle.sw_print.proofs.Spelling.Making.{Made, placed, make_both, make_gives, make_left, make_right, make_none, make_some, make_counts, make_nil, make_cons}
use Rattle.sw_print.proofs.Spelling.Marks.{BuiltOf, was_mark, make_plain, make_tok, make_place}
use Rattle.sw_print.proofs.Spelling.ExprLayers.{words_try, words_await, words_ternary, words_binary, words_prefix}
use Rattle.sw_print.proofs.Spelling.Texts.{NoColon, headed_start, headed_append, Spelt, spelt, PartAgain}
use Rattle.sw_print.proofs.Spelling.Operators.{make_operator}

-- ---- signs

minus_passes : (x : Face) (g : Gap) (following : List Token) → is_sign (placed x (seen (token_of (plain k.Minus g)) following)).sight ≡ true
unfolding same_kind
minus_passes x g following = go (touches_next following)
  where
    go : (b : Bool) → (is_minus_class (if b then class.Is k.Minus else class.LooseMinus) || is_bang_class (if b then class.Is k.Minus else class.LooseMinus)) ≡ true
    go true = refl
    go false = refl

bang_passes : (x : Face) (g : Gap) (following : List Token) → is_sign (placed x (seen (token_of (plain k.Bang g)) following)).sight ≡ true
unfolding same_kind
bang_passes x g following = go (is_joined g)
  where
    go : (b : Bool) → (is_minus_class (if b then class.TouchingBang else class.Is k.Bang) || is_bang_class (if b then class.TouchingBang else class.Is k.Bang)) ≡ true
    go true = refl
    go false = refl

-- ---- chains of operators

abbrev pair_words : Face × ExprTree → List Word
pair_words (t, x) = plain (mark_of (binary_of t.kind)) gap.Space ∷ expr_words x gap.Space

abbrev pairs_words : List (Face × ExprTree) → List Word
pairs_words [] = []
pairs_words (pair ∷ pairs) = pair_words pair ++ pairs_words pairs

words_lefts : (x : ExprTree) (pairs : List (Face × ExprTree)) (g : Gap) → expr_words (to_left x pairs) g ≡ expr_words x g ++ pairs_words pairs
words_lefts x [] g = sym (append-nil (expr_words x g))
words_lefts x (pair ∷ pairs) g =
    words_lefts (node.Binary (binary_of pair.0.kind) pair.0.span (x, pair.1)) pairs g ∙ ap (λ v. v ++ pairs_words pairs) (words_binary (binary_of pair.0.kind) pair.0.span x pair.1 g)
    ∙ append_assoc (expr_words x g) (pair_words pair) (pairs_words pairs)

module _ (D : (s : Nonterminal) → ℕ → ℕ → ℕ → ℕ → List Sighted → Sort s → Type 0) (B : (s : Nonterminal) → ℕ → ℕ → ℕ → ℕ → Sort s → Type 0) where
  -- prefix = (- | !)* post
  pub prefix_rule : PartAgain D B (nonterminal Prefix) → PartAgain D B (nonterminal Postfix) → PartAgain D B (production false Prefix)
  unfolding same_kind
  prefix_rule again post d l zero e y (inl ((sign, x), (m, p, q), h)) g following = elim p [ ]
  prefix_rule again post d l (suc c) e y (inl ((sign, x), (m, (t, good, passed, ex, ec), q), h)) g following = elim (or_either _ _ passed) [
    | inl p ↦
        let was = was_mark k.Minus t sign good (minus_kind t good p) ex in
        let inside = again d l m e x q gap.Joined following in
        spelt D B (ap (λ y. expr_words y g) h ∙ words_prefix (prefix_of sign.kind) sign.span x g ∙ ap (λ kind. signed (prefix_of kind) (expr_words x) g) was.0)
        (refl, headed_start (expr_words x gap.Joined) inside.headed)
        (make_left D (make_gives D h (make_both D (make_counts D (make_plain D B is_sign k.Minus g (map token_of (expr_words x gap.Joined) ++ following) d l c m sign was refl (minus_passes sign g (map token_of (expr_words x gap.Joined) ++ following)) ec)) inside.made)))
    | inr p ↦
        let was = was_mark k.Bang t sign good (bang_kind t good p) ex in
        let inside = again d l m e x q gap.Space following in
        spelt D B (ap (λ y. expr_words y g) h ∙ words_prefix (prefix_of sign.kind) sign.span x g ∙ ap (λ kind. signed (prefix_of kind) (expr_words x) g) was.0)
        (refl, headed_start (expr_words x gap.Space) inside.headed)
        (make_left D (make_gives D h (make_both D (make_counts D (make_plain D B is_sign k.Bang g (map token_of (expr_words x gap.Space) ++ following) d l c m sign was refl (bang_passes sign g (map token_of (expr_words x gap.Space) ++ following)) ec)) inside.made)))
  ]
  prefix_rule again post d l c e y (inr p) g following = let made = post d l c e y p g following in spelt D B refl made.headed (make_right D made.made)

  -- ---- operators

  -- an operand after its mark
  record PairSpelt (n m : ℕ) (d l c e : ℕ) (x : Face × ExprTree) (following : List Token) : Type 0 where
    no_colon : NoColon (pair_words x)
    made : Made D (operand n (right false m)) d l c e x (pair_words x) following

  pair_again : (n m : ℕ) → PartAgain D B (nonterminal (Binary m)) → (d l c e : ℕ) (x : Face × ExprTree) → BuiltOf B (operand n (right false m)) d l c e x → (following : List Token) → PairSpelt n m d l c e x following
  pair_again n m again d l zero e (t, x) (i, p, q) following = elim p [ ]
  pair_again n m again d l (suc c) e (t, x) (i, p, q) following =
      let inside = again d l i e x q gap.Space following in
      let first = make_operator D B n (map token_of (expr_words x gap.Space) ++ following) d l c i t p in
      record { no_colon = first.0; made = make_both D (make_counts D first.1) inside.made }

  record PairsSpelt (n m : ℕ) (d l c e : ℕ) (xs : List (Face × ExprTree)) (following : List Token) : Type 0 where
    no_colon : NoColon (pairs_words xs)
    made : Made D (many (operand n (right false m))) d l c e xs (pairs_words xs) following

  pairs_again : (n m : ℕ) → PartAgain D B (nonterminal (Binary m)) → (d l c e : ℕ) (xs : List (Face × ExprTree)) → BuiltOf B (many (operand n (right false m))) d l c e xs → (following : List Token)
      → PairsSpelt n m d l c e xs following
  pairs_again n m again d l c e [] h following = record { no_colon = tt; made = make_nil D h }
  pairs_again n m again d l c e (x ∷ xs) (i, p, q) following =
      let rest = pairs_again n m again d l i e xs q following in
      let first = pair_again n m again d l c i x p (map token_of (pairs_words xs) ++ following) in
      record { no_colon = first.no_colon; made = make_cons D first.made rest.made }

  left_again : (n : ℕ) → PartAgain D B (nonterminal (Binary (suc n))) → PartAgain D B (leftward false n)
  left_again n again d l c e y ((x, pairs), (m, p, q), h) g following =
      let rest = pairs_again n (suc n) again d l m e pairs q following in
      let first = again d l c m x p g (map token_of (pairs_words pairs) ++ following) in
      spelt D B (ap (λ y. expr_words y g) h ∙ words_lefts x pairs g) (headed_append (expr_words x g) (pairs_words pairs) first.headed rest.no_colon) (make_gives D h (make_both D first.made rest.made))

  abbrev once : ℕ → ℕ → ℕ → P ExprTree
  once a n m = gives (λ x. to_right x.0 x.1) (nonterminal (Binary a) · maybe (operand n (right false m)))

  once_again : (a n m : ℕ) → PartAgain D B (nonterminal (Binary a)) → PartAgain D B (nonterminal (Binary m)) → PartAgain D B (once a n m)
  once_again a n m left right d l c e y ((x, None), (i, p, q), h) g following =
      let first = left d l c i x p g following in
      spelt D B (ap (λ y. expr_words y g) h ∙ sym (append-nil (expr_words x g))) (headed_append (expr_words x g) [] first.headed tt) (make_gives D h (make_both D first.made (make_none D q)))
  once_again a n m left right d l c e y ((x, Some z), (i, p, q), h) g following =
      let rest = pair_again n m right d l i e z q following in
      let first = left d l c i x p g (map token_of (pair_words z) ++ following) in
      spelt D B (ap (λ y. expr_words y g) h ∙ words_binary (binary_of z.0.kind) z.0.span x z.1 g) (headed_append (expr_words x g) (pair_words z) first.headed rest.no_colon)
      (make_gives D h (make_both D first.made (make_some D rest.made)))

  -- bin = prefix (op prefix)*, by the strength of the marks
  pub binary_rule : ((n : ℕ) → PartAgain D B (nonterminal (Binary n))) → PartAgain D B (nonterminal Prefix) → (n : ℕ) → PartAgain D B (production false (Binary n))
  binary_rule again base zero = left_again 0 (again 1)
  binary_rule again base (suc zero) = left_again 1 (again 2)
  binary_rule again base (suc (suc zero)) = once_again 3 2 3 (again 3) (again 3)
  binary_rule again base (suc (suc (suc zero))) = once_again 4 3 3 (again 4) (again 3)
  binary_rule again base (suc (suc (suc (suc zero)))) = left_again 4 (again 5)
  binary_rule again base (suc (suc (suc (suc (suc zero))))) = left_again 5 (again 6)
  binary_rule again base (suc (suc (suc (suc (suc (suc n)))))) = λ d l c e y p g following. let made = base d l c e y p g following in spelt D B refl made.headed made.made

  -- tern = bin (? expr : expr)?
  pub ternary_rule : PartAgain D B (nonterminal (Binary 0)) → PartAgain D B (nonterminal Expr) → PartAgain D B (production false Ternary)
  unfolding same_kind
  ternary_rule base within d l c e y ((x, None), (i, p, q), h) g following =
      let first = base d l c i x p g following in
      spelt D B (ap (λ y. expr_words y g) h ∙ sym (append-nil (expr_words x g))) (headed_append (expr_words x g) [] first.headed tt) (make_gives D h (make_both D first.made (make_none D q)))
  ternary_rule base within d l c e y ((x, Some zs), (zero, p, (pair, (i, q, r), same)), h) g following = elim q [ ]
  ternary_rule base within d l c e y ((x, Some zs), (suc m, p, ((mark_face, (yes_value, other_value)), (i, (t, good, passed, ex, ec), (j, q, ((colon, z), (j2, r, s), same2))), same)), h) g following =
      let was = was_mark k.Question t mark_face good (spaced_question_kind t good passed) ex in
      let last = within d l j2 e z s gap.Space following in
      let middle = within d l i j yes_value q gap.Space _ in
      let first = base d l c (suc m) x p g _ in
      spelt D B
      (ap (λ y. expr_words y g) (h ∙ ap (λ zs. ternary_of x (Some zs)) (same ∙ ap (λ z. (yes_value, z)) same2)) ∙ words_ternary x yes_value z g)
      (headed_append (expr_words x g) _ first.headed refl)
      (make_gives D h (make_both D first.made (make_some D (make_gives D same (make_both D (make_counts D (make_plain D B is_ternary k.Question gap.Space _ d l m i mark_face was refl refl ec))
      (make_both D middle.made (make_gives D same2 (make_both D (make_tok D B k.Colon gap.Space _ d l j j2 colon r refl refl) last.made))))))))

  -- await? tern
  awaited_again : PartAgain D B (nonterminal Ternary) → (d l c e : ℕ) (at : Option Span) (x : ExprTree) → BuiltOf B (maybe (place k.Await) · nonterminal Ternary) d l c e (at, x) → (g : Gap) (following : List Token)
      → Spelt D B (maybe (place k.Await) · nonterminal Ternary) d l c e (at, x) (expr_words (awaited at x) g) following
  unfolding same_kind
  awaited_again base d l c e None x (m, p, q) g following =
      let inside = base d l m e x q g following in spelt D B refl inside.headed (make_both D (make_none D p) inside.made)
  awaited_again base d l c e (Some at) x (m, p, q) g following =
      let inside = base d l m e x q gap.Space following in
      spelt D B (words_await at x g) (refl, headed_start (expr_words x gap.Space) inside.headed) (make_both D (make_some D (make_place D B k.Await g _ d l c m at p refl (λ x. refl))) inside.made)

  -- expr = (try ??)? await? tern
  pub expr_rule : PartAgain D B (nonterminal Ternary) → PartAgain D B (production false Expr)
  unfolding same_kind
  expr_rule base d l c e y ((None, (at, x)), (m, p, q), h) g following =
      let inside = awaited_again base d l m e at x q g following in
      spelt D B (ap (λ y. expr_words y g) h) inside.headed (make_gives D h (make_both D (make_none D p) inside.made))
  expr_rule base d l c e y ((Some (at_try, false), (at, x)), (m, (i, p, (None, r, same)), q), h) g following =
      let inside = awaited_again base d l m e at x q gap.Space following in
      spelt D B (ap (λ y. expr_words y g) h ∙ words_try try_form.Plain at_try (awaited at x) g) (refl, headed_start (expr_words (awaited at x) gap.Space) inside.headed)
      (make_gives D h (make_both D (make_some D (make_both D (make_place D B k.Try g _ d l c i at_try p refl (λ x. refl)) (make_gives D same (make_none D r)))) inside.made))
  expr_rule base d l c e y ((Some (at_try, true), (at, x)), (m, (i, p, (Some question, (t, good, passed, ex, ec), same)), q), h) g following =
      let was = was_mark k.Question t question good (touching_question_kind t good passed) ex in
      let inside = awaited_again base d l m e at x q gap.Space following in
      spelt D B (ap (λ y. expr_words y g) h ∙ words_try try_form.Optional at_try (awaited at x) g) (refl, refl)
      (make_gives D h (make_both D (make_some D (make_both D (make_place D B k.Try g _ d l c i at_try p refl (λ x. refl))
      (make_gives D same (make_some D (make_plain D B is_joined_question k.Question gap.Joined _ d l i m question was refl refl ec))))) inside.made))
  expr_rule base d l c e y ((Some (at_try, true), (at, x)), (m, (i, p, (None, r, same)), q), h) g following = absurd (cc)
  expr_rule base d l c e y ((Some (at_try, false), (at, x)), (m, (i, p, (Some question, r, same)), q), h) g following = absurd (cc)
