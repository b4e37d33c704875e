-- What is a sentence of the lenient grammar, or begins one, does so in the grammar too, or it ends up to one of its tokens in
-- a second comparison, or in `try` or `await` right of a binary operator.
use Rattle.std.proofs.Common.{◌≡◌, ◌<◌, ℕ, zero, suc, Bool, true, false, ◌⊎◌, inl, inr, List, [], ◌∷◌, ◌++◌, Option, Some, None, refl, sym, ap, ◌∙◌, subst, append_assoc, append-nil, arith}
use Rattle.sw_grammar.specs.Grammar as g
use Rattle.sw_grammar.specs.Grammar.{Budget, Each, Then, FirstPasses, Derives_by, Derives, ViablePrefix_by, ViablePrefix}
use Rattle.sw_grammar.specs.Arriving as arriving
use Rattle.sw_grammar.proofs.Grow.{viable_nil}
use Rattle.sw_grammar.proofs.Starts as starts
use Rattle.sw_grammar.proofs.Starts.{sentence_viable}
use Rattle.sw_tree.specs.declared.expr.Expr.{Expr as ExprTree}
use Rattle.sw_syntax.specs.declared.class.Sight.{Sight}
use Rattle.sw_syntax.specs.Tokens.{Sighted, Face}
use Rattle.sw_syntax.specs.Tests.{is_binary, is_effect}
use Rattle.sw_syntax.specs.Nonterminals.{Nonterminal, Sort, Binary, Prefix}
use Rattle.sw_syntax.specs.Values.{to_left, to_right}
use Rattle.sw_syntax.specs.Parts.{P}
use Rattle.sw_syntax.specs.Grammar.{production, binary, operand, right, leftward}
use Rattle.sw_syntax.specs.Tables.{first_table, follow_last_table, nullable_table}
use Rattle.sw_syntax.specs.Meaning.{IsViablePrefix}
use Rattle.sw_syntax.specs.Misplaced.{Deriving, Asked, IsChain, IsEffectRight, left_of, EndsInChain, EndsInEffect}
use Rattle.sw_syntax.proofs.Lenient.{each_symbol}

heads_prefix : (f : Sight → Bool) (u v : List Sighted) → FirstPasses f (u ++ v) → FirstPasses f u
heads_prefix f [] v h = tt
heads_prefix f (t ∷ u) v h = h

-- which of the two
abbrev pub At : Bool → Deriving → Asked
At true = IsChain
At false = IsEffectRight

module _ (D D' : Deriving) (Q : Bool → Asked) where
  abbrev Strict : {A : Type 0} → P A → ℕ → ℕ → ℕ → ℕ → List Sighted → A → Type 0
  Strict a d l c e u x = Derives_by Sight Face Nonterminal Sort (production false) D a d l c e u x

  abbrev Lenient : {A : Type 0} → P A → ℕ → ℕ → ℕ → ℕ → List Sighted → A → Type 0
  Lenient a d l c e u x = Derives_by Sight Face Nonterminal Sort (production true) D' a d l c e u x

  abbrev Arr : Bool → {A : Type 0} → P A → ℕ → ℕ → ℕ → List Sighted → Type 0
  Arr k a d l c u = arriving.Arrives_by Sight Face Nonterminal Sort (production false) D (Q k) a d l c u

  -- up to one of its tokens it ends so
  abbrev Ends : {A : Type 0} → P A → ℕ → ℕ → ℕ → List Sighted → Type 0
  Ends a d l c u = (v : List Sighted) × (w : List Sighted) × (k : Bool) × (u ≡ v ++ w) × Arr k a d l c v

  -- ---- of a part, from one of its own parts

  ends_map : {A C : Type 0} (a : P A) (b : P C) (d l c d' l' c' : ℕ) (u : List Sighted) → ((k : Bool) (v : List Sighted) → Arr k a d l c v → Arr k b d' l' c' v) → Ends a d l c u → Ends b d' l' c' u
  ends_map a b d l c d' l' c' u h (v, w, k, eu, q) = (v, w, k, eu, h k v q)

  ends_longer : {A : Type 0} (a : P A) (d l c : ℕ) (u v w : List Sighted) → u ≡ v ++ w → Ends a d l c v → Ends a d l c u
  ends_longer a d l c u v w eu (v1, w1, k, ev, q) = (v1, w1 ++ w, k, eu ∙ ap (λ l. l ++ w) ev ∙ append_assoc v1 w1 w, q)

  shifted : (u v w w1 w2 : List Sighted) → u ≡ v ++ w → w ≡ w1 ++ w2 → u ≡ (v ++ w1) ++ w2
  shifted u v w w1 w2 eu ew = eu ∙ ap (λ l. v ++ l) ew ∙ sym (append_assoc v w1 w2)

  ends_second : {A C : Type 0} (a : P A) (b : P C) (d l c m : ℕ) (u v w : List Sighted) (x : A) → u ≡ v ++ w → Strict a d l c m v x → Ends b d l m w → Ends (g.both a b) d l c u
  ends_second a b d l c m u v w x eu p (w1, w2, k, ew, q) = (v ++ w1, w2, k, shifted u v w w1 w2 eu ew, inr (v, w1, x, m, refl, p, q))

  ends_goes : {A C : Type 0} (a : P A) (goes : A → Bool) (b : P C) (d l c m : ℕ) (u v w : List Sighted) (x : A) → u ≡ v ++ w → Strict a d l c m v x → goes x ≡ true → Ends b d l m w → Ends (g.then_if a goes b) d l c u
  ends_goes a goes b d l c m u v w x eu p is (w1, w2, k, ew, q) = (v ++ w1, w2, k, shifted u v w w1 w2 eu ew, inr (v, w1, x, m, refl, p, is, q))

  ends_item : {A : Type 0} (a : P A) (d l c m : ℕ) (u v w : List Sighted) (xs : List A) → u ≡ v ++ w → Each (Strict a d l) c m v xs → Ends a d l m w → Ends (g.many a) d l c u
  ends_item a d l c m u v w xs eu each (w1, w2, k, ew, q) = (v ++ w1, w2, k, shifted u v w w1 w2 eu ew, (v, w1, xs, m, refl, each, q))

  ends_later : {A : Type 0} (a : P A) (d l c m : ℕ) (u v w : List Sighted) (x : A) → u ≡ v ++ w → Strict a d l c m v x → Ends (g.many a) d l m w → Ends (g.many a) d l c u
  ends_later a d l c m u v w x eu p (w1, w2, k, ew, (v', w', xs, e, ew1, each, q)) =
      (v ++ w1, w2, k, shifted u v w w1 w2 eu ew, (v ++ v', w', x ∷ xs, e, ap (λ l. v ++ l) ew1 ∙ sym (append_assoc v v' w'), (v, v', m, refl, p, each), q))

  ends_when : (f : Sight → Bool) {A : Type 0} (a : P A) (d l c : ℕ) (u : List Sighted) → FirstPasses f u → Ends a d l c u → Ends (g.when f a) d l c u
  ends_when f a d l c u hd (v, w, k, eu, q) = (v, w, k, eu, (heads_prefix f v w (subst (FirstPasses f) eu hd), q))

  -- ---- sentences

  either_way : {X Y X' Y' : Type 0} → (X → X') → (Y → Y') → X ⊎ Y → X' ⊎ Y'
  either_way f h (inl p) = inl (f p)
  either_way f h (inr p) = inr (h p)

  join_both : {A C : Type 0} (a : P A) (b : P C) (d l c m e : ℕ) (u v w : List Sighted) (x : A) (y : C) → u ≡ v ++ w → Strict a d l c m v x ⊎ Ends a d l c v → Strict b d l m e w y ⊎ Ends b d l m w
      → Strict (g.both a b) d l c e u (x, y) ⊎ Ends (g.both a b) d l c u
  join_both a b d l c m e u v w x y eu (inr h) q = inr (ends_longer (g.both a b) d l c u v w eu (ends_map a (g.both a b) d l c d l c v (λ k v q. inl q) h))
  join_both a b d l c m e u v w x y eu (inl p) (inl q) = inl (v, w, m, eu, p, q)
  join_both a b d l c m e u v w x y eu (inl p) (inr h) = inr (ends_second a b d l c m u v w x eu p h)

  join_each : {A : Type 0} (a : P A) (d l c m e : ℕ) (u v w : List Sighted) (x : A) (xs : List A) → u ≡ v ++ w → Strict a d l c m v x ⊎ Ends a d l c v → Each (Strict a d l) m e w xs ⊎ Ends (g.many a) d l m w
      → Each (Strict a d l) c e u (x ∷ xs) ⊎ Ends (g.many a) d l c u
  join_each a d l c m e u v w x xs eu (inr h) q = inr (ends_longer (g.many a) d l c u v w eu (ends_item a d l c c v [] v [] refl (refl, refl) h))
  join_each a d l c m e u v w x xs eu (inl p) (inl q) = inl (v, w, m, eu, p, q)
  join_each a d l c m e u v w x xs eu (inl p) (inr h) = inr (ends_later a d l c m u v w x eu p h)

  each_text : {A : Type 0} (a : P A) (d l : ℕ) → ((c e : ℕ) (u : List Sighted) (x : A) → Lenient a d l c e u x → Strict a d l c e u x ⊎ Ends a d l c u) → (xs : List A) (c e : ℕ) (u : List Sighted) → Each (Lenient a d l) c e u xs
      → Each (Strict a d l) c e u xs ⊎ Ends (g.many a) d l c u
  each_text a d l h [] c e u p = inl p
  each_text a d l h (x ∷ xs) c e u (v, w, m, eu, p, q) = join_each a d l c m e u v w x xs eu (h c m v x p) (each_text a d l h xs m e w q)

  join_then : {A C : Type 0} (a : P A) (goes : A → Bool) (b : P C) (d l c m e : ℕ) (u v w : List Sighted) (x : A) (y : C) → u ≡ v ++ w → goes x ≡ true → Strict a d l c m v x ⊎ Ends a d l c v → Strict b d l m e w y ⊎ Ends b d l m w
      → Strict (g.then_if a goes b) d l c e u (x, Some y) ⊎ Ends (g.then_if a goes b) d l c u
  join_then a goes b d l c m e u v w x y eu is (inr h) q = inr (ends_longer (g.then_if a goes b) d l c u v w eu (ends_map a (g.then_if a goes b) d l c d l c v (λ k v q. inl q) h))
  join_then a goes b d l c m e u v w x y eu is (inl p) (inl q) = inl (v, w, m, eu, p, is, q)
  join_then a goes b d l c m e u v w x y eu is (inl p) (inr h) = inr (ends_goes a goes b d l c m u v w x eu p is h)

  then_text : {A C : Type 0} (a : P A) (goes : A → Bool) (b : P C) (d l : ℕ) → ((c e : ℕ) (u : List Sighted) (x : A) → Lenient a d l c e u x → Strict a d l c e u x ⊎ Ends a d l c u)
      → ((c e : ℕ) (u : List Sighted) (y : C) → Lenient b d l c e u y → Strict b d l c e u y ⊎ Ends b d l c u) → (c e : ℕ) (u : List Sighted) (x : A) (y : Option C) → Then (Lenient a d l) (Lenient b d l) goes c e u x y
      → Strict (g.then_if a goes b) d l c e u (x, y) ⊎ Ends (g.then_if a goes b) d l c u
  then_text a goes b d l h k c e u x None p = either_way (λ p. p) (ends_map a (g.then_if a goes b) d l c d l c u (λ k v q. inl q)) (h c e u x p)
  then_text a goes b d l h k c e u x (Some y) (v, w, m, eu, p, is, q) = join_then a goes b d l c m e u v w x y eu is (h c m v x p) (k m e w y q)

  module _ (h : (s : Nonterminal) (d l c e : ℕ) (u : List Sighted) (x : Sort s) → D' s d l c e u x → D s d l c e u x ⊎ Ends (g.nonterminal s) d l c u) where
    text : {A : Type 0} (a : P A) (d l c e : ℕ) (u : List Sighted) (x : A) → Lenient a d l c e u x → Strict a d l c e u x ⊎ Ends a d l c u
    text (g.terminal f) d l c e u x p = inl p
    text (g.nonterminal s) d l c e u x p = h s d l c e u x p
    text (g.both a b) d l c e u x (v, w, m, eu, p, q) = join_both a b d l c m e u v w x.0 x.1 eu (text a d l c m v x.0 p) (text b d l m e w x.1 q)
    text (g.either a b) d l c e u x (inl p) = either_way inl (ends_map a (g.either a b) d l c d l c u (λ k v q. inl q)) (text a d l c e u x p)
    text (g.either a b) d l c e u x (inr p) = either_way inr (ends_map b (g.either a b) d l c d l c u (λ k v q. inr q)) (text b d l c e u x p)
    text (g.maybe a) d l c e u None p = inl p
    text (g.maybe a) d l c e u (Some x) p = either_way (λ p. p) (ends_map a (g.maybe a) d l c d l c u (λ k v q. q)) (text a d l c e u x p)
    text (g.many a) d l c e u xs p = each_text a d l (text a d l) xs c e u p
    text (g.then_if a goes b) d l c e u x p = then_text a goes b d l (text a d l) (text b d l) c e u x.0 x.1 p
    text (g.when f a) d l c e u x (hd, p) = either_way (λ p. (hd, p)) (ends_when f a d l c u hd) (text a d l c e u x p)
    text (g.nest a) zero l c e u x p = elim p [ ]
    text (g.nest a) (suc d) l c e u x p = either_way (λ p. p) (ends_map a (g.nest a) d l c (suc d) l c u (λ k v q. q)) (text a d l c e u x p)
    text (g.counts a) d l zero e u x p = elim p [ ]
    text (g.counts a) d l (suc c) e u x p = either_way (λ p. p) (ends_map a (g.counts a) d l c d l (suc c) u (λ k v q. q)) (text a d l c e u x p)
    text (g.limited a) d l c e u x (m, p, ec) = either_way (λ p. (m, p, ec)) (ends_map a (g.limited a) d l l d l c u (λ k v q. q)) (text a d l l m u x p)
    text (g.gives f a) d l c e u y (x, p, ey) = either_way (λ p. (x, p, ey)) (ends_map a (g.gives f a) d l c d l c u (λ k v q. q)) (text a d l c e u x p)

    -- ---- binary marks

    -- a mark and `try` or `await`, with other tokens after them; and the same after a sentence of a part
    abbrev Effect : ℕ → ℕ → ℕ → ℕ → List Sighted → Type 0
    Effect n d l c u = (w : List Sighted) × (rest : List Sighted) × (t : Sighted) × (y : Face) × (e : ℕ) × (u ≡ (w ++ t ∷ []) ++ rest) × Strict (g.counts (g.terminal (is_binary n))) d l c e w y × (is_effect t.sight ≡ true)

    abbrev EffectBehind : {A : Type 0} → P A → ℕ → ℕ → ℕ → ℕ → List Sighted → Type 0
    EffectBehind {A} a n d l c u = (v : List Sighted) × (w : List Sighted) × (rest : List Sighted) × (t : Sighted) × (x : A) × (y : Face) × (m : ℕ) × (e : ℕ)
        × (u ≡ (v ++ (w ++ t ∷ [])) ++ rest) × Strict a d l c m v x × Strict (g.counts (g.terminal (is_binary n))) d l m e w y × (is_effect t.sight ≡ true)

    effect_longer : (n d l c : ℕ) (u v w : List Sighted) → u ≡ v ++ w → Effect n d l c v → Effect n d l c u
    effect_longer n d l c u v w eu (w1, rest, t, y, e, ev, p, is) = (w1, rest ++ w, t, y, e, eu ∙ ap (λ l. l ++ w) ev ∙ append_assoc (w1 ++ t ∷ []) rest w, p, is)

    effect_behind : {A : Type 0} (a : P A) (n d l c m : ℕ) (u v w : List Sighted) (x : A) → u ≡ v ++ w → Strict a d l c m v x → Effect n d l m w → EffectBehind a n d l c u
    effect_behind a n d l c m u v w x eu p (w1, rest, t, y, e, ew, q, is) = (v, w1, rest, t, x, y, m, e, shifted u v w (w1 ++ t ∷ []) rest eu ew, p, q, is)

    behind_longer : {A : Type 0} (a : P A) (n d l c : ℕ) (u v w : List Sighted) → u ≡ v ++ w → EffectBehind a n d l c v → EffectBehind a n d l c u
    behind_longer a n d l c u v w eu (v1, w1, rest, t, x, y, m, e, ev, p, q, is) = (v1, w1, rest ++ w, t, x, y, m, e, eu ∙ ap (λ l. l ++ w) ev ∙ append_assoc (v1 ++ (w1 ++ t ∷ [])) rest w, p, q, is)

    mark_text : (f : Sight → Bool) (d l c e : ℕ) (u : List Sighted) (x : Face) → Lenient (g.counts (g.terminal f)) d l c e u x → Strict (g.counts (g.terminal f)) d l c e u x
    mark_text f d l zero e u x p = p
    mark_text f d l (suc c) e u x p = p

    abbrev op : ℕ → ℕ → P (Face × ExprTree)
    op n j = operand n (g.nonterminal (Binary j))

    abbrev lenient_op : ℕ → ℕ → P (Face × ExprTree)
    lenient_op n j = operand n (right true j)

    operand_join : (n j d l c m e : ℕ) (u v w : List Sighted) (x : Face) (y : ExprTree) → u ≡ v ++ w → Strict (g.counts (g.terminal (is_binary n))) d l c m v x → D (Binary j) d l m e w y ⊎ Ends (g.nonterminal (Binary j)) d l m w
        → Strict (op n j) d l c e u (x, y) ⊎ (Ends (op n j) d l c u ⊎ Effect n d l c u)
    operand_join n j d l c m e u v w x y eu p (inl q) = inl (v, w, m, eu, p, q)
    operand_join n j d l c m e u v w x y eu p (inr q) = inr (inl (ends_second (g.counts (g.terminal (is_binary n))) (g.nonterminal (Binary j)) d l c m u v w x eu p q))

    operand_text : (n j d l c e : ℕ) (u : List Sighted) (x : Face × ExprTree) → Lenient (lenient_op n j) d l c e u x → Strict (op n j) d l c e u x ⊎ (Ends (op n j) d l c u ⊎ Effect n d l c u)
    operand_text n j d l c e u x (v, w, m, eu, p, inl q) = operand_join n j d l c m e u v w x.0 x.1 eu (mark_text (is_binary n) d l c m v x.0 p) (h (Binary j) d l m e w x.1 q)
    operand_text n j d l c e u x (v, w, m, eu, p, inr (f, (t, ew, is, ex, ec), ey)) =
        inr (inr (v, [], t, x.0, m, eu ∙ ap (λ w. v ++ w) ew ∙ sym (append-nil (v ++ t ∷ [])), mark_text (is_binary n) d l c m v x.0 p, is))

    operands_join : (n j d l c m e : ℕ) (u v w : List Sighted) (x : Face × ExprTree) (xs : List (Face × ExprTree)) → u ≡ v ++ w → Strict (op n j) d l c m v x ⊎ (Ends (op n j) d l c v ⊎ Effect n d l c v)
        → Each (Strict (op n j) d l) m e w xs ⊎ (Ends (g.many (op n j)) d l m w ⊎ EffectBehind (g.many (op n j)) n d l m w)
        → Each (Strict (op n j) d l) c e u (x ∷ xs) ⊎ (Ends (g.many (op n j)) d l c u ⊎ EffectBehind (g.many (op n j)) n d l c u)
    operands_join n j d l c m e u v w x xs eu (inr (inl h)) q = inr (inl (ends_longer (g.many (op n j)) d l c u v w eu (ends_item (op n j) d l c c v [] v [] refl (refl, refl) h)))
    operands_join n j d l c m e u v w x xs eu (inr (inr h)) q = inr (inr (effect_behind (g.many (op n j)) n d l c c u [] u [] refl (refl, refl) (effect_longer n d l c u v w eu h)))
    operands_join n j d l c m e u v w x xs eu (inl p) (inl q) = inl (v, w, m, eu, p, q)
    operands_join n j d l c m e u v w x xs eu (inl p) (inr (inl h)) = inr (inl (ends_later (op n j) d l c m u v w x eu p h))
    operands_join n j d l c m e u v w x xs eu (inl p) (inr (inr (a, w1, rest, t, ys, y, i, k, ew, each, q, is))) =
        inr (inr (v ++ a, w1, rest, t, x ∷ ys, y, i, k, shifted u v w (a ++ (w1 ++ t ∷ [])) rest eu ew ∙ ap (λ l. l ++ rest) (sym (append_assoc v a (w1 ++ t ∷ []))), (v, a, m, refl, p, each), q, is))

    operands_text : (n j d l : ℕ) (xs : List (Face × ExprTree)) (c e : ℕ) (u : List Sighted) → Each (Lenient (lenient_op n j) d l) c e u xs
        → Each (Strict (op n j) d l) c e u xs ⊎ (Ends (g.many (op n j)) d l c u ⊎ EffectBehind (g.many (op n j)) n d l c u)
    operands_text n j d l [] c e u p = inl p
    operands_text n j d l (x ∷ xs) c e u (v, w, m, eu, p, q) = operands_join n j d l c m e u v w x xs eu (operand_text n j d l c m v x p) (operands_text n j d l xs m e w q)

    -- a chain to the left
    abbrev chained : ℕ → P (ExprTree × List (Face × ExprTree))
    chained n = g.both (g.nonterminal (Binary (suc n))) (g.many (op n (suc n)))

    leftward_first : (n d l c : ℕ) (u v w : List Sighted) → u ≡ v ++ w → Ends (g.nonterminal (Binary (suc n))) d l c v → Ends (leftward false n) d l c u
    leftward_first n d l c u v w eu h = ends_longer (leftward false n) d l c u v w eu (ends_map (g.nonterminal (Binary (suc n))) (leftward false n) d l c d l c v (λ k v q. inl q) h)

    leftward_effect : (n d l c m : ℕ) (u v w : List Sighted) (x : ExprTree) → u ≡ v ++ w → D (Binary (suc n)) d l c m v x → EffectBehind (g.many (op n (suc n))) n d l m w → EffectBehind (leftward false n) n d l c u
    leftward_effect n d l c m u v w x eu p (a, w1, rest, t, ys, y, i, k, ew, each, q, is) =
        (v ++ a, w1, rest, t, to_left x ys, y, i, k, shifted u v w (a ++ (w1 ++ t ∷ [])) rest eu ew ∙ ap (λ l. l ++ rest) (sym (append_assoc v a (w1 ++ t ∷ []))), ((x, ys), (v, a, m, refl, p, each), refl), q, is)

    leftward_join : (n d l c m e : ℕ) (u v w : List Sighted) (x : ExprTree × List (Face × ExprTree)) (y : ExprTree) → u ≡ v ++ w → y ≡ to_left x.0 x.1 → D (Binary (suc n)) d l c m v x.0 ⊎ Ends (g.nonterminal (Binary (suc n))) d l c v
        → Each (Strict (op n (suc n)) d l) m e w x.1 ⊎ (Ends (g.many (op n (suc n))) d l m w ⊎ EffectBehind (g.many (op n (suc n))) n d l m w)
        → Strict (leftward false n) d l c e u y ⊎ (Ends (leftward false n) d l c u ⊎ EffectBehind (leftward false n) n d l c u)
    leftward_join n d l c m e u v w x y eu ey (inr h) q = inr (inl (leftward_first n d l c u v w eu h))
    leftward_join n d l c m e u v w x y eu ey (inl p) (inl q) = inl (x, (v, w, m, eu, p, q), ey)
    leftward_join n d l c m e u v w x y eu ey (inl p) (inr (inl h)) = inr (inl (ends_second (g.nonterminal (Binary (suc n))) (g.many (op n (suc n))) d l c m u v w x.0 eu p h))
    leftward_join n d l c m e u v w x y eu ey (inl p) (inr (inr h)) = inr (inr (leftward_effect n d l c m u v w x.0 eu p h))

    leftward_text : (n d l c e : ℕ) (u : List Sighted) (y : ExprTree) → Lenient (leftward true n) d l c e u y → Strict (leftward false n) d l c e u y ⊎ (Ends (leftward false n) d l c u ⊎ EffectBehind (leftward false n) n d l c u)
    leftward_text n d l c e u y (x, (v, w, m, eu, p, q), ey) = leftward_join n d l c m e u v w x y eu ey (h (Binary (suc n)) d l c m v x.0 p) (operands_text n (suc n) d l x.1 m e w q)

    -- one operand, and perhaps a mark with another
    abbrev paired : ℕ → ℕ → ℕ → P (ExprTree × Option (Face × ExprTree))
    paired n i j = g.both (g.nonterminal (Binary i)) (g.maybe (op n j))

    maybe_text : (n j d l c e : ℕ) (u : List Sighted) (x : Option (Face × ExprTree)) → Lenient (g.maybe (lenient_op n j)) d l c e u x → Strict (g.maybe (op n j)) d l c e u x ⊎ (Ends (g.maybe (op n j)) d l c u ⊎ Effect n d l c u)
    maybe_text n j d l c e u None p = inl p
    maybe_text n j d l c e u (Some x) p = operand_text n j d l c e u x p

    paired_first : (n i j d l c : ℕ) (u v w : List Sighted) → u ≡ v ++ w → Ends (g.nonterminal (Binary i)) d l c v → Ends (paired n i j) d l c u
    paired_first n i j d l c u v w eu h = ends_longer (paired n i j) d l c u v w eu (ends_map (g.nonterminal (Binary i)) (paired n i j) d l c d l c v (λ k v q. inl q) h)

    paired_join : (n i j d l c m e : ℕ) (u v w : List Sighted) (x : ExprTree) (y : Option (Face × ExprTree)) → u ≡ v ++ w → D (Binary i) d l c m v x ⊎ Ends (g.nonterminal (Binary i)) d l c v → Strict (g.maybe (op n j)) d l m e w y ⊎ (Ends (g.maybe (op n j)) d l m w ⊎ Effect n d l m w)
        → Strict (paired n i j) d l c e u (x, y) ⊎ (Ends (paired n i j) d l c u ⊎ EffectBehind (g.nonterminal (Binary i)) n d l c u)
    paired_join n i j d l c m e u v w x y eu (inr h) q = inr (inl (paired_first n i j d l c u v w eu h))
    paired_join n i j d l c m e u v w x y eu (inl p) (inl q) = inl (v, w, m, eu, p, q)
    paired_join n i j d l c m e u v w x y eu (inl p) (inr (inl h)) = inr (inl (ends_second (g.nonterminal (Binary i)) (g.maybe (op n j)) d l c m u v w x eu p h))
    paired_join n i j d l c m e u v w x y eu (inl p) (inr (inr h)) = inr (inr (effect_behind (g.nonterminal (Binary i)) n d l c m u v w x eu p h))

    -- ---- comparisons

    -- a comparison with its right operand, and the operator of another
    abbrev Second : ℕ → ℕ → ℕ → List Sighted → Type 0
    Second d l c u = (v : List Sighted) × (w : List Sighted) × (rest : List Sighted) × (x : Face × ExprTree) × (y : Face) × (m : ℕ) × (e : ℕ)
        × (u ≡ (v ++ w) ++ rest) × Strict (op 2 3) d l c m v x × Strict (g.counts (g.terminal (is_binary 2))) d l m e w y

    -- of a chain only one is a sentence of the grammar
    abbrev Short : ℕ → ℕ → ℕ → ℕ → List Sighted → List (Face × ExprTree) → Type 0
    Short d l c e u xs = (x : Option (Face × ExprTree)) × Strict (g.maybe (op 2 3)) d l c e u x × ((left : ExprTree) → to_left left xs ≡ to_right left x)

    one_text : (d l c m e : ℕ) (u v w : List Sighted) (x : Face × ExprTree) → u ≡ v ++ w → w ≡ [] → e ≡ m → Strict (op 2 3) d l c m v x ⊎ (Ends (op 2 3) d l c v ⊎ Effect 2 d l c v)
        → Short d l c e u (x ∷ []) ⊎ (Ends (g.maybe (op 2 3)) d l c u ⊎ (Effect 2 d l c u ⊎ Second d l c u))
    one_text d l c m e u v w x eu ew ee (inl p) =
        inl (Some x, subst (λ e. Strict (op 2 3) d l c e u x) (sym ee) (subst (λ u. Strict (op 2 3) d l c m u x) (sym (eu ∙ ap (λ l. v ++ l) ew ∙ append-nil v)) p), λ left. refl)
    one_text d l c m e u v w x eu ew ee (inr (inl h)) = inr (inl (ends_longer (g.maybe (op 2 3)) d l c u v w eu (ends_map (op 2 3) (g.maybe (op 2 3)) d l c d l c v (λ k v q. q) h)))
    one_text d l c m e u v w x eu ew ee (inr (inr h)) = inr (inr (inl (effect_longer 2 d l c u v w eu h)))

    two_text : {X : Type 0} (d l c m i : ℕ) (u v w a b : List Sighted) (x : Face × ExprTree) (y : Face) → u ≡ v ++ w → w ≡ a ++ b → Strict (op 2 3) d l c m v x ⊎ (Ends (op 2 3) d l c v ⊎ Effect 2 d l c v)
        → Strict (g.counts (g.terminal (is_binary 2))) d l m i a y → X ⊎ (Ends (g.maybe (op 2 3)) d l c u ⊎ (Effect 2 d l c u ⊎ Second d l c u))
    two_text d l c m i u v w a b x y eu ew (inl p) q = inr (inr (inr (v, a, b, x, y, m, i, shifted u v w a b eu ew, p, q)))
    two_text d l c m i u v w a b x y eu ew (inr (inl h)) q = inr (inl (ends_longer (g.maybe (op 2 3)) d l c u v w eu (ends_map (op 2 3) (g.maybe (op 2 3)) d l c d l c v (λ k v q. q) h)))
    two_text d l c m i u v w a b x y eu ew (inr (inr h)) q = inr (inr (inl (effect_longer 2 d l c u v w eu h)))

    compared_text : (d l : ℕ) (xs : List (Face × ExprTree)) (c e : ℕ) (u : List Sighted) → Each (Lenient (lenient_op 2 3) d l) c e u xs
        → Short d l c e u xs ⊎ (Ends (g.maybe (op 2 3)) d l c u ⊎ (Effect 2 d l c u ⊎ Second d l c u))
    compared_text d l [] c e u p = inl (None, p, λ left. refl)
    compared_text d l (x ∷ []) c e u (v, w, m, eu, p, (ew, ee)) = one_text d l c m e u v w x eu ew ee (operand_text 2 3 d l c m v x p)
    compared_text d l (x ∷ y ∷ ys) c e u (v, w, m, eu, p, (v', w', i, ew, (a, b, j, ea, q, _), _)) =
        two_text d l c m j u v w a (b ++ w') x y.0 eu (ew ∙ ap (λ l. l ++ w') ea ∙ append_assoc a b w') (operand_text 2 3 d l c m v x p) (mark_text (is_binary 2) d l m j a y.0 q)

    -- ---- of the nonterminal of each strength

    abbrev EndsAs : (s : Nonterminal) → P (Sort s) → ℕ → ℕ → ℕ → List Sighted → Type 0
    EndsAs s a d l c u = (v : List Sighted) × (w : List Sighted) × (k : Bool) × (u ≡ v ++ w) × (At k D s d l c v ⊎ Arr k a d l c v)

    pub as_part : (s : Nonterminal) (a : P (Sort s)) (d l c : ℕ) (u : List Sighted) → Ends a d l c u → EndsAs s a d l c u
    as_part s a d l c u (v, w, k, eu, q) = (v, w, k, eu, inr q)

    as_effect : (n : ℕ) → n < 6 → (d l c : ℕ) (u : List Sighted) → EffectBehind (left_of n) n d l c u → EndsAs (Binary n) (binary false n) d l c u
    as_effect n less d l c u (v, w, rest, t, x, y, m, e, eu, p, q, is) =
        (v ++ (w ++ t ∷ []), rest, false, eu, inl (less, ((x, (y, t.face)), e, (v, w ++ t ∷ [], m, refl, p, (w, t ∷ [], e, refl, q, (t, refl, is, refl, refl))))))

    as_chain : (d l c m : ℕ) (u v w : List Sighted) (x : ExprTree) → u ≡ v ++ w → D (Binary 3) d l c m v x → Second d l m w → EndsAs (Binary 2) (binary false 2) d l c u
    as_chain d l c m u v w x eu p (a, b, rest, y, z, i, e, ew, q, r) = (v ++ (a ++ b), rest, true, shifted u v w (a ++ b) rest eu ew, inl ((x, (y, z)), e, (v, a ++ b, m, refl, p, (a, b, i, refl, q, r))))

    settle : {X : Type 0} (n : ℕ) → n < 6 → (d l c : ℕ) (u : List Sighted) → X ⊎ (Ends (binary false n) d l c u ⊎ EffectBehind (left_of n) n d l c u) → X ⊎ EndsAs (Binary n) (binary false n) d l c u
    settle n less d l c u (inl p) = inl p
    settle n less d l c u (inr (inl h)) = inr (as_part (Binary n) (binary false n) d l c u h)
    settle n less d l c u (inr (inr h)) = inr (as_effect n less d l c u h)

    comparing_join : (d l c m e : ℕ) (u v w : List Sighted) (x : ExprTree × List (Face × ExprTree)) (y : ExprTree) → u ≡ v ++ w → y ≡ to_left x.0 x.1 → D (Binary 3) d l c m v x.0 ⊎ Ends (g.nonterminal (Binary 3)) d l c v
        → Short d l m e w x.1 ⊎ (Ends (g.maybe (op 2 3)) d l m w ⊎ (Effect 2 d l m w ⊎ Second d l m w)) → Strict (binary false 2) d l c e u y ⊎ EndsAs (Binary 2) (binary false 2) d l c u
    comparing_join d l c m e u v w x y eu ey (inr h) q = inr (as_part (Binary 2) (binary false 2) d l c u (paired_first 2 3 3 d l c u v w eu h))
    comparing_join d l c m e u v w x y eu ey (inl p) (inl (z, q, ez)) = inl ((x.0, z), (v, w, m, eu, p, q), ey ∙ ez x.0)
    comparing_join d l c m e u v w x y eu ey (inl p) (inr (inl h)) = inr (as_part (Binary 2) (binary false 2) d l c u (ends_second (g.nonterminal (Binary 3)) (g.maybe (op 2 3)) d l c m u v w x.0 eu p h))
    comparing_join d l c m e u v w x y eu ey (inl p) (inr (inr (inl h))) = inr (as_effect 2 (omega arith) d l c u (effect_behind (g.nonterminal (Binary 3)) 2 d l c m u v w x.0 eu p h))
    comparing_join d l c m e u v w x y eu ey (inl p) (inr (inr (inr h))) = inr (as_chain d l c m u v w x.0 eu p h)

    coalescing_text : (d l c e : ℕ) (u : List Sighted) (y : ExprTree) → Lenient (binary true 3) d l c e u y → Strict (binary false 3) d l c e u y ⊎ (Ends (binary false 3) d l c u ⊎ EffectBehind (g.nonterminal (Binary 4)) 3 d l c u)
    coalescing_text d l c e u y (x, (v, w, m, eu, p, q), ey) =
        either_way (λ p. (x, p, ey)) (λ h. h) (paired_join 3 4 3 d l c m e u v w x.0 x.1 eu (h (Binary 4) d l c m v x.0 p) (maybe_text 3 3 d l m e w x.1 q))

    bin_text : (n d l c e : ℕ) (u : List Sighted) (x : ExprTree) → Lenient (binary true n) d l c e u x → Strict (binary false n) d l c e u x ⊎ EndsAs (Binary n) (binary false n) d l c u
    bin_text zero d l c e u x p = settle 0 (omega arith) d l c u (leftward_text 0 d l c e u x p)
    bin_text (suc zero) d l c e u x p = settle 1 (omega arith) d l c u (leftward_text 1 d l c e u x p)
    bin_text (suc (suc zero)) d l c e u x (y, (v, w, m, eu, p, q), ey) = comparing_join d l c m e u v w y x eu ey (h (Binary 3) d l c m v y.0 p) (compared_text d l y.1 m e w q)
    bin_text (suc (suc (suc zero))) d l c e u x p = settle 3 (omega arith) d l c u (coalescing_text d l c e u x p)
    bin_text (suc (suc (suc (suc zero)))) d l c e u x p = settle 4 (omega arith) d l c u (leftward_text 4 d l c e u x p)
    bin_text (suc (suc (suc (suc (suc zero))))) d l c e u x p = settle 5 (omega arith) d l c u (leftward_text 5 d l c e u x p)
    bin_text (suc (suc (suc (suc (suc (suc n)))))) d l c e u x p =
        either_way (λ p. p) (λ q. as_part (Binary (suc (suc (suc (suc (suc (suc n))))))) (g.nonterminal Prefix) d l c u q) (h Prefix d l c e u x p)

    -- ---- beginnings

    module _ (B B' : Asked) (k : (s : Nonterminal) (d l c : ℕ) (u : List Sighted) → B' s d l c u → B s d l c u ⊎ Ends (g.nonterminal s) d l c u) where
      abbrev Front : {A : Type 0} → P A → ℕ → ℕ → ℕ → List Sighted → Type 0
      Front a d l c u = ViablePrefix_by Sight Face Nonterminal Sort (production false) D B a d l c u

      abbrev LenientViable : {A : Type 0} → P A → ℕ → ℕ → ℕ → List Sighted → Type 0
      LenientViable a d l c u = ViablePrefix_by Sight Face Nonterminal Sort (production true) D' B' a d l c u

      front_both : {A C : Type 0} (a : P A) (b : P C) (d l c m : ℕ) (u v w : List Sighted) (x : A) → u ≡ v ++ w → Strict a d l c m v x ⊎ Ends a d l c v → Front b d l m w ⊎ Ends b d l m w
          → Front (g.both a b) d l c u ⊎ Ends (g.both a b) d l c u
      front_both a b d l c m u v w x eu (inr h) q = inr (ends_longer (g.both a b) d l c u v w eu (ends_map a (g.both a b) d l c d l c v (λ k v q. inl q) h))
      front_both a b d l c m u v w x eu (inl p) (inl q) = inl (inr (v, w, x, m, eu, p, q))
      front_both a b d l c m u v w x eu (inl p) (inr h) = inr (ends_second a b d l c m u v w x eu p h)

      front_item : {A : Type 0} (a : P A) (d l c m : ℕ) (u v w : List Sighted) (xs : List A) → u ≡ v ++ w → Each (Strict a d l) c m v xs ⊎ Ends (g.many a) d l c v → Front a d l m w ⊎ Ends a d l m w
          → Front (g.many a) d l c u ⊎ Ends (g.many a) d l c u
      front_item a d l c m u v w xs eu (inr h) q = inr (ends_longer (g.many a) d l c u v w eu h)
      front_item a d l c m u v w xs eu (inl p) (inl q) = inl (inr (v, w, xs, m, eu, p, q))
      front_item a d l c m u v w xs eu (inl p) (inr h) = inr (ends_item a d l c m u v w xs eu p h)

      front_then : {A C : Type 0} (a : P A) (goes : A → Bool) (b : P C) (d l c m : ℕ) (u v w : List Sighted) (x : A) → u ≡ v ++ w → goes x ≡ true → Strict a d l c m v x ⊎ Ends a d l c v → Front b d l m w ⊎ Ends b d l m w
          → Front (g.then_if a goes b) d l c u ⊎ Ends (g.then_if a goes b) d l c u
      front_then a goes b d l c m u v w x eu is (inr h) q = inr (ends_longer (g.then_if a goes b) d l c u v w eu (ends_map a (g.then_if a goes b) d l c d l c v (λ k v q. inl q) h))
      front_then a goes b d l c m u v w x eu is (inl p) (inl q) = inl (inr (v, w, x, m, eu, p, is, q))
      front_then a goes b d l c m u v w x eu is (inl p) (inr h) = inr (ends_goes a goes b d l c m u v w x eu p is h)

      front : {A : Type 0} (a : P A) (d l c : ℕ) (u : List Sighted) → LenientViable a d l c u → Front a d l c u ⊎ Ends a d l c u
      front (g.terminal f) d l c [] p = inl p
      front (g.terminal f) d l c (t ∷ u) p = inl p
      front (g.nonterminal s) d l c u p = k s d l c u p
      front (g.both a b) d l c u (inl p) = either_way inl (ends_map a (g.both a b) d l c d l c u (λ k v q. inl q)) (front a d l c u p)
      front (g.both a b) d l c u (inr (v, w, x, m, eu, p, q)) = front_both a b d l c m u v w x eu (text a d l c m v x p) (front b d l m w q)
      front (g.either a b) d l c u (inl p) = either_way inl (ends_map a (g.either a b) d l c d l c u (λ k v q. inl q)) (front a d l c u p)
      front (g.either a b) d l c u (inr p) = either_way inr (ends_map b (g.either a b) d l c d l c u (λ k v q. inr q)) (front b d l c u p)
      front (g.maybe a) d l c u (inl eu) = inl (inl eu)
      front (g.maybe a) d l c u (inr p) = either_way inr (ends_map a (g.maybe a) d l c d l c u (λ k v q. q)) (front a d l c u p)
      front (g.many a) d l c u (inl eu) = inl (inl eu)
      front (g.many a) d l c u (inr (v, w, xs, m, eu, each, q)) = front_item a d l c m u v w xs eu (each_text a d l (text a d l) xs c m v each) (front a d l m w q)
      front (g.then_if a goes b) d l c u (inl p) = either_way inl (ends_map a (g.then_if a goes b) d l c d l c u (λ k v q. inl q)) (front a d l c u p)
      front (g.then_if a goes b) d l c u (inr (v, w, x, m, eu, p, is, q)) = front_then a goes b d l c m u v w x eu is (text a d l c m v x p) (front b d l m w q)
      front (g.when f a) d l c u (hd, p) = either_way (λ p. (hd, p)) (ends_when f a d l c u hd) (front a d l c u p)
      front (g.nest a) zero l c u eu = inl eu
      front (g.nest a) (suc d) l c u p = either_way (λ p. p) (ends_map a (g.nest a) d l c (suc d) l c u (λ k v q. q)) (front a d l c u p)
      front (g.counts a) d l zero u eu = inl eu
      front (g.counts a) d l (suc c) u p = either_way (λ p. p) (ends_map a (g.counts a) d l c d l (suc c) u (λ k v q. q)) (front a d l c u p)
      front (g.limited a) d l c u p = either_way (λ p. p) (ends_map a (g.limited a) d l l d l c u (λ k v q. q)) (front a d l l u p)
      front (g.gives f a) d l c u p = either_way (λ p. p) (ends_map a (g.gives f a) d l c d l c u (λ k v q. q)) (front a d l c u p)

      -- ---- binary marks

      module _ (nil : (s : Nonterminal) (d l c : ℕ) → B s d l c []) (begun : (s : Nonterminal) (d l c e : ℕ) (u : List Sighted) (x : Sort s) → D s d l c e u x → B s d l c u) where
        mark_front : (f : Sight → Bool) (d l c : ℕ) (u : List Sighted) → LenientViable (g.counts (g.terminal f)) d l c u → Front (g.counts (g.terminal f)) d l c u
        mark_front f d l zero u p = p
        mark_front f d l (suc c) [] p = p
        mark_front f d l (suc c) (t ∷ u) p = p

        operand_viable : (n j d l c m : ℕ) (u v w : List Sighted) (x : Face) → u ≡ v ++ w → Strict (g.counts (g.terminal (is_binary n))) d l c m v x → B (Binary j) d l m w ⊎ Ends (g.nonterminal (Binary j)) d l m w
            → Front (op n j) d l c u ⊎ (Ends (op n j) d l c u ⊎ Effect n d l c u)
        operand_viable n j d l c m u v w x eu p (inl q) = inl (inr (v, w, x, m, eu, p, q))
        operand_viable n j d l c m u v w x eu p (inr q) = inr (inl (ends_second (g.counts (g.terminal (is_binary n))) (g.nonterminal (Binary j)) d l c m u v w x eu p q))

        operand_front : (n j d l c : ℕ) (u : List Sighted) → LenientViable (lenient_op n j) d l c u → Front (op n j) d l c u ⊎ (Ends (op n j) d l c u ⊎ Effect n d l c u)
        operand_front n j d l c u (inl p) = inl (inl (mark_front (is_binary n) d l c u p))
        operand_front n j d l c u (inr (v, w, x, m, eu, p, inl q)) = operand_viable n j d l c m u v w x eu (mark_text (is_binary n) d l c m v x p) (k (Binary j) d l m w q)
        operand_front n j d l c u (inr (v, [], x, m, eu, p, inr q)) = inl (inr (v, [], x, m, eu, mark_text (is_binary n) d l c m v x p, nil (Binary j) d l m))
        operand_front n j d l c u (inr (v, t ∷ w, x, m, eu, p, inr (ew, is))) = inr (inr (v, w, t, x, m, eu ∙ sym (append_assoc v (t ∷ []) w), mark_text (is_binary n) d l c m v x p, is))

        operands_viable : (n j d l c m : ℕ) (u v w : List Sighted) (xs : List (Face × ExprTree)) → u ≡ v ++ w → Each (Strict (op n j) d l) c m v xs ⊎ (Ends (g.many (op n j)) d l c v ⊎ EffectBehind (g.many (op n j)) n d l c v)
            → Front (op n j) d l m w ⊎ (Ends (op n j) d l m w ⊎ Effect n d l m w) → Front (g.many (op n j)) d l c u ⊎ (Ends (g.many (op n j)) d l c u ⊎ EffectBehind (g.many (op n j)) n d l c u)
        operands_viable n j d l c m u v w xs eu (inr (inl h)) q = inr (inl (ends_longer (g.many (op n j)) d l c u v w eu h))
        operands_viable n j d l c m u v w xs eu (inr (inr h)) q = inr (inr (behind_longer (g.many (op n j)) n d l c u v w eu h))
        operands_viable n j d l c m u v w xs eu (inl p) (inl q) = inl (inr (v, w, xs, m, eu, p, q))
        operands_viable n j d l c m u v w xs eu (inl p) (inr (inl h)) = inr (inl (ends_item (op n j) d l c m u v w xs eu p h))
        operands_viable n j d l c m u v w xs eu (inl p) (inr (inr h)) = inr (inr (effect_behind (g.many (op n j)) n d l c m u v w xs eu p h))

        operands_front : (n j d l c : ℕ) (u : List Sighted) → LenientViable (g.many (lenient_op n j)) d l c u → Front (g.many (op n j)) d l c u ⊎ (Ends (g.many (op n j)) d l c u ⊎ EffectBehind (g.many (op n j)) n d l c u)
        operands_front n j d l c u (inl eu) = inl (inl eu)
        operands_front n j d l c u (inr (v, w, xs, m, eu, p, q)) = operands_viable n j d l c m u v w xs eu (operands_text n j d l xs c m v p) (operand_front n j d l m w q)

        leftward_viable : (n d l c m : ℕ) (u v w : List Sighted) (x : ExprTree) → u ≡ v ++ w → D (Binary (suc n)) d l c m v x ⊎ Ends (g.nonterminal (Binary (suc n))) d l c v
            → Front (g.many (op n (suc n))) d l m w ⊎ (Ends (g.many (op n (suc n))) d l m w ⊎ EffectBehind (g.many (op n (suc n))) n d l m w)
            → Front (leftward false n) d l c u ⊎ (Ends (leftward false n) d l c u ⊎ EffectBehind (leftward false n) n d l c u)
        leftward_viable n d l c m u v w x eu (inr h) q = inr (inl (leftward_first n d l c u v w eu h))
        leftward_viable n d l c m u v w x eu (inl p) (inl q) = inl (inr (v, w, x, m, eu, p, q))
        leftward_viable n d l c m u v w x eu (inl p) (inr (inl h)) = inr (inl (ends_second (g.nonterminal (Binary (suc n))) (g.many (op n (suc n))) d l c m u v w x eu p h))
        leftward_viable n d l c m u v w x eu (inl p) (inr (inr h)) = inr (inr (leftward_effect n d l c m u v w x eu p h))

        leftward_front : (n d l c : ℕ) (u : List Sighted) → LenientViable (leftward true n) d l c u → Front (leftward false n) d l c u ⊎ (Ends (leftward false n) d l c u ⊎ EffectBehind (leftward false n) n d l c u)
        leftward_front n d l c u (inl p) = either_way inl (λ q. inl (leftward_first n d l c u u [] (sym (append-nil u)) q)) (k (Binary (suc n)) d l c u p)
        leftward_front n d l c u (inr (v, w, x, m, eu, p, q)) = leftward_viable n d l c m u v w x eu (h (Binary (suc n)) d l c m v x p) (operands_front n (suc n) d l m w q)

        maybe_front : (n j d l c : ℕ) (u : List Sighted) → LenientViable (g.maybe (lenient_op n j)) d l c u → Front (g.maybe (op n j)) d l c u ⊎ (Ends (g.maybe (op n j)) d l c u ⊎ Effect n d l c u)
        maybe_front n j d l c u (inl eu) = inl (inl eu)
        maybe_front n j d l c u (inr p) = either_way inr (λ q. q) (operand_front n j d l c u p)

        paired_begun : (n i j d l c m : ℕ) (u v w : List Sighted) (x : ExprTree) → u ≡ v ++ w → D (Binary i) d l c m v x ⊎ Ends (g.nonterminal (Binary i)) d l c v → Front (g.maybe (op n j)) d l m w ⊎ (Ends (g.maybe (op n j)) d l m w ⊎ Effect n d l m w)
            → Front (paired n i j) d l c u ⊎ (Ends (paired n i j) d l c u ⊎ EffectBehind (g.nonterminal (Binary i)) n d l c u)
        paired_begun n i j d l c m u v w x eu (inr h) q = inr (inl (paired_first n i j d l c u v w eu h))
        paired_begun n i j d l c m u v w x eu (inl p) (inl q) = inl (inr (v, w, x, m, eu, p, q))
        paired_begun n i j d l c m u v w x eu (inl p) (inr (inl h)) = inr (inl (ends_second (g.nonterminal (Binary i)) (g.maybe (op n j)) d l c m u v w x eu p h))
        paired_begun n i j d l c m u v w x eu (inl p) (inr (inr h)) = inr (inr (effect_behind (g.nonterminal (Binary i)) n d l c m u v w x eu p h))

        coalescing_front : (d l c : ℕ) (u : List Sighted) → LenientViable (binary true 3) d l c u → Front (binary false 3) d l c u ⊎ (Ends (binary false 3) d l c u ⊎ EffectBehind (g.nonterminal (Binary 4)) 3 d l c u)
        coalescing_front d l c u (inl p) = either_way inl (λ q. inl (paired_first 3 4 3 d l c u u [] (sym (append-nil u)) q)) (k (Binary 4) d l c u p)
        coalescing_front d l c u (inr (v, w, x, m, eu, p, q)) = paired_begun 3 4 3 d l c m u v w x eu (h (Binary 4) d l c m v x p) (maybe_front 3 3 d l m w q)

        -- ---- comparisons

        abbrev Compared : ℕ → ℕ → ℕ → List Sighted → Type 0
        Compared d l c u = Front (g.maybe (op 2 3)) d l c u ⊎ (Ends (g.maybe (op 2 3)) d l c u ⊎ (Effect 2 d l c u ⊎ Second d l c u))

        text_begun : {A : Type 0} (a : P A) (d l c e : ℕ) (u : List Sighted) (x : A) → Strict a d l c e u x → Front a d l c u
        text_begun = sentence_viable Sight Face Nonterminal Sort (production false) first_table nullable_table follow_last_table D B nil begun

        none_front : (d l c m : ℕ) (u v w : List Sighted) → u ≡ v ++ w → v ≡ [] → m ≡ c → Front (op 2 3) d l m w ⊎ (Ends (op 2 3) d l m w ⊎ Effect 2 d l m w) → Compared d l c u
        none_front d l c m u v w eu ev em q = subst (λ u. Compared d l c u) (sym (eu ∙ ap (λ v. v ++ w) ev)) (subst (λ c. Compared d l c w) em (go q))
          where
            go : Front (op 2 3) d l m w ⊎ (Ends (op 2 3) d l m w ⊎ Effect 2 d l m w) → Compared d l m w
            go (inl q) = inl (inr q)
            go (inr (inl h)) = inr (inl h)
            go (inr (inr h)) = inr (inr (inl h))

        one_front : (d l c m : ℕ) (u v w : List Sighted) (x : Face × ExprTree) → u ≡ v ++ w → Strict (op 2 3) d l c m v x ⊎ (Ends (op 2 3) d l c v ⊎ Effect 2 d l c v) → LenientViable (lenient_op 2 3) d l m w → Compared d l c u
        one_front d l c m u v w x eu (inr (inl h)) q = inr (inl (ends_longer (g.maybe (op 2 3)) d l c u v w eu h))
        one_front d l c m u v w x eu (inr (inr h)) q = inr (inr (inl (effect_longer 2 d l c u v w eu h)))
        one_front d l c m u v [] x eu (inl p) q = inl (inr (subst (Front (op 2 3) d l c) (sym (eu ∙ append-nil v)) (text_begun (op 2 3) d l c m v x p)))
        one_front d l c zero u v (t ∷ w) x eu (inl p) (inl q) = cc
        one_front d l c (suc m) u v (t ∷ w) x eu (inl p) (inl (ew, is)) = inr (inr (inr (v, t ∷ [], w, x, t.face, suc m, m, shifted u v (t ∷ w) (t ∷ []) w eu refl, p, (t, refl, is, refl, refl))))
        one_front d l c m u v (t ∷ w) x eu (inl p) (inr (a, b, y, i, ew, q, r)) = inr (inr (inr (v, a, b, x, y, m, i, shifted u v (t ∷ w) a b eu ew, p, mark_text (is_binary 2) d l m i a y q)))

        compared_begun : (d l c m : ℕ) (u v w : List Sighted) (xs : List (Face × ExprTree)) → u ≡ v ++ w → Each (Lenient (lenient_op 2 3) d l) c m v xs → LenientViable (lenient_op 2 3) d l m w → Compared d l c u
        compared_begun d l c m u v w [] eu (ev, em) q = none_front d l c m u v w eu ev em (operand_front 2 3 d l m w q)
        compared_begun d l c m u v w (x ∷ []) eu (v1, w1, i, ev, p, (ew, em)) q =
            one_front d l c i u v1 w x (eu ∙ ap (λ v. v ++ w) (ev ∙ ap (λ l. v1 ++ l) ew ∙ append-nil v1)) (operand_text 2 3 d l c i v1 x p) (subst (λ m. LenientViable (lenient_op 2 3) d l m w) em q)
        compared_begun d l c m u v w (x ∷ y ∷ ys) eu (v1, w1, i, ev, p, (v2, w2, j, ew, (a, b, e, ea, r, _), _)) q =
            two_text d l c i e u v1 (w1 ++ w) a ((b ++ w2) ++ w) x y.0 (eu ∙ ap (λ v. v ++ w) ev ∙ append_assoc v1 w1 w)
            (ap (λ l. l ++ w) (ew ∙ ap (λ l. l ++ w2) ea ∙ append_assoc a b w2) ∙ append_assoc a (b ++ w2) w) (operand_text 2 3 d l c i v1 x p) (mark_text (is_binary 2) d l i e a y.0 r)

        compared_front : (d l c : ℕ) (u : List Sighted) → LenientViable (g.many (lenient_op 2 3)) d l c u → Compared d l c u
        compared_front d l c u (inl eu) = inl (inl eu)
        compared_front d l c u (inr (v, w, xs, m, eu, p, q)) = compared_begun d l c m u v w xs eu p q

        comparing_begun : (d l c m : ℕ) (u v w : List Sighted) (x : ExprTree) → u ≡ v ++ w → D (Binary 3) d l c m v x ⊎ Ends (g.nonterminal (Binary 3)) d l c v → Compared d l m w → Front (binary false 2) d l c u ⊎ EndsAs (Binary 2) (binary false 2) d l c u
        comparing_begun d l c m u v w x eu (inr h) q = inr (as_part (Binary 2) (binary false 2) d l c u (paired_first 2 3 3 d l c u v w eu h))
        comparing_begun d l c m u v w x eu (inl p) (inl q) = inl (inr (v, w, x, m, eu, p, q))
        comparing_begun d l c m u v w x eu (inl p) (inr (inl h)) = inr (as_part (Binary 2) (binary false 2) d l c u (ends_second (g.nonterminal (Binary 3)) (g.maybe (op 2 3)) d l c m u v w x eu p h))
        comparing_begun d l c m u v w x eu (inl p) (inr (inr (inl h))) = inr (as_effect 2 (omega arith) d l c u (effect_behind (g.nonterminal (Binary 3)) 2 d l c m u v w x eu p h))
        comparing_begun d l c m u v w x eu (inl p) (inr (inr (inr h))) = inr (as_chain d l c m u v w x eu p h)

        bin_front : (n d l c : ℕ) (u : List Sighted) → LenientViable (binary true n) d l c u → Front (binary false n) d l c u ⊎ EndsAs (Binary n) (binary false n) d l c u
        bin_front zero d l c u p = settle 0 (omega arith) d l c u (leftward_front 0 d l c u p)
        bin_front (suc zero) d l c u p = settle 1 (omega arith) d l c u (leftward_front 1 d l c u p)
        bin_front (suc (suc zero)) d l c u (inl p) = either_way inl (λ q. as_part (Binary 2) (binary false 2) d l c u (paired_first 2 3 3 d l c u u [] (sym (append-nil u)) q)) (k (Binary 3) d l c u p)
        bin_front (suc (suc zero)) d l c u (inr (v, w, x, m, eu, p, q)) = comparing_begun d l c m u v w x eu (h (Binary 3) d l c m v x p) (compared_front d l m w q)
        bin_front (suc (suc (suc zero))) d l c u p = settle 3 (omega arith) d l c u (coalescing_front d l c u p)
        bin_front (suc (suc (suc (suc zero)))) d l c u p = settle 4 (omega arith) d l c u (leftward_front 4 d l c u p)
        bin_front (suc (suc (suc (suc (suc zero))))) d l c u p = settle 5 (omega arith) d l c u (leftward_front 5 d l c u p)
        bin_front (suc (suc (suc (suc (suc (suc n)))))) d l c u p =
            either_way (λ p. p) (λ q. as_part (Binary (suc (suc (suc (suc (suc (suc n))))))) (g.nonterminal Prefix) d l c u q) (k Prefix d l c u p)

        symbol_front : (s : Nonterminal) (d l c : ℕ) (u : List Sighted) → LenientViable (production true s) d l c u → Front (production false s) d l c u ⊎ EndsAs s (production false s) d l c u
        symbol_front = each_symbol (λ s a b. (d l c : ℕ) (u : List Sighted) → LenientViable b d l c u → Front a d l c u ⊎ EndsAs s a d l c u) (λ s a d l c u p. either_way (λ p. p) (as_part s a d l c u) (front a d l c u p)) bin_front

    symbol_text : (s : Nonterminal) (d l c e : ℕ) (u : List Sighted) (x : Sort s) → Lenient (production true s) d l c e u x → Strict (production false s) d l c e u x ⊎ EndsAs s (production false s) d l c u
    symbol_text = each_symbol (λ s a b. (d l c e : ℕ) (u : List Sighted) (x : Sort s) → Lenient b d l c e u x → Strict a d l c e u x ⊎ EndsAs s a d l c u) (λ s a d l c e u x p. either_way (λ p. p) (as_part s a d l c u) (text a d l c e u x p)) bin_text

-- ---- by each height

abbrev pub Dn : Bool → ℕ → Deriving
Dn lenient n = Derives Sight Face Nonterminal Sort (production lenient) n

abbrev pub Bn : Bool → ℕ → Asked
Bn lenient n = ViablePrefix Sight Face Nonterminal Sort (production lenient) n

abbrev pub Arrives : ℕ → Bool → Asked
Arrives n k = arriving.Arrives Sight Face Nonterminal Sort (production false) (At k) n

abbrev Ended : ℕ → Nonterminal → ℕ → ℕ → ℕ → List Sighted → Type 0
Ended n s d l c u = (v : List Sighted) × (w : List Sighted) × (k : Bool) × (u ≡ v ++ w) × Arrives n k s d l c v

text_n : (n : ℕ) (s : Nonterminal) (d l c e : ℕ) (u : List Sighted) (x : Sort s) → Dn true n s d l c e u x → Dn false n s d l c e u x ⊎ Ended n s d l c u
text_n zero s d l c e u x p = elim p [ ]
text_n (suc n) s d l c e u x p = symbol_text (Dn false n) (Dn true n) (Arrives n) (text_n n) s d l c e u x p

front_n : (n : ℕ) (s : Nonterminal) (d l c : ℕ) (u : List Sighted) → Bn true n s d l c u → Bn false n s d l c u ⊎ Ended n s d l c u
front_n zero s d l c u p = inl p
front_n (suc n) s d l c u p = symbol_front (Dn false n) (Dn true n) (Arrives n) (text_n n) (Bn false n) (Bn true n) (front_n n) (viable_nil Sight Face Nonterminal Sort (production false) n)
    (starts.text_n Sight Face Nonterminal Sort (production false) first_table nullable_table follow_last_table n) s d l c u p

-- ---- the law

-- what is a viable prefix of the lenient grammar begins one of the grammar, or ends so up to one of its tokens
pub begun_strictly : (s : Nonterminal) (budget : Budget) (u : List Sighted) → IsViablePrefix true s budget u
    → IsViablePrefix false s budget u ⊎ ((v : List Sighted) × (w : List Sighted) × (u ≡ v ++ w) × (EndsInChain s budget v ⊎ EndsInEffect s budget v))
begun_strictly s budget u (n, p) = go (front_n n s budget.brackets budget.limit budget.left u p)
  where
    go : Bn false n s budget.brackets budget.limit budget.left u ⊎ Ended n s budget.brackets budget.limit budget.left u
        → IsViablePrefix false s budget u ⊎ ((v : List Sighted) × (w : List Sighted) × (u ≡ v ++ w) × (EndsInChain s budget v ⊎ EndsInEffect s budget v))
    go (inl p) = inl (n, p)
    go (inr (v, w, true, eu, q)) = inr (v, w, eu, inl (n, q))
    go (inr (v, w, false, eu, q)) = inr (v, w, eu, inr (n, q))
