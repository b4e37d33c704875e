-- What ends in a second comparison, or in `try` or `await` right of a binary operator, is a viable prefix of the lenient grammar.
use Rattle.std.proofs.Common.{◌≡◌, ◌<◌, ℕ, zero, suc, Bool, true, false, inl, inr, List, [], ◌∷◌, ◌++◌, refl, sym, ap, ◌∙◌, subst, append_assoc, append-nil, arith}
use Rattle.sw_grammar.specs.Grammar as g
use Rattle.sw_grammar.specs.Grammar.{Budget, Derives_by, ViablePrefix_by}
use Rattle.sw_grammar.specs.Arriving as arriving
use Rattle.sw_tree.specs.declared.expr.Expr.{Expr as ExprTree}
use Rattle.sw_syntax.specs.declared.class.Sight.{Sight}
use Rattle.sw_syntax.specs.Tokens.{Sighted, Face}
use Rattle.sw_syntax.specs.Tests.{is_binary, is_effect}
use Rattle.sw_syntax.specs.Nonterminals.{Nonterminal, Sort, Binary, Prefix}
use Rattle.sw_syntax.specs.Parts.{P}
use Rattle.sw_syntax.specs.Grammar.{production, binary, operand, right, leftward}
use Rattle.sw_syntax.specs.Meaning.{IsViablePrefix}
use Rattle.sw_syntax.specs.Misplaced.{Deriving, Asked, IsChain, IsEffectRight, left_of, EndsInChain, EndsInEffect}
use Rattle.sw_syntax.proofs.Lenient as lenient
use Rattle.sw_syntax.proofs.Lenient.{each_symbol, more}
use Rattle.sw_syntax.proofs.FromLenient.{At, Arrives, Dn, Bn}

module _ (D D' : Deriving) (h : (s : Nonterminal) (d l c e : ℕ) (u : List Sighted) (x : Sort s) → D s d l c e u x → D' s d l c e u x) (B' : Asked) where
  abbrev Strict : {A : Type 0} → P A → ℕ → ℕ → ℕ → ℕ → List Sighted → A → Type 0
  Strict a d l c e u x = Derives_by Sight Face Nonterminal Sort (production false) D a d l c e u x

  abbrev Lenient : {A : Type 0} → P A → ℕ → ℕ → ℕ → ℕ → List Sighted → A → Type 0
  Lenient a d l c e u x = Derives_by Sight Face Nonterminal Sort (production true) D' a d l c e u x

  abbrev LenientViable : {A : Type 0} → P A → ℕ → ℕ → ℕ → List Sighted → Type 0
  LenientViable a d l c u = ViablePrefix_by Sight Face Nonterminal Sort (production true) D' B' a d l c u

  part : {A : Type 0} (a : P A) (d l c e : ℕ) (u : List Sighted) (x : A) → Strict a d l c e u x → Lenient a d l c e u x
  part = more (production false) (production true) D D' h

  -- ---- where tokens arrive at what is a viable prefix of the lenient grammar

  module _ (Q : Asked) (k : (s : Nonterminal) (d l c : ℕ) (u : List Sighted) → Q s d l c u → B' s d l c u) where
    abbrev Arr : {A : Type 0} → P A → ℕ → ℕ → ℕ → List Sighted → Type 0
    Arr a d l c u = arriving.Arrives_by Sight Face Nonterminal Sort (production false) D Q a d l c u

    arrived : {A : Type 0} (a : P A) (d l c : ℕ) (u : List Sighted) → Arr a d l c u → LenientViable a d l c u
    arrived (g.terminal f) d l c u p = elim p [ ]
    arrived (g.nonterminal s) d l c u p = k s d l c u p
    arrived (g.both a b) d l c u (inl p) = inl (arrived a d l c u p)
    arrived (g.both a b) d l c u (inr (v, w, x, e, eu, p, q)) = inr (v, w, x, e, eu, part a d l c e v x p, arrived b d l e w q)
    arrived (g.either a b) d l c u (inl p) = inl (arrived a d l c u p)
    arrived (g.either a b) d l c u (inr p) = inr (arrived b d l c u p)
    arrived (g.maybe a) d l c u p = inr (arrived a d l c u p)
    arrived (g.many a) d l c u (v, w, xs, e, eu, p, q) = inr (v, w, xs, e, eu, part (g.many a) d l c e v xs p, arrived a d l e w q)
    arrived (g.then_if a goes b) d l c u (inl p) = inl (arrived a d l c u p)
    arrived (g.then_if a goes b) d l c u (inr (v, w, x, e, eu, p, is, q)) = inr (v, w, x, e, eu, part a d l c e v x p, is, arrived b d l e w q)
    arrived (g.when f a) d l c u (hd, p) = (hd, arrived a d l c u p)
    arrived (g.nest a) zero l c u p = elim p [ ]
    arrived (g.nest a) (suc d) l c u p = arrived a d l c u p
    arrived (g.counts a) d l zero u p = elim p [ ]
    arrived (g.counts a) d l (suc c) u p = arrived a d l c u p
    arrived (g.limited a) d l c u p = arrived a d l l u p
    arrived (g.gives f a) d l c u p = arrived a d l c u p

    operand_arrived : (n j d l c : ℕ) (u : List Sighted) → Arr (operand n (g.nonterminal (Binary j))) d l c u → LenientViable (operand n (right true j)) d l c u
    operand_arrived n j d l zero u (inl p) = elim p [ ]
    operand_arrived n j d l (suc c) u (inl p) = elim p [ ]
    operand_arrived n j d l c u (inr (v, w, x, e, eu, p, q)) = inr (v, w, x, e, eu, part (g.counts (g.terminal (is_binary n))) d l c e v x p, inl (k (Binary j) d l e w q))

    leftward_arrived : (n d l c : ℕ) (u : List Sighted) → Arr (leftward false n) d l c u → LenientViable (leftward true n) d l c u
    leftward_arrived n d l c u (inl p) = inl (k (Binary (suc n)) d l c u p)
    leftward_arrived n d l c u (inr (v, w, x, e, eu, p, (a, b, ys, i, ew, each, q))) =
        inr (v, w, x, e, eu, h (Binary (suc n)) d l c e v x p, inr (a, b, ys, i, ew, lenient.operands_more D D' h n (suc n) d l e i a ys each, operand_arrived n (suc n) d l i b q))

    bin_arrived : (n d l c : ℕ) (u : List Sighted) → Arr (binary false n) d l c u → LenientViable (binary true n) d l c u
    bin_arrived zero d l c u p = leftward_arrived 0 d l c u p
    bin_arrived (suc zero) d l c u p = leftward_arrived 1 d l c u p
    bin_arrived (suc (suc zero)) d l c u (inl p) = inl (k (Binary 3) d l c u p)
    bin_arrived (suc (suc zero)) d l c u (inr (v, w, x, e, eu, p, q)) = inr (v, w, x, e, eu, h (Binary 3) d l c e v x p, inr ([], w, [], e, refl, (refl, refl), operand_arrived 2 3 d l e w q))
    bin_arrived (suc (suc (suc zero))) d l c u (inl p) = inl (k (Binary 4) d l c u p)
    bin_arrived (suc (suc (suc zero))) d l c u (inr (v, w, x, e, eu, p, q)) = inr (v, w, x, e, eu, h (Binary 4) d l c e v x p, inr (operand_arrived 3 3 d l e w q))
    bin_arrived (suc (suc (suc (suc zero)))) d l c u p = leftward_arrived 4 d l c u p
    bin_arrived (suc (suc (suc (suc (suc zero))))) d l c u p = leftward_arrived 5 d l c u p
    bin_arrived (suc (suc (suc (suc (suc (suc n)))))) d l c u p = k Prefix d l c u p

    symbol_arrived : (s : Nonterminal) (d l c : ℕ) (u : List Sighted) → Arr (production false s) d l c u → LenientViable (production true s) d l c u
    symbol_arrived = each_symbol (λ s a b. (d l c : ℕ) (u : List Sighted) → Arr a d l c u → LenientViable b d l c u) (λ s a. arrived a) bin_arrived

  -- ---- a second comparison

  mark_begun : (f : Sight → Bool) (d l c e : ℕ) (u : List Sighted) (x : Face) → Strict (g.counts (g.terminal f)) d l c e u x → LenientViable (g.counts (g.terminal f)) d l c u
  mark_begun f d l zero e u x p = elim p [ ]
  mark_begun f d l (suc c) e u x (t, eu, is, ex, ec) = subst (LenientViable (g.terminal f) d l c) (sym eu) (refl, is)

  chain_viable : (d l c : ℕ) (u : List Sighted) → IsChain D (Binary 2) d l c u → LenientViable (binary true 2) d l c u
  chain_viable d l c u (x, e, (v, w, m, eu, p, (a, b, i, ew, q, r))) =
      inr (
        v,
        w,
        x.0,
        m,
        eu,
        h (Binary 3) d l c m v x.0 p,
        inr (
          a,
          b,
          x.1.0 ∷ [],
          i,
          ew,
          (a, [], i, sym (append-nil a), lenient.operand_more D D' h 2 3 d l m i a x.1.0 q, (refl, refl)),
          inl (mark_begun (is_binary 2) d l i e b x.1.1 r),
        ),
      )

  -- ---- `try` or `await` right of a mark

  effect_begun : (n j d l c e : ℕ) (u v : List Sighted) (t : Sighted) (x : Face) → u ≡ v ++ t ∷ [] → Strict (g.counts (g.terminal (is_binary n))) d l c e v x → is_effect t.sight ≡ true → LenientViable (operand n (right true j)) d l c u
  effect_begun n j d l c e u v t x eu p is = inr (v, t ∷ [], x, e, eu, part (g.counts (g.terminal (is_binary n))) d l c e v x p, inr (refl, is))

  leftward_effect : (n d l c m e : ℕ) (u v w a : List Sighted) (t : Sighted) (x : ExprTree) (y : Face) → u ≡ v ++ w → w ≡ a ++ t ∷ [] → Strict (leftward false n) d l c m v x → Strict (g.counts (g.terminal (is_binary n))) d l m e a y → is_effect t.sight ≡ true
      → LenientViable (leftward true n) d l c u
  leftward_effect n d l c m e u v w a t x y eu ew (z, (v1, v2, i, ev, p, each), ez) q is =
      inr (
        v1,
        v2 ++ w,
        z.0,
        i,
        eu ∙ ap (λ v. v ++ w) ev ∙ append_assoc v1 v2 w,
        h (Binary (suc n)) d l c i v1 z.0 p,
        inr (v2, w, z.1, m, refl, lenient.operands_more D D' h n (suc n) d l i m v2 z.1 each, effect_begun n (suc n) d l m e w a t y ew q is),
      )

  left_effect : (n : ℕ) → n < 6 → (d l c m e : ℕ) (u v w a : List Sighted) (t : Sighted) (x : ExprTree) (y : Face) → u ≡ v ++ w → w ≡ a ++ t ∷ [] → Strict (left_of n) d l c m v x → Strict (g.counts (g.terminal (is_binary n))) d l m e a y → is_effect t.sight ≡ true
      → LenientViable (binary true n) d l c u
  left_effect zero _ = leftward_effect 0
  left_effect (suc zero) _ = leftward_effect 1
  left_effect (suc (suc zero)) _ = λ d l c m e u v w a t x y eu ew p q is. inr (v, w, x, m, eu, h (Binary 3) d l c m v x p, inr ([], w, [], m, refl, (refl, refl), effect_begun 2 3 d l m e w a t y ew q is))
  left_effect (suc (suc (suc zero))) _ = λ d l c m e u v w a t x y eu ew p q is. inr (v, w, x, m, eu, h (Binary 4) d l c m v x p, inr (effect_begun 3 3 d l m e w a t y ew q is))
  left_effect (suc (suc (suc (suc zero)))) _ = leftward_effect 4
  left_effect (suc (suc (suc (suc (suc zero))))) _ = leftward_effect 5
  left_effect (suc (suc (suc (suc (suc (suc n)))))) less = absurd (omega (arith, less))

  -- ---- of each nonterminal

  chain_at : (s : Nonterminal) (d l c : ℕ) (u : List Sighted) → IsChain D s d l c u → LenientViable (production true s) d l c u
  chain_at (Binary (suc (suc zero))) d l c u p = chain_viable d l c u p
  chain_at s d l c u p = absurd p

  effect_at : (s : Nonterminal) (d l c : ℕ) (u : List Sighted) → IsEffectRight D s d l c u → LenientViable (production true s) d l c u
  effect_at (Binary n) d l c u (less, (x, e, (v, w, m, eu, p, (a, b, i, ew, q, (t, eb, is, ex, ec))))) = left_effect n less d l c m i u v w a t x.0 x.1.0 eu (ew ∙ ap (λ b. a ++ b) eb) p q is
  effect_at s d l c u p = absurd p

  at_begun : (k : Bool) (s : Nonterminal) (d l c : ℕ) (u : List Sighted) → At k D s d l c u → LenientViable (production true s) d l c u
  at_begun true = chain_at
  at_begun false = effect_at

-- ---- the laws

arrives_begun : (n : ℕ) (k : Bool) (s : Nonterminal) (d l c : ℕ) (u : List Sighted) → Arrives n k s d l c u → Bn true n s d l c u
arrives_begun zero k s d l c u p = elim p [ ]
arrives_begun (suc n) k s d l c u (inl p) = at_begun (Dn false n) (Dn true n) (lenient.text_n n) (Bn true n) k s d l c u p
arrives_begun (suc n) k s d l c u (inr p) = symbol_arrived (Dn false n) (Dn true n) (lenient.text_n n) (Bn true n) (Arrives n k) (arrives_begun n k) s d l c u p

pub chain_loosely : (s : Nonterminal) (budget : Budget) (u : List Sighted) → EndsInChain s budget u → IsViablePrefix true s budget u
chain_loosely s budget u (n, p) = (n, arrives_begun n true s budget.brackets budget.limit budget.left u p)

pub effect_loosely : (s : Nonterminal) (budget : Budget) (u : List Sighted) → EndsInEffect s budget u → IsViablePrefix true s budget u
effect_loosely s budget u (n, p) = (n, arrives_begun n false s budget.brackets budget.limit budget.left u p)
