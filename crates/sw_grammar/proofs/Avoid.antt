-- Tokens that no part of a production takes stand in no sentence of it.
use Rattle.std.proofs.Common.{◌≡◌, ℕ, zero, suc, Bool, true, inl, inr, List, [], ◌∷◌, ◌++◌, Option, Some, None, sym, subst}
use Rattle.sw_grammar.specs.Grammar as g
use Rattle.sw_grammar.specs.Grammar.{Token, Part, Budget, Counted, Each, Then, FirstPasses, Derives_by, Derives, ViablePrefix_by, ViablePrefix, Spells, IsViablePrefix}
use Rattle.sw_grammar.specs.Avoiding.{Free, Avoids}
use Rattle.sw_grammar.proofs.Starts.{not_true}

pub free_append : {K V : Type 0} (f : K → Bool) (v w : List (Token K V)) → Free f v → Free f w → Free f (v ++ w)
free_append f [] w p q = q
free_append f (t ∷ v) w p q = (p.0, free_append f v w p.1 q)

free_each : {K V A : Type 0} (f : K → Bool) (D : Counted (Token K V) A) → ((c e : ℕ) (u : List (Token K V)) (x : A) → D c e u x → Free f u) → (xs : List A) (c e : ℕ) (u : List (Token K V)) → Each D c e u xs → Free f u
free_each f D h [] c e u (eu, ec) = subst (Free f) (sym eu) tt
free_each f D h (x ∷ xs) c e u (v, w, m, eu, p, q) = subst (Free f) (sym eu) (free_append f v w (h c m v x p) (free_each f D h xs m e w q))

free_then : {K V A C : Type 0} (f : K → Bool) (D : Counted (Token K V) A) (E : Counted (Token K V) C) (goes : A → Bool) → ((c e : ℕ) (u : List (Token K V)) (x : A) → D c e u x → Free f u) → ((c e : ℕ) (u : List (Token K V)) (y : C) → E c e u y → Free f u)
    → (c e : ℕ) (u : List (Token K V)) (x : A) (y : Option C) → Then D E goes c e u x y → Free f u
free_then f D E goes h k c e u x None p = h c e u x p
free_then f D E goes h k c e u x (Some y) (v, w, m, eu, p, is, q) = subst (Free f) (sym eu) (free_append f v w (h c m v x p) (k m e w y q))

module _ (K V S : Type 0) (Sort : S → Type 0) (production : (s : S) → Part K V S Sort (Sort s)) (f : K → Bool) (clean : S → Bool) where
  abbrev Avd : {A : Type 0} → Part K V S Sort A → Type 0
  Avd a = Avoids K V S Sort f clean a

  module _ (D : (s : S) → ℕ → ℕ → ℕ → ℕ → List (Token K V) → Sort s → Type 0)
      (hd : (s : S) → clean s ≡ true → (d l c e : ℕ) (u : List (Token K V)) (x : Sort s) → D s d l c e u x → Free f u) where
    abbrev Dv : {A : Type 0} → Part K V S Sort A → ℕ → ℕ → ℕ → ℕ → List (Token K V) → A → Type 0
    Dv a d l c e u x = Derives_by K V S Sort production D a d l c e u x

    free_D : {A : Type 0} (a : Part K V S Sort A) → Avd a → (d l c e : ℕ) (u : List (Token K V)) (x : A) → Dv a d l c e u x → Free f u
    free_D (g.terminal h) ok d l c e u x (t, eu, is, ex, ec) = subst (Free f) (sym eu) (not_true (f t.sight) (ok t.sight is), tt)
    free_D (g.nonterminal s) ok d l c e u x p = hd s ok d l c e u x p
    free_D (g.both a b) ok d l c e u x (v, w, m, eu, p, q) = subst (Free f) (sym eu) (free_append f v w (free_D a ok.0 d l c m v x.0 p) (free_D b ok.1 d l m e w x.1 q))
    free_D (g.either a b) ok d l c e u x (inl p) = free_D a ok.0 d l c e u x p
    free_D (g.either a b) ok d l c e u x (inr p) = free_D b ok.1 d l c e u x p
    free_D (g.maybe a) ok d l c e u None (eu, ec) = subst (Free f) (sym eu) tt
    free_D (g.maybe a) ok d l c e u (Some x) p = free_D a ok d l c e u x p
    free_D (g.many a) ok d l c e u xs p = free_each f (Dv a d l) (free_D a ok d l) xs c e u p
    free_D (g.then_if a goes b) ok d l c e u x p = free_then f (Dv a d l) (Dv b d l) goes (free_D a ok.0 d l) (free_D b ok.1 d l) c e u x.0 x.1 p
    free_D (g.when h a) ok d l c e u x (i, p) = free_D a ok d l c e u x p
    free_D (g.nest a) ok zero l c e u x p = elim p [ ]
    free_D (g.nest a) ok (suc d) l c e u x p = free_D a ok d l c e u x p
    free_D (g.counts a) ok d l zero e u x p = elim p [ ]
    free_D (g.counts a) ok d l (suc c) e u x p = free_D a ok d l c e u x p
    free_D (g.limited a) ok d l c e u x (m, p, ec) = free_D a ok d l l m u x p
    free_D (g.gives h a) ok d l c e u y (x, p, ey) = free_D a ok d l c e u x p

    module _ (B : (s : S) → ℕ → ℕ → ℕ → List (Token K V) → Type 0) (hb : (s : S) → clean s ≡ true → (d l c : ℕ) (u : List (Token K V)) → B s d l c u → Free f u) where
      free_B : {A : Type 0} (a : Part K V S Sort A) → Avd a → (d l c : ℕ) (u : List (Token K V)) → ViablePrefix_by K V S Sort production D B a d l c u → Free f u
      free_B (g.terminal h) ok d l c [] p = tt
      free_B (g.terminal h) ok d l c (t ∷ u) (eu, is) = (not_true (f t.sight) (ok t.sight is), subst (Free f) (sym eu) tt)
      free_B (g.nonterminal s) ok d l c u p = hb s ok d l c u p
      free_B (g.both a b) ok d l c u (inl p) = free_B a ok.0 d l c u p
      free_B (g.both a b) ok d l c u (inr (v, w, x, m, eu, p, q)) = subst (Free f) (sym eu) (free_append f v w (free_D a ok.0 d l c m v x p) (free_B b ok.1 d l m w q))
      free_B (g.either a b) ok d l c u (inl p) = free_B a ok.0 d l c u p
      free_B (g.either a b) ok d l c u (inr p) = free_B b ok.1 d l c u p
      free_B (g.maybe a) ok d l c u (inl eu) = subst (Free f) (sym eu) tt
      free_B (g.maybe a) ok d l c u (inr p) = free_B a ok d l c u p
      free_B (g.many a) ok d l c u (inl eu) = subst (Free f) (sym eu) tt
      free_B (g.many a) ok d l c u (inr (v, w, xs, m, eu, each, q)) = subst (Free f) (sym eu) (free_append f v w (free_each f (Dv a d l) (free_D a ok d l) xs c m v each) (free_B a ok d l m w q))
      free_B (g.then_if a goes b) ok d l c u (inl p) = free_B a ok.0 d l c u p
      free_B (g.then_if a goes b) ok d l c u (inr (v, w, x, m, eu, p, is, q)) = subst (Free f) (sym eu) (free_append f v w (free_D a ok.0 d l c m v x p) (free_B b ok.1 d l m w q))
      free_B (g.when h a) ok d l c u (i, p) = free_B a ok d l c u p
      free_B (g.nest a) ok zero l c u eu = subst (Free f) (sym eu) tt
      free_B (g.nest a) ok (suc d) l c u p = free_B a ok d l c u p
      free_B (g.counts a) ok d l zero u eu = subst (Free f) (sym eu) tt
      free_B (g.counts a) ok d l (suc c) u p = free_B a ok d l c u p
      free_B (g.limited a) ok d l c u p = free_B a ok d l l u p
      free_B (g.gives h a) ok d l c u p = free_B a ok d l c u p

  module _ (clean_rules : (s : S) → clean s ≡ true → Avd (production s)) where
    free_text : (n : ℕ) (s : S) → clean s ≡ true → (d l c e : ℕ) (u : List (Token K V)) (x : Sort s) → Derives K V S Sort production n s d l c e u x → Free f u
    free_text zero s is d l c e u x p = elim p [ ]
    free_text (suc n) s is d l c e u x p = free_D (Derives K V S Sort production n) (free_text n) (production s) (clean_rules s is) d l c e u x p

    free_beginning : (n : ℕ) (s : S) → clean s ≡ true → (d l c : ℕ) (u : List (Token K V)) → ViablePrefix K V S Sort production n s d l c u → Free f u
    free_beginning zero s is d l c u eu = subst (Free f) (sym eu) tt
    free_beginning (suc n) s is d l c u p = free_B (Derives K V S Sort production n) (free_text n) (ViablePrefix K V S Sort production n) (free_beginning n) (production s) (clean_rules s is) d l c u p

    -- such a token stands in no sentence, and in no beginning of one
    pub spelt_free : (s : S) → clean s ≡ true → (budget : Budget) (u : List (Token K V)) (x : Sort s) → Spells K V S Sort production s budget u x → Free f u
    spelt_free s is budget u x (n, e, p) = free_text n s is budget.brackets budget.limit budget.left e u x p

    pub viable_free : (s : S) → clean s ≡ true → (budget : Budget) (u : List (Token K V)) → IsViablePrefix K V S Sort production s budget u → Free f u
    viable_free s is budget u (n, p) = free_beginning n s is budget.brackets budget.limit budget.left u p
