-- Derivations of whatever heights: a part that is derived by some of them is derived by those of one height.
use Rattle.std.proofs.Common.{◌≡◌, ◌≤◌, ℕ, zero, suc, ◌+◌, Bool, inl, inr, List, [], ◌∷◌, Option, Some, None, subst, arith}
use Rattle.sw_grammar.specs.Grammar as g
use Rattle.sw_grammar.specs.Grammar.{Token, Part, Counted, Each, Then, Derives_by, Derives}
use Rattle.sw_grammar.proofs.Grow.{grow_part}

module _ (K V S : Type 0) (Sort : S → Type 0) (production : (s : S) → Part K V S Sort (Sort s)) where
  -- by a derivation of some height
  abbrev pub Derived : (s : S) → ℕ → ℕ → ℕ → ℕ → List (Token K V) → Sort s → Type 0
  Derived s d l c e u x = (n : ℕ) × Derives K V S Sort production n s d l c e u x

  abbrev By : ℕ → {A : Type 0} → Part K V S Sort A → ℕ → ℕ → Counted (Token K V) A
  By n a d l c e u x = Derives_by K V S Sort production (Derives K V S Sort production n) a d l c e u x

  abbrev BySome : {A : Type 0} → Part K V S Sort A → ℕ → ℕ → Counted (Token K V) A
  BySome a d l c e u x = Derives_by K V S Sort production Derived a d l c e u x

  up_part : (n m : ℕ) → n ≤ m → {A : Type 0} (a : Part K V S Sort A) (d l c e : ℕ) (u : List (Token K V)) (x : A) → By n a d l c e u x → By m a d l c e u x
  up_part n m le a d l c e u x p =
      let (e', same, q) = grow_part K V S Sort production n m le a d l c e u x p d l c (omega arith) (omega arith) (omega arith) in
      let here : e' ≡ e = omega (arith, same) in
      subst (λ e. By m a d l c e u x) here q

  abbrev One : {A : Type 0} → Counted (Token K V) A → (ℕ → Counted (Token K V) A) → Type 0
  One {A} D E = (c e : ℕ) (u : List (Token K V)) (x : A) → D c e u x → (n : ℕ) × E n c e u x

  abbrev Rises : {A : Type 0} → (ℕ → Counted (Token K V) A) → Type 0
  Rises {A} E = (n m : ℕ) → n ≤ m → (c e : ℕ) (u : List (Token K V)) (x : A) → E n c e u x → E m c e u x

  each_rises : {A : Type 0} (E : ℕ → Counted (Token K V) A) → Rises E → (n m : ℕ) → n ≤ m → (xs : List A) (c e : ℕ) (u : List (Token K V)) → Each (E n) c e u xs → Each (E m) c e u xs
  each_rises E r n m le [] c e u p = p
  each_rises E r n m le (x ∷ xs) c e u (v, w, i, eu, p, q) = (v, w, i, eu, r n m le c i v x p, each_rises E r n m le xs i e w q)

  one_each : {A : Type 0} (D : Counted (Token K V) A) (E : ℕ → Counted (Token K V) A) → Rises E → One D E → (xs : List A) (c e : ℕ) (u : List (Token K V)) → Each D c e u xs → (n : ℕ) × Each (E n) c e u xs
  one_each D E r k [] c e u p = (zero, p)
  one_each D E r k (x ∷ xs) c e u (v, w, i, eu, p, q) =
      let (n, p') = k c i v x p in
      let (m, q') = one_each D E r k xs i e w q in
      (n + m, (v, w, i, eu, r n (n + m) (omega arith) c i v x p', each_rises E r m (n + m) (omega arith) xs i e w q'))

  one_then : {A C : Type 0} (D : Counted (Token K V) A) (E : ℕ → Counted (Token K V) A) (F : Counted (Token K V) C) (G : ℕ → Counted (Token K V) C) (goes : A → Bool) → Rises E → Rises G → One D E → One F G
      → (c e : ℕ) (u : List (Token K V)) (x : A) (y : Option C) → Then D F goes c e u x y → (n : ℕ) × Then (E n) (G n) goes c e u x y
  one_then D E F G goes r s k j c e u x None p = k c e u x p
  one_then D E F G goes r s k j c e u x (Some y) (v, w, i, eu, p, is, q) =
      let (n, p') = k c i v x p in
      let (m, q') = j i e w y q in
      (n + m, (v, w, i, eu, r n (n + m) (omega arith) c i v x p', is, s m (n + m) (omega arith) i e w y q'))

  rises : {A : Type 0} (a : Part K V S Sort A) (d l : ℕ) → Rises (λ n. By n a d l)
  rises a d l n m le c e u x p = up_part n m le a d l c e u x p

  gathered : {A : Type 0} (a : Part K V S Sort A) (d l : ℕ) → One (BySome a d l) (λ n. By n a d l)
  gathered (g.terminal f) d l c e u x p = (zero, p)
  gathered (g.nonterminal s) d l c e u x p = p
  gathered (g.both a b) d l c e u x (v, w, i, eu, p, q) =
      let (n, p') = gathered a d l c i v x.0 p in
      let (m, q') = gathered b d l i e w x.1 q in
      (n + m, (v, w, i, eu, up_part n (n + m) (omega arith) a d l c i v x.0 p', up_part m (n + m) (omega arith) b d l i e w x.1 q'))
  gathered (g.either a b) d l c e u x (inl p) = let (n, q) = gathered a d l c e u x p in (n, inl q)
  gathered (g.either a b) d l c e u x (inr p) = let (n, q) = gathered b d l c e u x p in (n, inr q)
  gathered (g.maybe a) d l c e u None p = (zero, p)
  gathered (g.maybe a) d l c e u (Some x) p = gathered a d l c e u x p
  gathered (g.many a) d l c e u xs p = one_each (BySome a d l) (λ n. By n a d l) (rises a d l) (gathered a d l) xs c e u p
  gathered (g.then_if a goes b) d l c e u x p = one_then (BySome a d l) (λ n. By n a d l) (BySome b d l) (λ n. By n b d l) goes (rises a d l) (rises b d l) (gathered a d l) (gathered b d l) c e u x.0 x.1 p
  gathered (g.when f a) d l c e u x (h, p) = let (n, q) = gathered a d l c e u x p in (n, (h, q))
  gathered (g.nest a) zero l c e u x p = elim p [ ]
  gathered (g.nest a) (suc d) l c e u x p = gathered a d l c e u x p
  gathered (g.counts a) d l zero e u x p = elim p [ ]
  gathered (g.counts a) d l (suc c) e u x p = gathered a d l c e u x p
  gathered (g.limited a) d l c e u x (i, p, h) = let (n, q) = gathered a d l l i u x p in (n, (i, q, h))
  gathered (g.gives f a) d l c e u y (x, p, h) = let (n, q) = gathered a d l c e u x p in (n, (x, q, h))

  -- a sentence of a nonterminal's production is one of the nonterminal
  pub derived : (s : S) (d l c e : ℕ) (u : List (Token K V)) (x : Sort s) → BySome (production s) d l c e u x → Derived s d l c e u x
  derived s d l c e u x p = let (n, q) = gathered (production s) d l c e u x p in (suc n, q)
