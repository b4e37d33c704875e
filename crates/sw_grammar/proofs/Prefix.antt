-- What begins a sentence begins one as far as it is cut off.
use Rattle.std.proofs.Common.{◌≡◌, ℕ, zero, suc, Bool, true, ◌⊎◌, inl, inr, List, [], ◌∷◌, ◌++◌, Option, Some, None, refl, sym, ap, ◌∙◌, subst, ⊎_elim, append_assoc, append-nil}
use Rattle.sw_grammar.specs.Grammar as g
use Rattle.sw_grammar.specs.Grammar.{Token, Part, Budget, Counted, Each, Then, FirstPasses, Derives_by, Derives, ViablePrefix_by, ViablePrefix, IsViablePrefix, Spells}
use Rattle.sw_grammar.proofs.Grow.{viable_nil_by, viable_nil}

-- two cuts of one list: the first is within the second's prefix, or goes beyond it
abbrev Cut : {T : Type 0} → List T → List T → List T → List T → Type 0
Cut u v a b = ((r : _) × (a ≡ u ++ r)) ⊎ ((r : _) × (u ≡ a ++ r) × (b ≡ r ++ v))

cut : {T : Type 0} (u v a b : List T) → u ++ v ≡ a ++ b → Cut u v a b
cut [] v a b e = inl (a, refl)
cut (x ∷ u) v [] b e = inr (x ∷ u, refl, sym e)
cut (x ∷ u) v (y ∷ a) b e =
    let same : x ≡ y = cc in
    let rest : u ++ v ≡ a ++ b = cc in
    ⊎_elim (λ h. inl (h.0, ap (λ z. z ∷ a) (sym same) ∙ ap (λ l. x ∷ l) h.1)) (λ h. inr (h.0, ap (λ z. z ∷ u) same ∙ ap (λ l. y ∷ l) h.1, h.2)) (cut u v a b rest)

prefix_nil : {T : Type 0} (u v : List T) → u ++ v ≡ [] → u ≡ []
prefix_nil [] v e = refl
prefix_nil (x ∷ u) v e = cc

each_prefix : {T A : Type 0} (D : Counted T A) (B : ℕ → List T → Type 0) → ((c : ℕ) → B c []) → ((c e : ℕ) (u v : List T) (x : A) → D c e (u ++ v) x → B c u)
    → (xs : List A) (c e : ℕ) (u v : List T) → Each D c e (u ++ v) xs → (u ≡ []) ⊎ ((a : List T) × (b : List T) × (ys : List A) × (m : ℕ) × (u ≡ a ++ b) × Each D c m a ys × B m b)
each_prefix D B nil h [] c e u v (eu, ec) = inl (prefix_nil u v eu)
each_prefix {T} {A} D B nil h (x ∷ xs) c e u v (a, b, m, eu, p, q) = ⊎_elim
    (λ k. inr ([], u, [], c, refl, (refl, refl), h c m u k.0 x (subst (λ a. D c m a x) k.1 p)))
    (λ k. ⊎_elim
    (λ z. inr (a, [], x ∷ [], m, k.1 ∙ ap (λ r. a ++ r) z, (a, [], m, sym (append-nil a), p, (refl, refl)), nil m))
    (λ (z : (a' : List T) × (b' : List T) × (ys : List A) × (n : ℕ) × (k.0 ≡ a' ++ b') × Each D m n a' ys × B n b').
    inr (a ++ z.0, z.1, x ∷ z.2, z.3, k.1 ∙ ap (λ r. a ++ r) z.4 ∙ sym (append_assoc a z.0 z.1), (a, z.0, m, refl, p, z.5), z.6))
    (each_prefix D B nil h xs m e k.0 v (subst (λ b. Each D m e b xs) k.2 q)))
    (cut u v a b eu)

heads_prefix : {K V : Type 0} (f : K → Bool) (u v : List (Token K V)) → FirstPasses f (u ++ v) → FirstPasses f u
heads_prefix f [] v h = tt
heads_prefix f (t ∷ u) v h = h

then_prefix : {T A C : Type 0} (D : Counted T A) (E : Counted T C) (goes : A → Bool) (B B' : ℕ → List T → Type 0)
    → ((c e : ℕ) (u v : List T) (x : A) → D c e (u ++ v) x → B c u) → ((c e : ℕ) (u v : List T) (y : C) → E c e (u ++ v) y → B' c u) → (c e : ℕ) (u v : List T) (x : A) (y : Option C) → Then D E goes c e (u ++ v) x y
    → B c u ⊎ ((a : List T) × (b : List T) × (x : A) × (m : ℕ) × (u ≡ a ++ b) × D c m a x × (goes x ≡ true) × B' m b)
then_prefix D E goes B B' h k c e u v x None p = inl (h c e u v x p)
then_prefix D E goes B B' h k c e u v x (Some y) (a, b, m, eu, p, is, q) = ⊎_elim
    (λ s. inl (h c m u s.0 x (subst (λ a. D c m a x) s.1 p)))
    (λ s. inr (a, s.0, x, m, s.1, p, is, k m e s.0 v y (subst (λ b. E m e b y) s.2 q)))
    (cut u v a b eu)

module _ (K V S : Type 0) (Sort : S → Type 0) (production : (s : S) → Part K V S Sort (Sort s)) where
  module _ (D : (s : S) → ℕ → ℕ → ℕ → ℕ → List (Token K V) → Sort s → Type 0) (B : (s : S) → ℕ → ℕ → ℕ → List (Token K V) → Type 0)
      (nil : (s : S) (d l c : ℕ) → B s d l c []) (ht : (s : S) (d l c e : ℕ) (u v : List (Token K V)) (x : Sort s) → D s d l c e (u ++ v) x → B s d l c u) where
    abbrev Dv : {A : Type 0} → Part K V S Sort A → ℕ → ℕ → ℕ → ℕ → List (Token K V) → A → Type 0
    Dv a d l c e u x = Derives_by K V S Sort production D a d l c e u x

    abbrev Bv : {A : Type 0} → Part K V S Sort A → ℕ → ℕ → ℕ → List (Token K V) → Type 0
    Bv a d l c u = ViablePrefix_by K V S Sort production D B a d l c u

    prefix_D : {A : Type 0} (a : Part K V S Sort A) (d l c e : ℕ) (u v : List (Token K V)) (x : A) → Dv a d l c e (u ++ v) x → Bv a d l c u
    prefix_D (g.terminal f) d l c e [] v x p = tt
    prefix_D (g.terminal f) d l c e (t' ∷ u) v x (t, eu, is, ex, ec) = let same : t ≡ t' = cc in let end : u ++ v ≡ [] = cc in (prefix_nil u v end, subst (λ (t : Token K V). f t.sight ≡ true) same is)
    prefix_D (g.nonterminal s) d l c e u v x p = ht s d l c e u v x p
    prefix_D (g.both a b) d l c e u v x (v1, w1, m, eu, p, q) = ⊎_elim
        (λ k. inl (prefix_D a d l c m u k.0 x.0 (subst (λ i. Dv a d l c m i x.0) k.1 p)))
        (λ k. inr (v1, k.0, x.0, m, k.1, p, prefix_D b d l m e k.0 v x.1 (subst (λ i. Dv b d l m e i x.1) k.2 q)))
        (cut u v v1 w1 eu)
    prefix_D (g.either a b) d l c e u v x (inl p) = inl (prefix_D a d l c e u v x p)
    prefix_D (g.either a b) d l c e u v x (inr p) = inr (prefix_D b d l c e u v x p)
    prefix_D (g.maybe a) d l c e u v None (eu, ec) = inl (prefix_nil u v eu)
    prefix_D (g.maybe a) d l c e u v (Some x) p = inr (prefix_D a d l c e u v x p)
    prefix_D (g.many a) d l c e u v xs p = each_prefix (Dv a d l) (Bv a d l) (viable_nil_by K V S Sort production D B nil a d l) (prefix_D a d l) xs c e u v p
    prefix_D (g.then_if a goes b) d l c e u v x p = then_prefix (Dv a d l) (Dv b d l) goes (Bv a d l) (Bv b d l) (prefix_D a d l) (prefix_D b d l) c e u v x.0 x.1 p
    prefix_D (g.when f a) d l c e u v x (hd, p) = (heads_prefix f u v hd, prefix_D a d l c e u v x p)
    prefix_D (g.nest a) zero l c e u v x p = elim p [ ]
    prefix_D (g.nest a) (suc d) l c e u v x p = prefix_D a d l c e u v x p
    prefix_D (g.counts a) d l zero e u v x p = elim p [ ]
    prefix_D (g.counts a) d l (suc c) e u v x p = prefix_D a d l c e u v x p
    prefix_D (g.limited a) d l c e u v x (m, p, ec) = prefix_D a d l l m u v x p
    prefix_D (g.gives f a) d l c e u v y (x, p, ey) = prefix_D a d l c e u v x p

    module _ (hb : (s : S) (d l c : ℕ) (u v : List (Token K V)) → B s d l c (u ++ v) → B s d l c u) where
      prefix_B : {A : Type 0} (a : Part K V S Sort A) (d l c : ℕ) (u v : List (Token K V)) → Bv a d l c (u ++ v) → Bv a d l c u
      prefix_B (g.terminal f) d l c [] v p = tt
      prefix_B (g.terminal f) d l c (t ∷ u) v (eu, is) = (prefix_nil u v eu, is)
      prefix_B (g.nonterminal s) d l c u v p = hb s d l c u v p
      prefix_B (g.both a b) d l c u v (inl p) = inl (prefix_B a d l c u v p)
      prefix_B (g.both a b) d l c u v (inr (v1, w1, x, m, eu, p, q)) = ⊎_elim
          (λ k. inl (prefix_D a d l c m u k.0 x (subst (λ i. Dv a d l c m i x) k.1 p)))
          (λ k. inr (v1, k.0, x, m, k.1, p, prefix_B b d l m k.0 v (subst (Bv b d l m) k.2 q)))
          (cut u v v1 w1 eu)
      prefix_B (g.either a b) d l c u v (inl p) = inl (prefix_B a d l c u v p)
      prefix_B (g.either a b) d l c u v (inr p) = inr (prefix_B b d l c u v p)
      prefix_B (g.maybe a) d l c u v (inl eu) = inl (prefix_nil u v eu)
      prefix_B (g.maybe a) d l c u v (inr p) = inr (prefix_B a d l c u v p)
      prefix_B (g.many a) d l c u v (inl eu) = inl (prefix_nil u v eu)
      prefix_B (g.many a) d l c u v (inr (v1, w1, xs, m, eu, each, q)) = ⊎_elim
          (λ k. prefix_D (g.many a) d l c m u k.0 xs (subst (λ i. Each (Dv a d l) c m i xs) k.1 each))
          (λ k. inr (v1, k.0, xs, m, k.1, each, prefix_B a d l m k.0 v (subst (Bv a d l m) k.2 q)))
          (cut u v v1 w1 eu)
      prefix_B (g.then_if a goes b) d l c u v (inl p) = inl (prefix_B a d l c u v p)
      prefix_B (g.then_if a goes b) d l c u v (inr (v1, w1, x, m, eu, p, is, q)) = ⊎_elim
          (λ k. inl (prefix_D a d l c m u k.0 x (subst (λ i. Dv a d l c m i x) k.1 p)))
          (λ k. inr (v1, k.0, x, m, k.1, p, is, prefix_B b d l m k.0 v (subst (Bv b d l m) k.2 q)))
          (cut u v v1 w1 eu)
      prefix_B (g.when f a) d l c u v (hd, p) = (heads_prefix f u v hd, prefix_B a d l c u v p)
      prefix_B (g.nest a) zero l c u v eu = prefix_nil u v eu
      prefix_B (g.nest a) (suc d) l c u v p = prefix_B a d l c u v p
      prefix_B (g.counts a) d l zero u v eu = prefix_nil u v eu
      prefix_B (g.counts a) d l (suc c) u v p = prefix_B a d l c u v p
      prefix_B (g.limited a) d l c u v p = prefix_B a d l l u v p
      prefix_B (g.gives f a) d l c u v p = prefix_B a d l c u v p

  prefix_text : (n : ℕ) (s : S) (d l c e : ℕ) (u v : List (Token K V)) (x : Sort s) → Derives K V S Sort production n s d l c e (u ++ v) x → ViablePrefix K V S Sort production n s d l c u
  prefix_text zero s d l c e u v x p = elim p [ ]
  prefix_text (suc n) s d l c e u v x p = prefix_D (Derives K V S Sort production n) (ViablePrefix K V S Sort production n) (viable_nil K V S Sort production n) (prefix_text n) (production s) d l c e u v x p

  prefix_viable : (n : ℕ) (s : S) (d l c : ℕ) (u v : List (Token K V)) → ViablePrefix K V S Sort production n s d l c (u ++ v) → ViablePrefix K V S Sort production n s d l c u
  prefix_viable zero s d l c u v eu = prefix_nil u v eu
  prefix_viable (suc n) s d l c u v p = prefix_B (Derives K V S Sort production n) (ViablePrefix K V S Sort production n) (viable_nil K V S Sort production n) (prefix_text n) (prefix_viable n) (production s) d l c u v p

  -- what begins a sentence begins one as far as it is cut off
  pub viable_prefix : (s : S) (budget : Budget) (u v : List (Token K V)) → IsViablePrefix K V S Sort production s budget (u ++ v) → IsViablePrefix K V S Sort production s budget u
  viable_prefix s budget u v (n, p) = (n, prefix_viable n s budget.brackets budget.limit budget.left u v p)

  -- the prefix of a sentence begins one
  pub spelt_prefix : (s : S) (budget : Budget) (u v : List (Token K V)) (x : Sort s) → Spells K V S Sort production s budget (u ++ v) x → IsViablePrefix K V S Sort production s budget u
  spelt_prefix s budget u v x (n, e, p) = (n, prefix_text n s budget.brackets budget.limit budget.left e u v x p)
