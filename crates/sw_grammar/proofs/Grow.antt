-- What is derived or begun within a budget is so in each larger budget, and by each larger height.
use Rattle.std.proofs.Common.{◌≡◌, ◌≤◌, ◌+◌, inl, inr, ℕ, zero, suc, Bool, List, [], ◌∷◌, Option, Some, None, refl, sym, ap, subst, arith}
use Rattle.sw_grammar.specs.Grammar as g
use Rattle.sw_grammar.specs.Grammar.{Token, Part, Budget, IsWithin, Counted, Each, Then, FirstPasses, Derives_by, Derives, ViablePrefix_by, ViablePrefix, Spells, IsViablePrefix}

-- what was left after a sentence grows as what was left before it
abbrev pub Grown : (ℕ → Type 0) → ℕ → ℕ → ℕ → Type 0
Grown D c0 e0 c = (e : ℕ) × (c + e0 ≡ e + c0) × D e

-- a sentence is one for each larger count
abbrev pub Grows : {T A : Type 0} → Counted T A → Counted T A → Type 0
Grows {T} {A} D D' = (c0 e0 : ℕ) (u : List T) (x : A) → D c0 e0 u x → (c : ℕ) → c0 ≤ c → Grown (λ e. D' c e u x) c0 e0 c

same_left : (c0 e0 c : ℕ) → e0 ≡ c0 → c + e0 ≡ c + c0
same_left c0 e0 c h = ap (λ n. c + n) h

grow_each : {T A : Type 0} (D D' : Counted T A) → Grows D D' → (xs : List A) (c0 e0 : ℕ) (u : List T) → Each D c0 e0 u xs → (c : ℕ) → c0 ≤ c → Grown (λ e. Each D' c e u xs) c0 e0 c
grow_each D D' h [] c0 e0 u (eu, ec) c le = (c, same_left c0 e0 c ec, (eu, refl))
grow_each D D' h (x ∷ xs) c0 e0 u (v, w, m0, eu, p, q) c le =
    let (m, gm, p') = h c0 m0 v x p c le in
    let (e, ge, q') = grow_each D D' h xs m0 e0 w q m (omega (arith, gm, le)) in
    (e, omega (arith, gm, ge), (v, w, m, eu, p', q'))

grow_then : {T A B : Type 0} (D D' : Counted T A) (E E' : Counted T B) (goes : A → Bool) → Grows D D' → Grows E E'
    → (c0 e0 : ℕ) (u : List T) (x : A) (y : Option B) → Then D E goes c0 e0 u x y → (c : ℕ) → c0 ≤ c → Grown (λ e. Then D' E' goes c e u x y) c0 e0 c
grow_then D D' E E' goes h k c0 e0 u x None p c le = h c0 e0 u x p c le
grow_then D D' E E' goes h k c0 e0 u x (Some y) (v, w, m0, eu, p, is, q) c le =
    let (m, gm, p') = h c0 m0 v x p c le in
    let (e, ge, q') = k m0 e0 w y q m (omega (arith, gm, le)) in
    (e, omega (arith, gm, ge), (v, w, m, eu, p', is, q'))

module _ (K V S : Type 0) (Sort : S → Type 0) (production : (s : S) → Part K V S Sort (Sort s)) where
  abbrev pub Deriving : Type 1
  Deriving = (s : S) → ℕ → ℕ → ℕ → ℕ → List (Token K V) → Sort s → Type 0

  abbrev pub Beginning : Type 1
  Beginning = (s : S) → ℕ → ℕ → ℕ → List (Token K V) → Type 0

  abbrev Dv : Deriving → {A : Type 0} → Part K V S Sort A → ℕ → ℕ → ℕ → ℕ → List (Token K V) → A → Type 0
  Dv D a d l c e u x = Derives_by K V S Sort production D a d l c e u x

  abbrev Bv : Deriving → Beginning → {A : Type 0} → Part K V S Sort A → ℕ → ℕ → ℕ → List (Token K V) → Type 0
  Bv D B a d l c u = ViablePrefix_by K V S Sort production D B a d l c u

  -- no token begins a sentence of anything
  pub viable_nil_by : (D : Deriving) (B : Beginning) → ((s : S) (d l c : ℕ) → B s d l c []) → {A : Type 0} (a : Part K V S Sort A) (d l c : ℕ) → Bv D B a d l c []
  viable_nil_by D B h (g.terminal f) d l c = tt
  viable_nil_by D B h (g.nonterminal s) d l c = h s d l c
  viable_nil_by D B h (g.both a b) d l c = inl (viable_nil_by D B h a d l c)
  viable_nil_by D B h (g.either a b) d l c = inl (viable_nil_by D B h a d l c)
  viable_nil_by D B h (g.maybe a) d l c = inl refl
  viable_nil_by D B h (g.many a) d l c = inl refl
  viable_nil_by D B h (g.then_if a goes b) d l c = inl (viable_nil_by D B h a d l c)
  viable_nil_by D B h (g.when f a) d l c = (tt, viable_nil_by D B h a d l c)
  viable_nil_by D B h (g.nest a) zero l c = refl
  viable_nil_by D B h (g.nest a) (suc d) l c = viable_nil_by D B h a d l c
  viable_nil_by D B h (g.counts a) d l zero = refl
  viable_nil_by D B h (g.counts a) d l (suc c) = viable_nil_by D B h a d l c
  viable_nil_by D B h (g.limited a) d l c = viable_nil_by D B h a d l l
  viable_nil_by D B h (g.gives f a) d l c = viable_nil_by D B h a d l c

  pub viable_nil : (n : ℕ) (s : S) (d l c : ℕ) → ViablePrefix K V S Sort production n s d l c []
  viable_nil zero s d l c = refl
  viable_nil (suc n) s d l c = viable_nil_by (Derives K V S Sort production n) (ViablePrefix K V S Sort production n) (viable_nil n) (production s) d l c

  -- for each nonterminal: what D derives, D' does in each larger budget
  abbrev GrowsIn : Deriving → Deriving → Type 0
  GrowsIn D D' = (s : S) (d0 l0 c0 e0 : ℕ) (u : List (Token K V)) (x : Sort s) → D s d0 l0 c0 e0 u x → (d l c : ℕ) → d0 ≤ d → l0 ≤ l → c0 ≤ c → Grown (λ e. D' s d l c e u x) c0 e0 c

  module _ (D D' : Deriving) (h : GrowsIn D D') where
    grow_by : {A : Type 0} (a : Part K V S Sort A) (d0 l0 c0 e0 : ℕ) (u : List (Token K V)) (x : A) → Dv D a d0 l0 c0 e0 u x → (d l c : ℕ) → d0 ≤ d → l0 ≤ l → c0 ≤ c → Grown (λ e. Dv D' a d l c e u x) c0 e0 c
    grow_by (g.terminal f) d0 l0 c0 e0 u x (t, eu, is, ex, ec) d l c hd hl hc = (c, same_left c0 e0 c ec, (t, eu, is, ex, refl))
    grow_by (g.nonterminal s) d0 l0 c0 e0 u x p d l c hd hl hc = h s d0 l0 c0 e0 u x p d l c hd hl hc
    grow_by (g.both a b) d0 l0 c0 e0 u x (v, w, m0, eu, p, q) d l c hd hl hc =
        let (m, gm, p') = grow_by a d0 l0 c0 m0 v x.0 p d l c hd hl hc in
        let (e, ge, q') = grow_by b d0 l0 m0 e0 w x.1 q d l m hd hl (omega (arith, gm, hc)) in
        (e, omega (arith, gm, ge), (v, w, m, eu, p', q'))
    grow_by (g.either a b) d0 l0 c0 e0 u x (inl p) d l c hd hl hc = let (e, ge, p') = grow_by a d0 l0 c0 e0 u x p d l c hd hl hc in (e, ge, inl p')
    grow_by (g.either a b) d0 l0 c0 e0 u x (inr p) d l c hd hl hc = let (e, ge, p') = grow_by b d0 l0 c0 e0 u x p d l c hd hl hc in (e, ge, inr p')
    grow_by (g.maybe a) d0 l0 c0 e0 u None (eu, ec) d l c hd hl hc = (c, same_left c0 e0 c ec, (eu, refl))
    grow_by (g.maybe a) d0 l0 c0 e0 u (Some x) p d l c hd hl hc = grow_by a d0 l0 c0 e0 u x p d l c hd hl hc
    grow_by (g.many a) d0 l0 c0 e0 u xs p d l c hd hl hc = grow_each (Dv D a d0 l0) (Dv D' a d l) (λ c0 e0 u x p c le. grow_by a d0 l0 c0 e0 u x p d l c hd hl le) xs c0 e0 u p c hc
    grow_by (g.then_if a goes b) d0 l0 c0 e0 u x p d l c hd hl hc =
        grow_then (Dv D a d0 l0) (Dv D' a d l) (Dv D b d0 l0) (Dv D' b d l) goes (λ c0 e0 u x p c le. grow_by a d0 l0 c0 e0 u x p d l c hd hl le) (λ c0 e0 u x p c le. grow_by b d0 l0 c0 e0 u x p d l c hd hl le) c0 e0 u x.0 x.1 p c hc
    grow_by (g.when f a) d0 l0 c0 e0 u x (is, p) d l c hd hl hc = let (e, ge, p') = grow_by a d0 l0 c0 e0 u x p d l c hd hl hc in (e, ge, (is, p'))
    grow_by (g.nest a) zero l0 c0 e0 u x p d l c hd hl hc = elim p [ ]
    grow_by (g.nest a) (suc d0) l0 c0 e0 u x p zero l c hd hl hc = absurd (omega (arith, hd))
    grow_by (g.nest a) (suc d0) l0 c0 e0 u x p (suc d) l c hd hl hc = grow_by a d0 l0 c0 e0 u x p d l c (omega (arith, hd)) hl hc
    grow_by (g.counts a) d0 l0 zero e0 u x p d l c hd hl hc = elim p [ ]
    grow_by (g.counts a) d0 l0 (suc c0) e0 u x p d l zero hd hl hc = absurd (omega (arith, hc))
    grow_by (g.counts a) d0 l0 (suc c0) e0 u x p d l (suc c) hd hl hc =
        let (e, ge, p') = grow_by a d0 l0 c0 e0 u x p d l c hd hl (omega (arith, hc)) in (e, omega (arith, ge), p')
    grow_by (g.limited a) d0 l0 c0 e0 u x (m0, p, ec) d l c hd hl hc =
        let (m, gm, p') = grow_by a d0 l0 l0 m0 u x p d l l hd hl hl in (c, same_left c0 e0 c ec, (m, p', refl))
    grow_by (g.gives f a) d0 l0 c0 e0 u y (x, p, ey) d l c hd hl hc = let (e, ge, p') = grow_by a d0 l0 c0 e0 u x p d l c hd hl hc in (e, ge, (x, p', ey))

    module _ (B B' : Beginning) (nil : (s : S) (d l c : ℕ) → B' s d l c [])
        (k : (s : S) (d0 l0 c0 : ℕ) (u : List (Token K V)) → B s d0 l0 c0 u → (d l c : ℕ) → d0 ≤ d → l0 ≤ l → c0 ≤ c → B' s d l c u) where
      grow_b : {A : Type 0} (a : Part K V S Sort A) (d0 l0 c0 : ℕ) (u : List (Token K V)) → Bv D B a d0 l0 c0 u → (d l c : ℕ) → d0 ≤ d → l0 ≤ l → c0 ≤ c → Bv D' B' a d l c u
      grow_b (g.terminal f) d0 l0 c0 [] p d l c hd hl hc = tt
      grow_b (g.terminal f) d0 l0 c0 (t ∷ u) p d l c hd hl hc = p
      grow_b (g.nonterminal s) d0 l0 c0 u p d l c hd hl hc = k s d0 l0 c0 u p d l c hd hl hc
      grow_b (g.both a b) d0 l0 c0 u (inl p) d l c hd hl hc = inl (grow_b a d0 l0 c0 u p d l c hd hl hc)
      grow_b (g.both a b) d0 l0 c0 u (inr (v, w, x, m0, eu, p, q)) d l c hd hl hc =
          let (m, gm, p') = grow_by a d0 l0 c0 m0 v x p d l c hd hl hc in
          inr (v, w, x, m, eu, p', grow_b b d0 l0 m0 w q d l m hd hl (omega (arith, gm, hc)))
      grow_b (g.either a b) d0 l0 c0 u (inl p) d l c hd hl hc = inl (grow_b a d0 l0 c0 u p d l c hd hl hc)
      grow_b (g.either a b) d0 l0 c0 u (inr p) d l c hd hl hc = inr (grow_b b d0 l0 c0 u p d l c hd hl hc)
      grow_b (g.maybe a) d0 l0 c0 u (inl eu) d l c hd hl hc = inl eu
      grow_b (g.maybe a) d0 l0 c0 u (inr p) d l c hd hl hc = inr (grow_b a d0 l0 c0 u p d l c hd hl hc)
      grow_b (g.many a) d0 l0 c0 u (inl eu) d l c hd hl hc = inl eu
      grow_b (g.many a) d0 l0 c0 u (inr (v, w, xs, m0, eu, each, q)) d l c hd hl hc =
          let (m, gm, each') = grow_by (g.many a) d0 l0 c0 m0 v xs each d l c hd hl hc in
          inr (v, w, xs, m, eu, each', grow_b a d0 l0 m0 w q d l m hd hl (omega (arith, gm, hc)))
      grow_b (g.then_if a goes b) d0 l0 c0 u (inl p) d l c hd hl hc = inl (grow_b a d0 l0 c0 u p d l c hd hl hc)
      grow_b (g.then_if a goes b) d0 l0 c0 u (inr (v, w, x, m0, eu, p, is, q)) d l c hd hl hc =
          let (m, gm, p') = grow_by a d0 l0 c0 m0 v x p d l c hd hl hc in
          inr (v, w, x, m, eu, p', is, grow_b b d0 l0 m0 w q d l m hd hl (omega (arith, gm, hc)))
      grow_b (g.when f a) d0 l0 c0 u (is, p) d l c hd hl hc = (is, grow_b a d0 l0 c0 u p d l c hd hl hc)
      grow_b (g.nest a) zero l0 c0 u eu d l c hd hl hc = subst (Bv D' B' (g.nest a) d l c) (sym eu) (viable_nil_by D' B' nil (g.nest a) d l c)
      grow_b (g.nest a) (suc d0) l0 c0 u p zero l c hd hl hc = absurd (omega (arith, hd))
      grow_b (g.nest a) (suc d0) l0 c0 u p (suc d) l c hd hl hc = grow_b a d0 l0 c0 u p d l c (omega (arith, hd)) hl hc
      grow_b (g.counts a) d0 l0 zero u eu d l c hd hl hc = subst (Bv D' B' (g.counts a) d l c) (sym eu) (viable_nil_by D' B' nil (g.counts a) d l c)
      grow_b (g.counts a) d0 l0 (suc c0) u p d l zero hd hl hc = absurd (omega (arith, hc))
      grow_b (g.counts a) d0 l0 (suc c0) u p d l (suc c) hd hl hc = grow_b a d0 l0 c0 u p d l c hd hl (omega (arith, hc))
      grow_b (g.limited a) d0 l0 c0 u p d l c hd hl hc = grow_b a d0 l0 l0 u p d l l hd hl hl
      grow_b (g.gives f a) d0 l0 c0 u p d l c hd hl hc = grow_b a d0 l0 c0 u p d l c hd hl hc

  -- ---- heights

  abbrev Dn : ℕ → Deriving
  Dn n = Derives K V S Sort production n

  abbrev Bn : ℕ → Beginning
  Bn n = ViablePrefix K V S Sort production n

  pub grow : (n m : ℕ) → n ≤ m → GrowsIn (Dn n) (Dn m)
  grow zero m le s d0 l0 c0 e0 u x p d l c hd hl hc = elim p [ ]
  grow (suc n) zero le s d0 l0 c0 e0 u x p d l c hd hl hc = absurd (omega (arith, le))
  grow (suc n) (suc m) le s d0 l0 c0 e0 u x p d l c hd hl hc = grow_by (Dn n) (Dn m) (grow n m (omega (arith, le))) (production s) d0 l0 c0 e0 u x p d l c hd hl hc

  pub grow_part : (n m : ℕ) → n ≤ m → {A : Type 0} (a : Part K V S Sort A) (d0 l0 c0 e0 : ℕ) (u : List (Token K V)) (x : A) → Dv (Dn n) a d0 l0 c0 e0 u x → (d l c : ℕ) → d0 ≤ d → l0 ≤ l → c0 ≤ c → Grown (λ e. Dv (Dn m) a d l c e u x) c0 e0 c
  grow_part n m le a = grow_by (Dn n) (Dn m) (grow n m le) a

  pub grow_viable : (n m : ℕ) → n ≤ m → (s : S) (d0 l0 c0 : ℕ) (u : List (Token K V)) → Bn n s d0 l0 c0 u → (d l c : ℕ) → d0 ≤ d → l0 ≤ l → c0 ≤ c → Bn m s d l c u
  grow_viable zero m le s d0 l0 c0 u eu d l c hd hl hc = subst (Bn m s d l c) (sym eu) (viable_nil m s d l c)
  grow_viable (suc n) zero le s d0 l0 c0 u p d l c hd hl hc = absurd (omega (arith, le))
  grow_viable (suc n) (suc m) le s d0 l0 c0 u p d l c hd hl hc =
      grow_b (Dn n) (Dn m) (grow n m (omega (arith, le))) (Bn n) (Bn m) (viable_nil m) (grow_viable n m (omega (arith, le))) (production s) d0 l0 c0 u p d l c hd hl hc

  pub grow_viable_part : (n m : ℕ) → n ≤ m → {A : Type 0} (a : Part K V S Sort A) (d0 l0 c0 : ℕ) (u : List (Token K V)) → Bv (Dn n) (Bn n) a d0 l0 c0 u → (d l c : ℕ) → d0 ≤ d → l0 ≤ l → c0 ≤ c → Bv (Dn m) (Bn m) a d l c u
  grow_viable_part n m le a = grow_b (Dn n) (Dn m) (grow n m le) (Bn n) (Bn m) (viable_nil m) (grow_viable n m le) a

  -- more height changes nothing
  pub up : (n m : ℕ) → n ≤ m → (s : S) (d l c e : ℕ) (u : List (Token K V)) (x : Sort s) → Dn n s d l c e u x → Dn m s d l c e u x
  up n m le s d l c e u x p =
      let (e', ge, p') = grow n m le s d l c e u x p d l c (omega arith) (omega arith) (omega arith) in
      let same : e' ≡ e = omega (arith, ge) in
      subst (λ e. Dn m s d l c e u x) same p'

  pub up_viable : (n m : ℕ) → n ≤ m → (s : S) (d l c : ℕ) (u : List (Token K V)) → Bn n s d l c u → Bn m s d l c u
  up_viable n m le s d l c u p = grow_viable n m le s d l c u p d l c (omega arith) (omega arith) (omega arith)

  -- a sentence is one in each larger budget, and what begins one does
  pub spelt_larger : (s : S) (r r' : Budget) (u : List (Token K V)) (x : Sort s) → IsWithin r r' → Spells K V S Sort production s r u x → Spells K V S Sort production s r' u x
  spelt_larger s r r' u x le (n, e, p) =
      let (e', ge, p') = grow n n (omega arith) s r.brackets r.limit r.left e u x p r'.brackets r'.limit r'.left le.0 le.2 le.1 in (n, e', p')

  pub viable_larger : (s : S) (r r' : Budget) (u : List (Token K V)) → IsWithin r r' → IsViablePrefix K V S Sort production s r u → IsViablePrefix K V S Sort production s r' u
  viable_larger s r r' u le (n, p) = (n, grow_viable n n (omega arith) s r.brackets r.limit r.left u p r'.brackets r'.limit r'.left le.0 le.2 le.1)
