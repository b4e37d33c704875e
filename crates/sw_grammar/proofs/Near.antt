-- Runs that are alike up to what the faces of their tokens tell apart spell values that are near each other.
use Rattle.std.proofs.Common.{◌≡◌, ℕ, zero, suc, Bool, ◌⊎◌, inl, inr, List, [], ◌∷◌, ◌++◌, map, Option, Some, None, refl, sym, ap, ◌∙◌, subst}
use Rattle.sw_grammar.specs.Grammar as g
use Rattle.sw_grammar.specs.Grammar.{Token, Part, Budget, Counted, Each, Then, FirstPasses, Derives_by, Derives, Spells}

-- ---- runs that are alike, cut where one of them is cut

cons_same : {T : Type 0} (a b : T) (u v : List T) → a ≡ b → u ≡ v → (a ∷ u) ≡ (b ∷ v)
cons_same a b u v p q = cc

first_same : {T : Type 0} (a b : T) (u v : List T) → (a ∷ u) ≡ (b ∷ v) → a ≡ b
first_same a b u v h = cc

rest_same : {T : Type 0} (a b : T) (u v : List T) → (a ∷ u) ≡ (b ∷ v) → u ≡ v
rest_same a b u v h = cc

nothing : {T : Type 0} (strip : T → T) (u : List T) → map strip [] ≡ map strip u → u ≡ []
nothing strip [] h = refl
nothing strip (t ∷ u) h = cc

split : {T : Type 0} (strip : T → T) (v w u : List T) → map strip (v ++ w) ≡ map strip u
    → (v' : List T) × (w' : List T) × (u ≡ v' ++ w') × (map strip v ≡ map strip v') × (map strip w ≡ map strip w')
split strip [] w u h = ([], u, refl, refl, h)
split strip (t ∷ v) w [] h = cc
split strip (t ∷ v) w (t' ∷ u) h =
    let (v', w', e, p, q) = split strip v w u (rest_same _ _ _ _ h) in
    (t' ∷ v', w', ap (λ l. t' ∷ l) e, cons_same _ _ _ _ (first_same _ _ _ _ h) p, q)

one_same : {T : Type 0} (strip : T → T) (t : T) (u : List T) → map strip (t ∷ []) ≡ map strip u → (t' : T) × (u ≡ t' ∷ []) × (strip t ≡ strip t')
one_same strip t [] h = cc
one_same strip t (t' ∷ u) h = (t', ap (λ l. t' ∷ l) (nothing strip u (rest_same _ _ _ _ h)), first_same _ _ _ _ h)

heads_same : {K V : Type 0} (strip : Token K V → Token K V) (f : K → Bool) → ((t t' : Token K V) → strip t ≡ strip t' → t.sight ≡ t'.sight) → (u u' : List (Token K V)) → map strip u ≡ map strip u' → FirstPasses f u → FirstPasses f u'
heads_same strip f k u [] h p = tt
heads_same strip f k [] (t ∷ u') h p = cc
heads_same strip f k (t ∷ u) (t' ∷ u') h p = ap f (sym (k t t' (first_same _ _ _ _ h))) ∙ p

abbrev pub LikeOption : {A : Type 0} → (A → A → Type 0) → Option A → Option A → Type 0
LikeOption L None None = Unit {0}
LikeOption L None (Some y) = ⊥
LikeOption L (Some x) None = ⊥
LikeOption L (Some x) (Some y) = L x y

abbrev pub LikeList : {A : Type 0} → (A → A → Type 0) → List A → List A → Type 0
LikeList L [] [] = Unit {0}
LikeList L [] (y ∷ ys) = ⊥
LikeList L (x ∷ xs) [] = ⊥
LikeList L (x ∷ xs) (y ∷ ys) = L x y × LikeList L xs ys

-- what a run derives, each run that is alike derives, up to what is like it
abbrev Follows : {T A : Type 0} → (T → T) → (A → A → Type 0) → Counted T A → Type 0
Follows {T} {A} strip L D = (c e : ℕ) (u u' : List T) (x : A) → map strip u ≡ map strip u' → D c e u x → (x' : A) × L x x' × D c e u' x'

follow_each : {T A : Type 0} (strip : T → T) (L : A → A → Type 0) (D : Counted T A) → Follows strip L D → (xs : List A) (c e : ℕ) (u u' : List T) → map strip u ≡ map strip u' → Each D c e u xs
    → (ys : List A) × LikeList L xs ys × Each D c e u' ys
follow_each strip L D f [] c e u u' h (eu, ec) = ([], tt, (nothing strip u' (ap (map strip) (sym eu) ∙ h), ec))
follow_each strip L D f (x ∷ xs) c e u u' h (v, w, m, eu, p, q) =
    let (v', w', eu', hv, hw) = split strip v w u' (ap (map strip) (sym eu) ∙ h) in
    let (y, like, p') = f c m v v' x hv p in
    let (ys, likes, q') = follow_each strip L D f xs m e w w' hw q in
    (y ∷ ys, (like, likes), (v', w', m, eu', p', q'))

follow_then : {T A C : Type 0} (strip : T → T) (L : A → A → Type 0) (K : C → C → Type 0) (D : Counted T A) (E : Counted T C) (goes : A → Bool) → ((x y : A) → L x y → goes x ≡ goes y) → Follows strip L D → Follows strip K E
    → (c e : ℕ) (u u' : List T) (x : A) (z : Option C) → map strip u ≡ map strip u' → Then D E goes c e u x z
    → (yz : A × Option C) × (L x yz.0 × LikeOption K z yz.1) × Then D E goes c e u' yz.0 yz.1
follow_then strip L K D E goes same f k c e u u' x None h p = let (y, like, p') = f c e u u' x h p in ((y, None), (like, tt), p')
follow_then strip L K D E goes same f k c e u u' x (Some z) h (v, w, m, eu, p, is, q) =
    let (v', w', eu', hv, hw) = split strip v w u' (ap (map strip) (sym eu) ∙ h) in
    let (y, like, p') = f c m v v' x hv p in
    let (z', like', q') = k m e w w' z hw q in
    ((y, Some z'), (like, like'), (v', w', m, eu', p', sym (same x y like) ∙ is, q'))

module _ (K V S : Type 0) (Sort : S → Type 0) (production : (s : S) → Part K V S Sort (Sort s)) (strip : (Token K V) → (Token K V))
    (NearFace : V → V → Type 0) (Near : (s : S) → Sort s → Sort s → Type 0) where
  -- made in the same way of faces and trees that are near each other
  abbrev pub Like : {A : Type 0} → Part K V S Sort A → A → A → Type 0
  Like (g.terminal f) x y = NearFace x y
  Like (g.nonterminal s) x y = Near s x y
  Like (g.both a b) x y = Like a x.0 y.0 × Like b x.1 y.1
  Like (g.either a b) x y = Like a x y ⊎ Like b x y
  Like (g.maybe a) x y = LikeOption (Like a) x y
  Like (g.many a) x y = LikeList (Like a) x y
  Like (g.then_if a goes b) x y = Like a x.0 y.0 × LikeOption (Like b) x.1 y.1
  Like (g.when f a) x y = Like a x y
  Like (g.nest a) x y = Like a x y
  Like (g.counts a) x y = Like a x y
  Like (g.limited a) x y = Like a x y
  Like (g.gives {A} f a) x y = (x' : A) × (y' : A) × Like a x' y' × (x ≡ f x') × (y ≡ f y')

  -- the tests of values do not tell them apart
  abbrev pub Steady : {A : Type 0} → Part K V S Sort A → Type 0
  Steady (g.terminal f) = Unit {0}
  Steady (g.nonterminal s) = Unit {0}
  Steady (g.both a b) = Steady a × Steady b
  Steady (g.either a b) = Steady a × Steady b
  Steady (g.maybe a) = Steady a
  Steady (g.many a) = Steady a
  Steady (g.then_if {A} a goes b) = ((x y : A) → Like a x y → goes x ≡ goes y) × Steady a × Steady b
  Steady (g.when f a) = Steady a
  Steady (g.nest a) = Steady a
  Steady (g.counts a) = Steady a
  Steady (g.limited a) = Steady a
  Steady (g.gives f a) = Steady a

  abbrev Dv : ((s : S) → ℕ → ℕ → ℕ → ℕ → List (Token K V) → Sort s → Type 0) → {A : Type 0} → Part K V S Sort A → ℕ → ℕ → ℕ → ℕ → List (Token K V) → A → Type 0
  Dv D a d l c e u x = Derives_by K V S Sort production D a d l c e u x

  -- tokens that are alike have one sight, and faces that are near each other
  module _ (token_near : (t t' : Token K V) → strip t ≡ strip t' → (t.sight ≡ t'.sight) × NearFace t.face t'.face) where
    sight_same : (t t' : Token K V) → strip t ≡ strip t' → t.sight ≡ t'.sight
    sight_same t t' h = (token_near t t' h).0

    follow_by : (D : (s : S) → ℕ → ℕ → ℕ → ℕ → List (Token K V) → Sort s → Type 0) → ((s : S) (d l : ℕ) → Follows strip (Near s) (D s d l))
        → {A : Type 0} (a : Part K V S Sort A) → Steady a → (d l : ℕ) → Follows strip (Like a) (Dv D a d l)
    follow_by D k (g.terminal f) st d l c e u u' x h (t, eu, is, ex, ec) =
        let (t', eu', same) = one_same strip t u' (ap (map strip) (sym eu) ∙ h) in
        let near = token_near t t' same in
        (t'.face, subst (λ x. NearFace x t'.face) (sym ex) near.1, (t', eu', ap f (sym near.0) ∙ is, refl, ec))
    follow_by D k (g.nonterminal s) st d l c e u u' x h p = k s d l c e u u' x h p
    follow_by D k (g.both a b) st d l c e u u' x h (v, w, m, eu, p, q) =
        let (v', w', eu', hv, hw) = split strip v w u' (ap (map strip) (sym eu) ∙ h) in
        let (y, like, p') = follow_by D k a st.0 d l c m v v' x.0 hv p in
        let (z, like', q') = follow_by D k b st.1 d l m e w w' x.1 hw q in
        ((y, z), (like, like'), (v', w', m, eu', p', q'))
    follow_by D k (g.either a b) st d l c e u u' x h (inl p) = let (y, like, p') = follow_by D k a st.0 d l c e u u' x h p in (y, inl like, inl p')
    follow_by D k (g.either a b) st d l c e u u' x h (inr p) = let (y, like, p') = follow_by D k b st.1 d l c e u u' x h p in (y, inr like, inr p')
    follow_by D k (g.maybe a) st d l c e u u' None h (eu, ec) = (None, tt, (nothing strip u' (ap (map strip) (sym eu) ∙ h), ec))
    follow_by D k (g.maybe a) st d l c e u u' (Some x) h p = let (y, like, p') = follow_by D k a st d l c e u u' x h p in (Some y, like, p')
    follow_by D k (g.many a) st d l c e u u' xs h p = follow_each strip (Like a) (Dv D a d l) (follow_by D k a st d l) xs c e u u' h p
    follow_by D k (g.then_if a goes b) st d l c e u u' x h p =
        follow_then strip (Like a) (Like b) (Dv D a d l) (Dv D b d l) goes st.0 (follow_by D k a st.1 d l) (follow_by D k b st.2 d l) c e u u' x.0 x.1 h p
    follow_by D k (g.when f a) st d l c e u u' x h (hd, p) = let (y, like, p') = follow_by D k a st d l c e u u' x h p in (y, like, (heads_same strip f sight_same u u' h hd, p'))
    follow_by D k (g.nest a) st zero l c e u u' x h p = elim p [ ]
    follow_by D k (g.nest a) st (suc d) l c e u u' x h p = follow_by D k a st d l c e u u' x h p
    follow_by D k (g.counts a) st d l zero e u u' x h p = elim p [ ]
    follow_by D k (g.counts a) st d l (suc c) e u u' x h p = follow_by D k a st d l c e u u' x h p
    follow_by D k (g.limited a) st d l c e u u' x h (m, p, ec) = let (y, like, p') = follow_by D k a st d l l m u u' x h p in (y, like, (m, p', ec))
    follow_by D k (g.gives f a) st d l c e u u' y h (x, p, ey) = let (x', like, p') = follow_by D k a st d l c e u u' x h p in (f x', (x, x', like, ey, refl), (x', p', refl))

    module _ (steady : (s : S) → Steady (production s)) (near_rule : (s : S) (x y : Sort s) → Like (production s) x y → Near s x y) where
      follow_n : (n : ℕ) (s : S) (d l : ℕ) → Follows strip (Near s) (Derives K V S Sort production n s d l)
      follow_n zero s d l c e u u' x h p = elim p [ ]
      follow_n (suc n) s d l c e u u' x h p =
          let (y, like, p') = follow_by (Derives K V S Sort production n) (follow_n n) (production s) (steady s) d l c e u u' x h p in (y, near_rule s x y like, p')

      -- a run that is alike is a sentence as well, of a value that is near
      pub spelt_near : (s : S) (budget : Budget) (u u' : List (Token K V)) (x : Sort s) → map strip u ≡ map strip u' → Spells K V S Sort production s budget u x → (y : Sort s) × Near s x y × Spells K V S Sort production s budget u' y
      spelt_near s budget u u' x h (n, e, p) =
          let (y, like, p') = follow_n n s budget.brackets budget.limit budget.left e u u' x h p in (y, like, (n, e, p'))
