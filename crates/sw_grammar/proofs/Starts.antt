-- What sentences and their beginnings begin with; and a sentence begins one.
use Rattle.std.proofs.Common.{◌≡◌, ◌⊎◌, inl, inr, ℕ, zero, suc, Bool, true, false, ◌||◌, ◌&&◌, List, [], ◌∷◌, ◌++◌, Option, Some, None, refl, sym, ◌∙◌, subst, append-nil}
use Rattle.sw_grammar.specs.Grammar as g
use Rattle.sw_grammar.specs.Grammar.{Token, Part, Counted, Each, Then, FirstPasses, Derives_by, Derives, ViablePrefix_by, ViablePrefix}
use Rattle.sw_grammar.specs.Reading.{or_if, nullable, first}
use Rattle.sw_grammar.specs.Deciding.{Decided, IsTable}
use Rattle.sw_grammar.proofs.Grow.{viable_nil, viable_nil_by}

-- ---- tests

pub or_left : (a b : Bool) → a ≡ true → (a || b) ≡ true
or_left true b e = refl
or_left false b e = cc

pub or_right : (a b : Bool) → b ≡ true → (a || b) ≡ true
or_right true b e = refl
or_right false b e = e

pub or_either : (a b : Bool) → (a || b) ≡ true → (a ≡ true) ⊎ (b ≡ true)
or_either true b e = inl refl
or_either false b e = inr e

pub and_both : (a b : Bool) → a ≡ true → b ≡ true → (a && b) ≡ true
and_both true b e e' = e'
and_both false b e e' = cc

pub and_halves : (a b : Bool) → (a && b) ≡ true → (a ≡ true) × (b ≡ true)
and_halves true b e = (refl, e)
and_halves false b e = cc

pub or_false : (a b : Bool) → (a || b) ≡ false → (a ≡ false) × (b ≡ false)
or_false true b e = cc
or_false false b e = (refl, e)

pub or_if_left : (n a b : Bool) → a ≡ true → or_if n a b ≡ true
or_if_left true a b e = or_left a b e
or_if_left false a b e = e

pub or_if_right : (n a b : Bool) → n ≡ true → b ≡ true → or_if n a b ≡ true
or_if_right true a b p e = or_right a b e
or_if_right false a b p e = cc

pub or_if_either : (n a b : Bool) → or_if n a b ≡ true → (a ≡ true) ⊎ ((n ≡ true) × (b ≡ true))
or_if_either true true b e = inl refl
or_if_either true false b e = inr (refl, e)
or_if_either false a b e = inl e

pub not_true : (a : Bool) → (a ≡ true → ⊥) → a ≡ false
not_true true h = absurd (h refl)
not_true false h = refl

pub clash : (b : Bool) → b ≡ true → b ≡ false → ⊥
clash b p q = cc

-- ---- what a run begins with

-- an empty run is allowed or not, and the first token of another passes the test
abbrev pub Starts : {K V : Type 0} → Bool → (K → Bool) → List (Token K V) → Type 0
Starts nl f [] = nl ≡ true
Starts nl f (t ∷ u) = f t.sight ≡ true

pub starts_weak : {K V : Type 0} (nl nl' : Bool) (f f' : K → Bool) → (nl ≡ true → nl' ≡ true) → ((t : K) → f t ≡ true → f' t ≡ true) → (u : List (Token K V)) → Starts nl f u → Starts nl' f' u
starts_weak nl nl' f f' hn hf [] h = hn h
starts_weak nl nl' f f' hn hf (t ∷ u) h = hf t.sight h

starts_and : {K V : Type 0} (nl : Bool) (f h : K → Bool) (u : List (Token K V)) → FirstPasses f u → Starts nl h u → Starts nl (λ t. f t && h t) u
starts_and nl f h [] hd s = s
starts_and nl f h (t ∷ u) hd s = and_both (f t.sight) (h t.sight) hd s

starts_both : {K V : Type 0} (na nb : Bool) (fa fb : K → Bool) (v w : List (Token K V)) → Starts na fa v → Starts nb fb w → Starts (na && nb) (λ t. or_if na (fa t) (fb t)) (v ++ w)
starts_both na nb fa fb [] [] ha hb = and_both na nb ha hb
starts_both na nb fa fb [] (t ∷ w) ha hb = or_if_right na (fa t.sight) (fb t.sight) ha hb
starts_both na nb fa fb (t ∷ v) w ha hb = or_if_left na (fa t.sight) (fb t.sight) ha

pub starts_append : {K V : Type 0} (nl : Bool) (f : K → Bool) (v w : List (Token K V)) → Starts nl f v → Starts true f w → Starts true f (v ++ w)
starts_append nl f [] w hv hw = hw
starts_append nl f (t ∷ v) w hv hw = hv

-- after a run that is not empty
pub starts_prefix : {K V : Type 0} (nl : Bool) (f : K → Bool) (v w : List (Token K V)) → Starts false f v → Starts nl f (v ++ w)
starts_prefix nl f [] w h = cc
starts_prefix nl f (t ∷ v) w h = h

starts_then : {K V A C : Type 0} (f : K → Bool) (D : Counted (Token K V) A) (E : Counted (Token K V) C) (goes : A → Bool) → ((c e : ℕ) (u : List (Token K V)) (x : A) → D c e u x → Starts false f u)
    → (c e : ℕ) (u : List (Token K V)) (x : A) (y : Option C) → Then D E goes c e u x y → Starts false f u
starts_then f D E goes hd c e u x None p = hd c e u x p
starts_then f D E goes hd c e u x (Some y) (v, w, m, eu, p, is, q) = subst (Starts false f) (sym eu) (starts_prefix false f v w (hd c m v x p))

pub starts_each : {K V A : Type 0} (nl : Bool) (f : K → Bool) (D : Counted (Token K V) A) → ((c e : ℕ) (u : List (Token K V)) (x : A) → D c e u x → Starts nl f u) → (xs : List A) (c e : ℕ) (u : List (Token K V)) → Each D c e u xs → Starts true f u
starts_each nl f D h [] c e u (eu, ec) = subst (Starts true f) (sym eu) refl
starts_each nl f D h (x ∷ xs) c e u (v, w, m, eu, p, q) = subst (Starts true f) (sym eu) (starts_append nl f v w (h c m v x p) (starts_each nl f D h xs m e w q))

viable_then : {T A C : Type 0} (D : Counted T A) (E : Counted T C) (goes : A → Bool) (B B' : ℕ → List T → Type 0)
    → ((c e : ℕ) (u : List T) (x : A) → D c e u x → B c u) → ((c e : ℕ) (u : List T) (y : C) → E c e u y → B' c u) → (c e : ℕ) (u : List T) (x : A) (y : Option C) → Then D E goes c e u x y
    → B c u ⊎ ((v : List T) × (w : List T) × (x : A) × (m : ℕ) × (u ≡ v ++ w) × D c m v x × (goes x ≡ true) × B' m w)
viable_then D E goes B B' hd he c e u x None p = inl (hd c e u x p)
viable_then D E goes B B' hd he c e u x (Some y) (v, w, m, eu, p, is, q) = inr (v, w, x, m, eu, p, is, he m e w y q)

module _ (K V S : Type 0) (Sort : S → Type 0) (production : (s : S) → Part K V S Sort (Sort s)) (first_table : S → K → Bool) (nullable_table : S → Bool) (follow_last_table : S → K → Bool) where
  abbrev nul : {A : Type 0} → Part K V S Sort A → Bool
  nul a = nullable K V S Sort production first_table nullable_table a

  abbrev fst : {A : Type 0} → Part K V S Sort A → K → Bool
  fst a = first K V S Sort production first_table nullable_table a

  abbrev Ok : {A : Type 0} → Part K V S Sort A → Type 0
  Ok a = Decided K V S Sort production first_table nullable_table follow_last_table a

  module _ (D : (s : S) → ℕ → ℕ → ℕ → ℕ → List (Token K V) → Sort s → Type 0) (B : (s : S) → ℕ → ℕ → ℕ → List (Token K V) → Type 0) where
    abbrev Dv : {A : Type 0} → Part K V S Sort A → ℕ → ℕ → ℕ → ℕ → List (Token K V) → A → Type 0
    Dv a d l c e u x = Derives_by K V S Sort production D a d l c e u x

    abbrev Bv : {A : Type 0} → Part K V S Sort A → ℕ → ℕ → ℕ → List (Token K V) → Type 0
    Bv a d l c u = ViablePrefix_by K V S Sort production D B a d l c u

    module _ (h : (s : S) (d l c e : ℕ) (u : List (Token K V)) (x : Sort s) → D s d l c e u x → Starts (nullable_table s) (first_table s) u) where
      pub starts_D : {A : Type 0} (a : Part K V S Sort A) → Ok a → (d l c e : ℕ) (u : List (Token K V)) (x : A) → Dv a d l c e u x → Starts (nul a) (fst a) u
      starts_D (g.terminal f) ok d l c e u x (t, eu, is, ex, ec) = subst (Starts false f) (sym eu) is
      starts_D (g.nonterminal s) ok d l c e u x p = h s d l c e u x p
      starts_D (g.both a b) ok d l c e u x (v, w, m, eu, p, q) =
          subst (Starts (nul a && nul b) (fst (g.both a b))) (sym eu) (starts_both (nul a) (nul b) (fst a) (fst b) v w (starts_D a ok.0 d l c m v x.0 p) (starts_D b ok.1 d l m e w x.1 q))
      starts_D (g.either a b) ok d l c e u x (inl p) = starts_weak (nul a) (nul a || nul b) (fst a) (fst (g.either a b)) (or_left (nul a) (nul b)) (λ t. or_left (fst a t) (fst b t)) u (starts_D a ok.0 d l c e u x p)
      starts_D (g.either a b) ok d l c e u x (inr p) = starts_weak (nul b) (nul a || nul b) (fst b) (fst (g.either a b)) (or_right (nul a) (nul b)) (λ t. or_right (fst a t) (fst b t)) u (starts_D b ok.1 d l c e u x p)
      starts_D (g.maybe a) ok d l c e u None (eu, ec) = subst (Starts true (fst a)) (sym eu) refl
      starts_D (g.maybe a) ok d l c e u (Some x) p = starts_weak (nul a) true (fst a) (fst a) (λ _. refl) (λ t k. k) u (starts_D a ok.0 d l c e u x p)
      starts_D (g.many a) ok d l c e u xs p = starts_each (nul a) (fst a) (Dv a d l) (starts_D a ok.0 d l) xs c e u p
      starts_D (g.then_if a goes b) ok d l c e u x p =
          subst (λ n. Starts n (fst a) u) (sym ok.3) (starts_then (fst a) (Dv a d l) (Dv b d l) goes (λ c e u x p. subst (λ n. Starts n (fst a) u) ok.3 (starts_D a ok.0 d l c e u x p)) c e u x.0 x.1 p)
      starts_D (g.when f a) ok d l c e u x (hd, p) = starts_and (nul a) f (fst a) u hd (starts_D a ok.0 d l c e u x p)
      starts_D (g.nest a) ok zero l c e u x p = elim p [ ]
      starts_D (g.nest a) ok (suc d) l c e u x p = starts_D a ok.0 d l c e u x p
      starts_D (g.counts a) ok d l zero e u x p = elim p [ ]
      starts_D (g.counts a) ok d l (suc c) e u x p = starts_D a ok.0 d l c e u x p
      starts_D (g.limited a) ok d l c e u x (m, p, ec) = starts_D a ok d l l m u x p
      starts_D (g.gives f a) ok d l c e u y (x, p, ey) = starts_D a ok d l c e u x p

      -- a part that is not empty
      pub solid : {A : Type 0} (a : Part K V S Sort A) → Ok a → nul a ≡ false → (d l c e : ℕ) (u : List (Token K V)) (x : A) → Dv a d l c e u x → Starts false (fst a) u
      solid a ok hn d l c e u x p = subst (λ b. Starts b (fst a) u) hn (starts_D a ok d l c e u x p)

      module _ (k : (s : S) (d l c : ℕ) (u : List (Token K V)) → B s d l c u → Starts true (first_table s) u) where
        pub starts_B : {A : Type 0} (a : Part K V S Sort A) → Ok a → (d l c : ℕ) (u : List (Token K V)) → Bv a d l c u → Starts true (fst a) u
        starts_B (g.terminal f) ok d l c [] p = refl
        starts_B (g.terminal f) ok d l c (t ∷ u) (eu, is) = is
        starts_B (g.nonterminal s) ok d l c u p = k s d l c u p
        starts_B (g.both a b) ok d l c u (inl p) = starts_weak true true (fst a) (fst (g.both a b)) (λ e. e) (λ t. or_if_left (nul a) (fst a t) (fst b t)) u (starts_B a ok.0 d l c u p)
        starts_B (g.both a b) ok d l c u (inr (v, w, x, m, eu, p, q)) =
            subst (Starts true (fst (g.both a b))) (sym eu) (starts_weak (nul a && true) true (fst (g.both a b)) (fst (g.both a b)) (λ _. refl) (λ t r. r) (v ++ w)
            (starts_both (nul a) true (fst a) (fst b) v w (starts_D a ok.0 d l c m v x p) (starts_B b ok.1 d l m w q)))
        starts_B (g.either a b) ok d l c u (inl p) = starts_weak true true (fst a) (fst (g.either a b)) (λ e. e) (λ t. or_left (fst a t) (fst b t)) u (starts_B a ok.0 d l c u p)
        starts_B (g.either a b) ok d l c u (inr p) = starts_weak true true (fst b) (fst (g.either a b)) (λ e. e) (λ t. or_right (fst a t) (fst b t)) u (starts_B b ok.1 d l c u p)
        starts_B (g.maybe a) ok d l c u (inl eu) = subst (Starts true (fst a)) (sym eu) refl
        starts_B (g.maybe a) ok d l c u (inr p) = starts_B a ok.0 d l c u p
        starts_B (g.many a) ok d l c u (inl eu) = subst (Starts true (fst a)) (sym eu) refl
        starts_B (g.many a) ok d l c u (inr (v, w, xs, m, eu, each, q)) =
            subst (Starts true (fst a)) (sym eu) (starts_append true (fst a) v w (starts_each (nul a) (fst a) (Dv a d l) (starts_D a ok.0 d l) xs c m v each) (starts_B a ok.0 d l m w q))
        starts_B (g.then_if a goes b) ok d l c u (inl p) = starts_B a ok.0 d l c u p
        starts_B (g.then_if a goes b) ok d l c u (inr (v, w, x, m, eu, p, is, q)) = subst (Starts true (fst a)) (sym eu) (starts_prefix true (fst a) v w (solid a ok.0 ok.3 d l c m v x p))
        starts_B (g.when f a) ok d l c u (hd, p) = starts_and true f (fst a) u hd (starts_B a ok.0 d l c u p)
        starts_B (g.nest a) ok zero l c u eu = subst (Starts true (fst a)) (sym eu) refl
        starts_B (g.nest a) ok (suc d) l c u p = starts_B a ok.0 d l c u p
        starts_B (g.counts a) ok d l zero u eu = subst (Starts true (fst a)) (sym eu) refl
        starts_B (g.counts a) ok d l (suc c) u p = starts_B a ok.0 d l c u p
        starts_B (g.limited a) ok d l c u p = starts_B a ok d l l u p
        starts_B (g.gives f a) ok d l c u p = starts_B a ok d l c u p

    -- a sentence begins a sentence
    module _ (nil : (s : S) (d l c : ℕ) → B s d l c []) (h : (s : S) (d l c e : ℕ) (u : List (Token K V)) (x : Sort s) → D s d l c e u x → B s d l c u) where
      pub sentence_viable : {A : Type 0} (a : Part K V S Sort A) (d l c e : ℕ) (u : List (Token K V)) (x : A) → Dv a d l c e u x → Bv a d l c u
      sentence_viable (g.terminal f) d l c e u x (t, eu, is, ex, ec) = subst (Bv (g.terminal f) d l c) (sym eu) (refl, is)
      sentence_viable (g.nonterminal s) d l c e u x p = h s d l c e u x p
      sentence_viable (g.both a b) d l c e u x (v, w, m, eu, p, q) = inr (v, w, x.0, m, eu, p, sentence_viable b d l m e w x.1 q)
      sentence_viable (g.either a b) d l c e u x (inl p) = inl (sentence_viable a d l c e u x p)
      sentence_viable (g.either a b) d l c e u x (inr p) = inr (sentence_viable b d l c e u x p)
      sentence_viable (g.maybe a) d l c e u None (eu, ec) = inl eu
      sentence_viable (g.maybe a) d l c e u (Some x) p = inr (sentence_viable a d l c e u x p)
      sentence_viable (g.many a) d l c e u xs p = inr (u, [], xs, e, sym (append-nil u), p, viable_nil_by K V S Sort production D B nil a d l e)
      sentence_viable (g.then_if a goes b) d l c e u x p = viable_then (Dv a d l) (Dv b d l) goes (Bv a d l) (Bv b d l) (sentence_viable a d l) (sentence_viable b d l) c e u x.0 x.1 p
      sentence_viable (g.when f a) d l c e u x (hd, p) = (hd, sentence_viable a d l c e u x p)
      sentence_viable (g.nest a) zero l c e u x p = elim p [ ]
      sentence_viable (g.nest a) (suc d) l c e u x p = sentence_viable a d l c e u x p
      sentence_viable (g.counts a) d l zero e u x p = elim p [ ]
      sentence_viable (g.counts a) d l (suc c) e u x p = sentence_viable a d l c e u x p
      sentence_viable (g.limited a) d l c e u x (m, p, ec) = sentence_viable a d l l m u x p
      sentence_viable (g.gives f a) d l c e u y (x, p, ey) = sentence_viable a d l c e u x p

  -- ---- for nonterminals, by each height

  module _ (table : (s : S) → IsTable K V S Sort production first_table nullable_table follow_last_table s) where
    abbrev Dn : ℕ → (s : S) → ℕ → ℕ → ℕ → ℕ → List (Token K V) → Sort s → Type 0
    Dn n = Derives K V S Sort production n

    abbrev Bn : ℕ → (s : S) → ℕ → ℕ → ℕ → List (Token K V) → Type 0
    Bn n = ViablePrefix K V S Sort production n

    pub starts_n : (n : ℕ) (s : S) (d l c e : ℕ) (u : List (Token K V)) (x : Sort s) → Dn n s d l c e u x → Starts (nullable_table s) (first_table s) u
    starts_n zero s d l c e u x p = elim p [ ]
    starts_n (suc n) s d l c e u x p =
        starts_weak _ (nullable_table s) _ (first_table s) (λ h. sym (table s).empty ∙ h) (table s).head u (starts_D (Dn n) (Bn n) (starts_n n) (production s) (table s).decided d l c e u x p)

    pub starts_b : (n : ℕ) (s : S) (d l c : ℕ) (u : List (Token K V)) → Bn n s d l c u → Starts true (first_table s) u
    starts_b zero s d l c u eu = subst (Starts true (first_table s)) (sym eu) refl
    starts_b (suc n) s d l c u p = starts_weak true true _ (first_table s) (λ e. e) (table s).head u (starts_B (Dn n) (Bn n) (starts_n n) (starts_b n) (production s) (table s).decided d l c u p)

  pub text_n : (n : ℕ) (s : S) (d l c e : ℕ) (u : List (Token K V)) (x : Sort s) → Derives K V S Sort production n s d l c e u x → ViablePrefix K V S Sort production n s d l c u
  text_n zero s d l c e u x p = elim p [ ]
  text_n (suc n) s d l c e u x p = sentence_viable (Derives K V S Sort production n) (ViablePrefix K V S Sort production n) (viable_nil K V S Sort production n) (text_n n) (production s) d l c e u x p
