-- Values that a grammar's productions build of tokens of a kind, without the runs of these tokens.
use Rattle.std.proofs.Common.{◌≡◌, ℕ, zero, suc, Bool, true, ◌⊎◌, inl, inr, List, [], ◌∷◌, ◌++◌, Option, Some, None, subst}
use Rattle.sw_grammar.specs.Grammar as g
use Rattle.sw_grammar.specs.Grammar.{Token, Part, Counted, Each, Then, Derives_by}

-- each element of the list is so
abbrev pub Every : {T : Type 0} → (T → Type 0) → List T → Type 0
Every G [] = Unit {0}
Every G (t ∷ u) = G t × Every G u

pub every_halves : {T : Type 0} (G : T → Type 0) (v w : List T) → Every G (v ++ w) → Every G v × Every G w
every_halves G [] w all = (tt, all)
every_halves G (t ∷ v) w (is, all) = let (p, q) = every_halves G v w all in ((is, p), q)

pub every_append : {T : Type 0} (G : T → Type 0) (v w : List T) → Every G v → Every G w → Every G (v ++ w)
every_append G [] w p q = q
every_append G (t ∷ v) w (is, p) q = (is, every_append G v w p q)

-- A value may count: where so many more may be counted before it, so many may be after it.
abbrev pub Counting : Type 0 → Type 1
Counting A = ℕ → ℕ → A → Type 0

abbrev pub EachBuilt : {A : Type 0} → Counting A → Counting (List A)
EachBuilt B c c' [] = c' ≡ c
EachBuilt B c c' (x ∷ xs) = (e : ℕ) × B c e x × EachBuilt B e c' xs

abbrev pub ThenBuilt : {A B : Type 0} → Counting A → Counting B → (A → Bool) → ℕ → ℕ → A → Option B → Type 0
ThenBuilt B C goes c c' x None = B c c' x
ThenBuilt B C goes c c' x (Some y) = (e : ℕ) × B c e x × (goes x ≡ true) × C e c' y

module _ (K V S : Type 0) (Sort : S → Type 0) (production : (s : S) → Part K V S Sort (Sort s)) (G : (Token K V) → Type 0) where
  -- The part builds the value of tokens that are so, where a nonterminal builds what B says: as `Derives_by` without the
  -- tokens, each of which is kept at its mark alone.
  abbrev pub Built_by : ((s : S) → ℕ → ℕ → Counting (Sort s)) → {A : Type 0} → Part K V S Sort A → ℕ → ℕ → ℕ → ℕ → A → Type 0
  Built_by B (g.terminal f) d l c c' x = (t : Token K V) × G t × (f t.sight ≡ true) × (x ≡ t.face) × (c' ≡ c)
  Built_by B (g.nonterminal s) d l c c' x = B s d l c c' x
  Built_by B (g.both a b) d l c c' x = (e : ℕ) × Built_by B a d l c e x.0 × Built_by B b d l e c' x.1
  Built_by B (g.either a b) d l c c' x = Built_by B a d l c c' x ⊎ Built_by B b d l c c' x
  Built_by B (g.maybe a) d l c c' None = c' ≡ c
  Built_by B (g.maybe a) d l c c' (Some x) = Built_by B a d l c c' x
  Built_by B (g.many a) d l c c' xs = EachBuilt (Built_by B a d l) c c' xs
  Built_by B (g.then_if a goes b) d l c c' x = ThenBuilt (Built_by B a d l) (Built_by B b d l) goes c c' x.0 x.1
  Built_by B (g.when f a) d l c c' x = Built_by B a d l c c' x
  Built_by B (g.nest a) zero l c c' x = ⊥
  Built_by B (g.nest a) (suc d) l c c' x = Built_by B a d l c c' x
  Built_by B (g.counts a) d l zero c' x = ⊥
  Built_by B (g.counts a) d l (suc c) c' x = Built_by B a d l c c' x
  Built_by B (g.limited a) d l c c' x = (e : ℕ) × Built_by B a d l l e x × (c' ≡ c)
  Built_by B (g.gives {A} f a) d l c c' y = (x : A) × Built_by B a d l c c' x × (y ≡ f x)

  -- ---- what tokens derive is built of them, where what holds of a run holds of its parts, and of a single token that it
  -- is so

  module _ (Ok : List (Token K V) → Type 0) (halves : (v w : List (Token K V)) → Ok (v ++ w) → Ok v × Ok w) (one : (t : (Token K V)) → Ok (t ∷ []) → G t) where
    abbrev Kept : {A : Type 0} → Counted (Token K V) A → Counting A → Type 0
    Kept {A} D B = (c e : ℕ) (u : List (Token K V)) (x : A) → Ok u → D c e u x → B c e x

    each_kept : {A : Type 0} (D : Counted (Token K V) A) (B : Counting A) → Kept D B → (xs : List A) (c e : ℕ) (u : List (Token K V)) → Ok u → Each D c e u xs → EachBuilt B c e xs
    each_kept D B k [] c e u all (eu, ec) = ec
    each_kept D B k (x ∷ xs) c e u all (v, w, m, eu, p, q) =
        let (av, aw) = halves v w (subst Ok eu all) in
        (m, k c m v x av p, each_kept D B k xs m e w aw q)

    then_kept : {A C : Type 0} (D : Counted (Token K V) A) (E : Counted (Token K V) C) (B : Counting A) (F : Counting C) (goes : A → Bool) → Kept D B → Kept E F
        → (c e : ℕ) (u : List (Token K V)) (x : A) (y : Option C) → Ok u → Then D E goes c e u x y → ThenBuilt B F goes c e x y
    then_kept D E B F goes k m c e u x None all p = k c e u x all p
    then_kept D E B F goes k m c e u x (Some y) all (v, w, i, eu, p, is, q) =
        let (av, aw) = halves v w (subst Ok eu all) in
        (i, k c i v x av p, is, m i e w y aw q)

    abbrev Dv : ((s : S) → ℕ → ℕ → Counted (Token K V) (Sort s)) → {A : Type 0} → Part K V S Sort A → ℕ → ℕ → Counted (Token K V) A
    Dv D a d l c e u x = Derives_by K V S Sort production D a d l c e u x

    pub built_by : (D : (s : S) → ℕ → ℕ → Counted (Token K V) (Sort s)) (B : (s : S) → ℕ → ℕ → Counting (Sort s)) → ((s : S) (d l : ℕ) → Kept (D s d l) (B s d l))
        → {A : Type 0} (a : Part K V S Sort A) (d l : ℕ) → Kept (Dv D a d l) (Built_by B a d l)
    built_by D B k (g.terminal f) d l c e u x all (t, eu, is, ex, ec) = (t, one t (subst Ok eu all), is, ex, ec)
    built_by D B k (g.nonterminal s) d l c e u x all p = k s d l c e u x all p
    built_by D B k (g.both a b) d l c e u x all (v, w, m, eu, p, q) =
        let (av, aw) = halves v w (subst Ok eu all) in
        (m, built_by D B k a d l c m v x.0 av p, built_by D B k b d l m e w x.1 aw q)
    built_by D B k (g.either a b) d l c e u x all (inl p) = inl (built_by D B k a d l c e u x all p)
    built_by D B k (g.either a b) d l c e u x all (inr p) = inr (built_by D B k b d l c e u x all p)
    built_by D B k (g.maybe a) d l c e u None all (eu, ec) = ec
    built_by D B k (g.maybe a) d l c e u (Some x) all p = built_by D B k a d l c e u x all p
    built_by D B k (g.many a) d l c e u xs all p = each_kept (Dv D a d l) (Built_by B a d l) (built_by D B k a d l) xs c e u all p
    built_by D B k (g.then_if a goes b) d l c e u x all p =
        then_kept (Dv D a d l) (Dv D b d l) (Built_by B a d l) (Built_by B b d l) goes (built_by D B k a d l) (built_by D B k b d l) c e u x.0 x.1 all p
    built_by D B k (g.when f a) d l c e u x all (hd, p) = built_by D B k a d l c e u x all p
    built_by D B k (g.nest a) zero l c e u x all p = elim p [ ]
    built_by D B k (g.nest a) (suc d) l c e u x all p = built_by D B k a d l c e u x all p
    built_by D B k (g.counts a) d l zero e u x all p = elim p [ ]
    built_by D B k (g.counts a) d l (suc c) e u x all p = built_by D B k a d l c e u x all p
    built_by D B k (g.limited a) d l c e u x all (m, p, ec) = (m, built_by D B k a d l l m u x all p, ec)
    built_by D B k (g.gives f a) d l c e u y all (x, p, ey) = (x, built_by D B k a d l c e u x all p, ey)
