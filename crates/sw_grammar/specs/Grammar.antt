-- Grammars as data, and what they mean: which runs of tokens derive a value, and which are viable prefixes.
use Rattle.std.specs.Prelude.{◌≡◌, ◌≤◌, ◌⊎◌, ℕ, zero, suc, Bool, true, List, [], ◌∷◌, ◌++◌, Option, Some, None}

-- A token: what tests may look at, and what the values of sentences keep.
pub record Token (K V : Type 0) : Type 0 where
  pub sight : K
  pub face : V

-- A part of a production over the sights K and the faces V of tokens, and nonterminals S, whose sentences give values of the type.
pub data Part (K V S : Type 0) (Sort : S → Type 0) : Type 0 → Type 1 where
  -- a terminal: one token whose sight passes the test; its value is its face
  terminal : (K → Bool) → Part K V S Sort V
  -- a nonterminal
  nonterminal : (s : S) → Part K V S Sort (Sort s)
  -- one part after the other
  both : {A B : Type 0} → Part K V S Sort A → Part K V S Sort B → Part K V S Sort (A × B)
  -- either alternative
  either : {A : Type 0} → Part K V S Sort A → Part K V S Sort A → Part K V S Sort A
  -- a part that may be absent
  maybe : {A : Type 0} → Part K V S Sort A → Part K V S Sort (Option A)
  -- any number of them
  many : {A : Type 0} → Part K V S Sort A → Part K V S Sort (List A)
  -- a sentence of the first, and, only where its value passes the test, perhaps one of the second after it
  then_if : {A B : Type 0} → Part K V S Sort A → (A → Bool) → Part K V S Sort B → Part K V S Sort (A × Option B)
  -- a part whose first token's sight passes the test, as one that stands first on its line
  when : {A : Type 0} → (K → Bool) → Part K V S Sort A → Part K V S Sort A
  -- a bracket: what stands in it is one level deeper
  nest : {A : Type 0} → Part K V S Sort A → Part K V S Sort A
  -- a part that is counted: its sentence is one more of them
  counts : {A : Type 0} → Part K V S Sort A → Part K V S Sort A
  -- a part with a count of its own
  limited : {A : Type 0} → Part K V S Sort A → Part K V S Sort A
  -- the value that a sentence stands for
  gives : {A B : Type 0} → (A → B) → Part K V S Sort A → Part K V S Sort B

-- What a sentence may have of what is bounded: how many brackets may be opened, how many more parts may be counted,
-- and how many each count of its own may hold.
pub record Budget : Type 0 where
  pub brackets : ℕ
  pub left : ℕ
  pub limit : ℕ

abbrev pub IsWithin : Budget → Budget → Type 0
IsWithin r r' = (r.brackets ≤ r'.brackets) × (r.left ≤ r'.left) × (r.limit ≤ r'.limit)

-- the first token, if there is one, passes the test
abbrev pub FirstPasses : {K V : Type 0} → (K → Bool) → List (Token K V) → Type 0
FirstPasses f [] = Unit {0}
FirstPasses f (t ∷ u) = f t.sight ≡ true

-- A sentence may count: where so many more may be counted before it, so many may be after it.
abbrev pub Counted : Type 0 → Type 0 → Type 1
Counted T A = ℕ → ℕ → List T → A → Type 0

-- the runs that each derive one of the values, one after the other
abbrev pub Each : {T A : Type 0} → Counted T A → Counted T (List A)
Each D c c' u [] = (u ≡ []) × (c' ≡ c)
Each D c c' u (x ∷ xs) = (v : _) × (w : _) × (e : ℕ) × (u ≡ v ++ w) × D c e v x × Each D e c' w xs

-- one run, and perhaps another after it, where the value passes the test
abbrev pub Then : {T A B : Type 0} → Counted T A → Counted T B → (A → Bool) → ℕ → ℕ → List T → A → Option B → Type 0
Then D E goes c c' u x None = D c c' u x
Then D E goes c c' u x (Some y) = (v : _) × (w : _) × (e : ℕ) × (u ≡ v ++ w) × D c e v x × (goes x ≡ true) × E e c' w y

module _ (K V S : Type 0) (Sort : S → Type 0) (production : (s : S) → Part K V S Sort (Sort s)) where
  -- The tokens derive the value, where a nonterminal reads as D says: d brackets may be opened, each count of its
  -- own may hold l, and c more may be counted before the tokens, c' after them.
  abbrev pub Derives_by : ((s : S) → ℕ → ℕ → ℕ → ℕ → List (Token K V) → Sort s → Type 0) → {A : Type 0} → Part K V S Sort A → ℕ → ℕ → ℕ → ℕ → List (Token K V) → A → Type 0
  Derives_by D (terminal f) d l c c' u x = (t : Token K V) × (u ≡ t ∷ []) × (f t.sight ≡ true) × (x ≡ t.face) × (c' ≡ c)
  Derives_by D (nonterminal s) d l c c' u x = D s d l c c' u x
  Derives_by D (both a b) d l c c' u x = (v : List (Token K V)) × (w : List (Token K V)) × (e : ℕ) × (u ≡ v ++ w) × Derives_by D a d l c e v x.0 × Derives_by D b d l e c' w x.1
  Derives_by D (either a b) d l c c' u x = Derives_by D a d l c c' u x ⊎ Derives_by D b d l c c' u x
  Derives_by D (maybe a) d l c c' u None = (u ≡ []) × (c' ≡ c)
  Derives_by D (maybe a) d l c c' u (Some x) = Derives_by D a d l c c' u x
  Derives_by D (many a) d l c c' u xs = Each (Derives_by D a d l) c c' u xs
  Derives_by D (then_if a goes b) d l c c' u x = Then (Derives_by D a d l) (Derives_by D b d l) goes c c' u x.0 x.1
  Derives_by D (when f a) d l c c' u x = FirstPasses f u × Derives_by D a d l c c' u x
  Derives_by D (nest a) zero l c c' u x = ⊥
  Derives_by D (nest a) (suc d) l c c' u x = Derives_by D a d l c c' u x
  Derives_by D (counts a) d l zero c' u x = ⊥
  Derives_by D (counts a) d l (suc c) c' u x = Derives_by D a d l c c' u x
  Derives_by D (limited a) d l c c' u x = (e : ℕ) × Derives_by D a d l l e u x × (c' ≡ c)
  Derives_by D (gives {A} f a) d l c c' u y = (x : A) × Derives_by D a d l c c' u x × (y ≡ f x)

  -- the same for a nonterminal, by a derivation of at most this height
  abbrev pub Derives : ℕ → (s : S) → ℕ → ℕ → ℕ → ℕ → List (Token K V) → Sort s → Type 0
  Derives zero s d l c c' u x = ⊥
  Derives (suc n) s d l c c' u x = Derives_by (Derives n) (production s) d l c c' u x

  -- The tokens are a viable prefix of the part, by its form: they derive its first parts in order, and what is left is a
  -- viable prefix of the next. Each prefix of a sentence is one, within the same budget. The other way is not claimed: no
  -- tokens may make it a sentence within the budget, as where a bracket would have to be opened that may not be.
  abbrev pub ViablePrefix_by : ((s : S) → ℕ → ℕ → ℕ → ℕ → List (Token K V) → Sort s → Type 0) → ((s : S) → ℕ → ℕ → ℕ → List (Token K V) → Type 0) → {A : Type 0} → Part K V S Sort A → ℕ → ℕ → ℕ → List (Token K V) → Type 0
  ViablePrefix_by D B (terminal f) d l c [] = Unit {0}
  ViablePrefix_by D B (terminal f) d l c (t ∷ u) = (u ≡ []) × (f t.sight ≡ true)
  ViablePrefix_by D B (nonterminal s) d l c u = B s d l c u
  ViablePrefix_by D B (both {A} a b) d l c u = ViablePrefix_by D B a d l c u ⊎ ((v : List (Token K V)) × (w : List (Token K V)) × (x : A) × (e : ℕ) × (u ≡ v ++ w) × Derives_by D a d l c e v x × ViablePrefix_by D B b d l e w)
  ViablePrefix_by D B (either a b) d l c u = ViablePrefix_by D B a d l c u ⊎ ViablePrefix_by D B b d l c u
  ViablePrefix_by D B (maybe a) d l c u = (u ≡ []) ⊎ ViablePrefix_by D B a d l c u
  ViablePrefix_by D B (many {A} a) d l c u = (u ≡ []) ⊎ ((v : List (Token K V)) × (w : List (Token K V)) × (xs : List A) × (e : ℕ) × (u ≡ v ++ w) × Each (Derives_by D a d l) c e v xs × ViablePrefix_by D B a d l e w)
  ViablePrefix_by D B (then_if {A} a goes b) d l c u = ViablePrefix_by D B a d l c u ⊎ ((v : List (Token K V)) × (w : List (Token K V)) × (x : A) × (e : ℕ) × (u ≡ v ++ w) × Derives_by D a d l c e v x × (goes x ≡ true) × ViablePrefix_by D B b d l e w)
  ViablePrefix_by D B (when f a) d l c u = FirstPasses f u × ViablePrefix_by D B a d l c u
  ViablePrefix_by D B (nest a) zero l c u = u ≡ []
  ViablePrefix_by D B (nest a) (suc d) l c u = ViablePrefix_by D B a d l c u
  ViablePrefix_by D B (counts a) d l zero u = u ≡ []
  ViablePrefix_by D B (counts a) d l (suc c) u = ViablePrefix_by D B a d l c u
  ViablePrefix_by D B (limited a) d l c u = ViablePrefix_by D B a d l l u
  ViablePrefix_by D B (gives f a) d l c u = ViablePrefix_by D B a d l c u

  abbrev pub ViablePrefix : ℕ → (s : S) → ℕ → ℕ → ℕ → List (Token K V) → Type 0
  ViablePrefix zero s d l c u = u ≡ []
  ViablePrefix (suc n) s d l c u = ViablePrefix_by (Derives n) (ViablePrefix n) (production s) d l c u

  -- a sentence of the nonterminal, with its value; and a viable prefix of one
  abbrev pub Spells : (s : S) → Budget → List (Token K V) → Sort s → Type 0
  Spells s budget u x = (n : ℕ) × (c : ℕ) × Derives n s budget.brackets budget.limit budget.left c u x

  abbrev pub IsViablePrefix : (s : S) → Budget → List (Token K V) → Type 0
  IsViablePrefix s budget u = (n : ℕ) × ViablePrefix n s budget.brackets budget.limit budget.left u
