-- Where the last tokens of a run stand: where a nonterminal may stand, after what comes before it.
use Rattle.std.specs.Prelude.{◌≡◌, ◌⊎◌, ℕ, zero, suc, true, List, ◌++◌}
use Rattle.sw_grammar.specs.Grammar.{Token, Part, Budget, Each, FirstPasses, Derives_by, Derives, terminal, nonterminal, both, either, maybe, many, then_if, when, nest, counts, limited, gives}

module _ (K V S : Type 0) (Sort : S → Type 0) (production : (s : S) → Part K V S Sort (Sort s)) where
  -- what nonterminals derive, and what is asked of the tokens that stand where a nonterminal may: d brackets may be opened there, each
  -- count of its own may hold l, and c more may be counted
  abbrev pub Deriving : Type 1
  Deriving = (s : S) → ℕ → ℕ → ℕ → ℕ → List (Token K V) → Sort s → Type 0

  abbrev pub Asked : Type 1
  Asked = (s : S) → ℕ → ℕ → ℕ → List (Token K V) → Type 0

  -- The tokens arrive at a nonterminal of the part, by its form: they derive what stands before the nonterminal, in order, and
  -- what is left, which stands where the nonterminal may, is as asked.
  abbrev pub Arrives_by : Deriving → Asked → {A : Type 0} → Part K V S Sort A → ℕ → ℕ → ℕ → List (Token K V) → Type 0
  Arrives_by D Q (terminal f) d l c u = ⊥
  Arrives_by D Q (nonterminal s) d l c u = Q s d l c u
  Arrives_by D Q (both {A} a b) d l c u = Arrives_by D Q a d l c u ⊎ ((v : List (Token K V)) × (w : List (Token K V)) × (x : A) × (e : ℕ) × (u ≡ v ++ w) × Derives_by K V S Sort production D a d l c e v x × Arrives_by D Q b d l e w)
  Arrives_by D Q (either a b) d l c u = Arrives_by D Q a d l c u ⊎ Arrives_by D Q b d l c u
  Arrives_by D Q (maybe a) d l c u = Arrives_by D Q a d l c u
  Arrives_by D Q (many {A} a) d l c u = (v : List (Token K V)) × (w : List (Token K V)) × (xs : List A) × (e : ℕ) × (u ≡ v ++ w) × Each (Derives_by K V S Sort production D a d l) c e v xs × Arrives_by D Q a d l e w
  Arrives_by D Q (then_if {A} a goes b) d l c u = Arrives_by D Q a d l c u ⊎ ((v : List (Token K V)) × (w : List (Token K V)) × (x : A) × (e : ℕ) × (u ≡ v ++ w) × Derives_by K V S Sort production D a d l c e v x × (goes x ≡ true) × Arrives_by D Q b d l e w)
  Arrives_by D Q (when f a) d l c u = FirstPasses f u × Arrives_by D Q a d l c u
  Arrives_by D Q (nest a) zero l c u = ⊥
  Arrives_by D Q (nest a) (suc d) l c u = Arrives_by D Q a d l c u
  Arrives_by D Q (counts a) d l zero u = ⊥
  Arrives_by D Q (counts a) d l (suc c) u = Arrives_by D Q a d l c u
  Arrives_by D Q (limited a) d l c u = Arrives_by D Q a d l l u
  Arrives_by D Q (gives f a) d l c u = Arrives_by D Q a d l c u

  -- the same for a nonterminal: they stand where it may itself, or arrive at a nonterminal of its production
  abbrev pub Arrives : (Deriving → Asked) → ℕ → Asked
  Arrives At zero s d l c u = ⊥
  Arrives At (suc n) s d l c u = At (Derives K V S Sort production n) s d l c u ⊎ Arrives_by (Derives K V S Sort production n) (Arrives At n) (production s) d l c u

  -- and within a budget
  abbrev pub Arrived : (Deriving → Asked) → S → Budget → List (Token K V) → Type 0
  Arrived At s budget u = (n : ℕ) × Arrives At n s budget.brackets budget.limit budget.left u
