-- When one token ahead decides a grammar: conditions on its tables, each found by computing.
use Rattle.std.specs.Prelude.{◌≡◌, ◌<◌, ℕ, Bool, true, false, ◌||◌}
use Rattle.sw_grammar.specs.Grammar.{Part, terminal, nonterminal, both, either, maybe, many, then_if, when, nest, counts, limited, gives}
use Rattle.sw_grammar.specs.Reading.{or_if, nullable, first}

-- no sight passes both tests
abbrev pub Apart : {K : Type 0} → (K → Bool) → (K → Bool) → Type 0
Apart {K} f h = (t : K) → f t ≡ true → h t ≡ true → ⊥

module _ (K V S : Type 0) (Sort : S → Type 0) (production : (s : S) → Part K V S Sort (Sort s)) (first_table : S → K → Bool) (nullable_table : S → Bool) (follow_last_table : S → K → Bool) where
  abbrev is_nullable : {A : Type 0} → Part K V S Sort A → Bool
  is_nullable a = nullable K V S Sort production first_table nullable_table a

  abbrev first_of : {A : Type 0} → Part K V S Sort A → K → Bool
  first_of a = first K V S Sort production first_table nullable_table a

  -- follow-last: the tokens that may follow a sentence of it within a longer one
  abbrev pub follow_last : {A : Type 0} → Part K V S Sort A → K → Bool
  follow_last (terminal f) t = false
  follow_last (nonterminal s) t = follow_last_table s t
  follow_last (both a b) t = or_if (is_nullable b) (follow_last b t) (first_of b t || follow_last a t)
  follow_last (either a b) t = follow_last a t || follow_last b t
  follow_last (maybe a) t = first_of a t || follow_last a t
  follow_last (many a) t = first_of a t || follow_last a t
  follow_last (then_if a goes b) t = follow_last a t || (first_of b t || follow_last b t)
  follow_last (when f a) t = follow_last a t
  follow_last (nest a) t = follow_last a t
  follow_last (counts a) t = follow_last a t
  follow_last (limited a) t = follow_last a t
  follow_last (gives f a) t = follow_last a t

  abbrev pub Decided : {A : Type 0} → Part K V S Sort A → Type 0
  Decided (terminal f) = Unit {0}
  Decided (nonterminal s) = Unit {0}
  Decided (both a b) = Decided a × Decided b × Apart (follow_last a) (first_of b)
  Decided (either a b) = Decided a × Decided b × Apart (first_of a) (first_of b) × (is_nullable a ≡ false) × (is_nullable b ≡ false)
  Decided (maybe a) = Decided a × (is_nullable a ≡ false)
  Decided (many a) = Decided a × (is_nullable a ≡ false) × Apart (follow_last a) (first_of a)
  Decided (then_if a goes b) = Decided a × Decided b × Apart (follow_last a) (first_of b) × (is_nullable a ≡ false) × (is_nullable b ≡ false)
  Decided (when f a) = Decided a × (is_nullable a ≡ false)
  Decided (nest a) = Decided a × (is_nullable a ≡ false)
  Decided (counts a) = Decided a × (is_nullable a ≡ false)
  Decided (limited a) = Decided a
  Decided (gives f a) = Decided a

  -- what the tables say of a nonterminal is what its production says
  pub record IsTable (s : S) : Type 0 where
    pub decided : Decided (production s)
    pub empty : is_nullable (production s) ≡ nullable_table s
    -- the tokens that its production begins with are in the table, and no others
    pub head : (t : K) → first_of (production s) t ≡ true → first_table s t ≡ true
    pub only : (t : K) → first_table s t ≡ true → first_of (production s) t ≡ true
    pub tail : (t : K) → follow_last (production s) t ≡ true → follow_last_table s t ≡ true

  -- before it takes a token, the part calls only nonterminals of lower rank
  abbrev pub Leads : (S → ℕ) → {A : Type 0} → Part K V S Sort A → ℕ → Type 0
  Leads rank (terminal f) r = Unit {0}
  Leads rank (nonterminal s) r = rank s < r
  Leads rank (both a b) r = Leads rank a r × (is_nullable a ≡ true → Leads rank b r)
  Leads rank (either a b) r = Leads rank a r × Leads rank b r
  Leads rank (maybe a) r = Leads rank a r
  Leads rank (many a) r = Leads rank a r
  Leads rank (then_if a goes b) r = Leads rank a r
  Leads rank (when f a) r = Leads rank a r
  Leads rank (nest a) r = Leads rank a r
  Leads rank (counts a) r = Leads rank a r
  Leads rank (limited a) r = Leads rank a r
  Leads rank (gives f a) r = Leads rank a r

  -- One token ahead decides: the tables are those of the productions, and no nonterminal calls itself before it takes a token.
  pub record IsDecided (rank : S → ℕ) (width : ℕ) : Type 0 where
    pub table : (s : S) → IsTable s
    pub low : (s : S) → rank s < width
    pub leads : (s : S) → Leads rank (production s) (rank s)
