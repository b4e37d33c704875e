-- The reading of a grammar from the left, by the next token.
use Rattle.std.specs.Prelude.{ℕ, zero, suc, ◌+◌, ◌*◌, Bool, true, false, ◌||◌, ◌&&◌, cond, List, [], ◌∷◌, length, Option, Some, None}
use Rattle.sw_grammar.specs.Grammar.{Token, Part, terminal, nonterminal, both, either, maybe, many, then_if, when, nest, counts, limited, gives}

-- why a token is refused
pub data Reason : Type 0 where
  -- the budget is exceeded: a bracket, or a part that is counted, would be one too many
  over_budget : Reason
  -- it goes on with no sentence, or there is none
  unexpected : Reason

-- What a reader answers: a value, how many more may be counted, and the tokens after it; or the tokens from the refused one on.
pub data Out (T A : Type 0) : Type 0 where
  got : A → ℕ → List T → Out T A
  rejected : Reason → List T → Out T A
  out_of_fuel : Out T A

infixl 10 ◌>>=◌
abbrev pub ◌>>=◌ : {T A B : Type 0} → Out T A → (A → ℕ → List T → Out T B) → Out T B
(got x c rest) >>= f = f x c rest
(rejected reason rest) >>= f = rejected reason rest
out_of_fuel >>= f = out_of_fuel

-- the first token passes the test
abbrev pub at_first : {K V : Type 0} → (K → Bool) → List (Token K V) → Bool
at_first f [] = false
at_first f (t ∷ ts) = f t.sight

-- the second too, where the first part may be empty
abbrev pub or_if : Bool → Bool → Bool → Bool
or_if true x y = x || y
or_if false x y = x

abbrev pub one : {K V : Type 0} → (K → Bool) → ℕ → List (Token K V) → Out (Token K V) V
one f c [] = rejected unexpected []
one f c (t ∷ ts) = cond (f t.sight) (got t.face c ts) (rejected unexpected (t ∷ ts))

-- a part for which no budget is left
abbrev pub without_budget : {K V A : Type 0} → (K → Bool) → List (Token K V) → Out (Token K V) A
without_budget f ts = cond (at_first f ts) (rejected over_budget ts) (rejected unexpected ts)

-- a second part, where it comes
abbrev pub if_goes : {T A B : Type 0} → Bool → A → ℕ → List T → Out T B → Out T (A × Option B)
if_goes true x c rest o = o >>= (λ y c' r. got (x, Some y) c' r)
if_goes false x c rest o = got (x, None) c rest

-- as many as there are, and the number bounds them
abbrev pub turns : {K V A : Type 0} → (K → Bool) → (ℕ → List (Token K V) → Out (Token K V) A) → ℕ → ℕ → List (Token K V) → Out (Token K V) (List A)
turns f p zero c ts = got [] c ts
turns f p (suc k) c ts = cond (at_first f ts) (p c ts >>= (λ x c' rest. turns f p k c' rest >>= (λ xs c'' r. got (x ∷ xs) c'' r))) (got [] c ts)

module _ (K V S : Type 0) (Sort : S → Type 0) (production : (s : S) → Part K V S Sort (Sort s)) (first_table : S → K → Bool) (nullable_table : S → Bool) where
  -- nullable: whether the empty run is a sentence of it
  abbrev pub nullable : {A : Type 0} → Part K V S Sort A → Bool
  nullable (terminal f) = false
  nullable (nonterminal s) = nullable_table s
  nullable (both a b) = nullable a && nullable b
  nullable (either a b) = nullable a || nullable b
  nullable (maybe a) = true
  nullable (many a) = true
  nullable (then_if a goes b) = nullable a
  nullable (when f a) = nullable a
  nullable (nest a) = nullable a
  nullable (counts a) = nullable a
  nullable (limited a) = nullable a
  nullable (gives f a) = nullable a

  -- first: the tokens that a sentence of it begins with
  abbrev pub first : {A : Type 0} → Part K V S Sort A → K → Bool
  first (terminal f) t = f t
  first (nonterminal s) t = first_table s t
  first (both a b) t = or_if (nullable a) (first a t) (first b t)
  first (either a b) t = first a t || first b t
  first (maybe a) t = first a t
  first (many a) t = first a t
  first (then_if a goes b) t = first a t
  first (when f a) t = f t && first a t
  first (nest a) t = first a t
  first (counts a) t = first a t
  first (limited a) t = first a t
  first (gives f a) t = first a t

  -- d brackets may be opened, a count of its own may hold l, and c more may be counted
  abbrev pub read_by : ((s : S) → ℕ → ℕ → ℕ → List (Token K V) → Out (Token K V) (Sort s)) → {A : Type 0} → Part K V S Sort A → ℕ → ℕ → ℕ → List (Token K V) → Out (Token K V) A
  read_by R (terminal f) d l c ts = one f c ts
  read_by R (nonterminal s) d l c ts = R s d l c ts
  read_by R (both a b) d l c ts = read_by R a d l c ts >>= (λ x c' rest. read_by R b d l c' rest >>= (λ y c'' r. got (x, y) c'' r))
  read_by R (either a b) d l c ts = cond (at_first (first a) ts) (read_by R a d l c ts) (read_by R b d l c ts)
  read_by R (maybe a) d l c ts = cond (at_first (first a) ts) (read_by R a d l c ts >>= (λ x c' rest. got (Some x) c' rest)) (got None c ts)
  read_by R (many a) d l c ts = turns (first a) (read_by R a d l) (length ts) c ts
  read_by R (then_if a goes b) d l c ts = read_by R a d l c ts >>= (λ x c' rest. if_goes (goes x && at_first (first b) rest) x c' rest (read_by R b d l c' rest))
  read_by R (when f a) d l c ts = cond (at_first f ts) (read_by R a d l c ts) (rejected unexpected ts)
  read_by R (nest a) zero l c ts = without_budget (first a) ts
  read_by R (nest a) (suc d) l c ts = read_by R a d l c ts
  read_by R (counts a) d l zero ts = without_budget (first a) ts
  read_by R (counts a) d l (suc c) ts = read_by R a d l c ts
  read_by R (limited a) d l c ts = read_by R a d l l ts >>= (λ x _ rest. got x c rest)
  read_by R (gives f a) d l c ts = read_by R a d l c ts >>= (λ x c' rest. got (f x) c' rest)

  abbrev pub read : ℕ → (s : S) → ℕ → ℕ → ℕ → List (Token K V) → Out (Token K V) (Sort s)
  read zero s d l c ts = out_of_fuel
  read (suc n) s d l c ts = read_by (read n) (production s) d l c ts

  -- read to its end: a nonterminal calls only nonterminals of lower rank before it takes a token
  module _ (rank : S → ℕ) (width : ℕ) where
    unfoldable pub reads : (s : S) → ℕ → ℕ → ℕ → List (Token K V) → Out (Token K V) (Sort s)
    reads s d l c ts = read (suc (rank s + width * length ts)) s d l c ts
