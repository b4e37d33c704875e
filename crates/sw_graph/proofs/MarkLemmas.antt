-- Tables of marks.
use Rattle.std.proofs.Common.{◌≡◌, ℕ, zero, suc, ◌+◌, ◌<◌, ◌≤◌, Bool, true, false, List, [], ◌∷◌, ◌++◌, length, get_or, set, refl, sym, ap, ◌∙◌, arith, subst, Some}
use mathlib.Core.Logic.{◌⊎◌, inl, inr}
use Rattle.std.specs.List.{slice_get, Contains}
use Rattle.sw_graph.specs.Search.{Has}
use Rattle.std.specs.Prelude.{unwrap_or}
use Rattle.std.proofs.lemmas.Option.{slice_get_past, slice_get-get_or}
use Rattle.std.proofs.lemmas.List.{get_or-set_other, length-set}
use Rattle.sw_graph.specs.Graphs.{Graph, marked, successors}

-- a number past the end of a table is not marked
pub past : (table : List Bool) (t : ℕ) → length table ≤ t → marked table t ≡ false
past table t h = ap (λ o. unwrap_or o false) (slice_get_past table t h)

pub true≢ : {A : Type 0} → false ≡ true → A
true≢ h = absurd (cc)

pub within' : (t n : ℕ) → (t < n) ⊎ (n ≤ t)
within' t zero = inr (omega arith)
within' zero (suc n) = inl (omega arith)
within' (suc t) (suc n) = go (within' t n)
  where
    go : (t < n) ⊎ (n ≤ t) → (suc t < suc n) ⊎ (suc n ≤ suc t)
    go (inl h) = inl (omega arith)
    go (inr h) = inr (omega arith)

pub marked_within : (table : List Bool) (t : ℕ) → marked table t ≡ true → t < length table
marked_within table t h = go (within' t (length table))
  where
    go : (t < length table) ⊎ (length table ≤ t) → t < length table
    go (inl k) = k
    go (inr k) = true≢ (sym (past table t k) ∙ h)

pub same' : (t u : ℕ) → (t ≡ u) ⊎ (t ≡ u → ⊥)
same' zero zero = inl refl
same' zero (suc u) = inr (λ e. absurd (cc))
same' (suc t) zero = inr (λ e. absurd (cc))
same' (suc t) (suc u) = go (same' t u)
  where
    go : (t ≡ u) ⊎ (t ≡ u → ⊥) → (suc t ≡ suc u) ⊎ (suc t ≡ suc u → ⊥)
    go (inl e) = inl (ap suc e)
    go (inr h) = inr (λ e. h (cc))

pub at : (table : List Bool) (t : ℕ) → t < length table → marked table t ≡ get_or table t false
at table t h = ap (λ o. unwrap_or o false) (slice_get-get_or table t false h)

-- what is marked after one more mark is that number or was marked
pub marked_set : (table : List Bool) (i t : ℕ) → i < length table → marked (set table i true) t ≡ true → (t ≡ i) ⊎ (marked table t ≡ true)
marked_set table i t h m = go (same' t i)
  where
    go : (t ≡ i) ⊎ (t ≡ i → ⊥) → (t ≡ i) ⊎ (marked table t ≡ true)
    go (inl e) = inl e
    go (inr n) =
        let k : t < length (set table i true) = marked_within (set table i true) t m in
        let k' : t < length table = omega (arith, length-set table i true) in
        inr (at table t k' ∙ (sym (get_or-set_other table i t true false n) ∙ (sym (at (set table i true) t k) ∙ m)))

-- ---- lists that grow

pub get_push : {X : Type 0} (xs : List X) (x : X) (k : ℕ) → k < length xs → slice_get (xs ++ x ∷ []) k ≡ slice_get xs k
get_push [] x k h = absurd (omega arith)
get_push (y ∷ xs) x zero h = refl
get_push (y ∷ xs) x (suc k) h = get_push xs x k (omega arith)

pub get_end : {X : Type 0} (xs : List X) (x : X) → slice_get (xs ++ x ∷ []) (length xs) ≡ Some x
get_end [] x = refl
get_end (y ∷ xs) x = let e : length (y ∷ xs) ≡ suc (length xs) = omega arith in ap (λ n. slice_get (y ∷ (xs ++ x ∷ [])) n) e ∙ get_end xs x

-- a table that grows by what a test says goes on telling the test
pub table_push : (f : ℕ → Bool) (xs : List Bool) (x : Bool) (n : ℕ) → length xs ≡ n → x ≡ f n → ((k : ℕ) → k < n → marked xs k ≡ f k) → (k : ℕ) → k < n + 1 → marked (xs ++ x ∷ []) k ≡ f k
table_push f xs x n e is below k h = go (within' k n)
  where
    go : (k < n) ⊎ (n ≤ k) → marked (xs ++ x ∷ []) k ≡ f k
    go (inl l) = ap (λ o. unwrap_or o false) (get_push xs x k (omega arith)) ∙ below k l
    go (inr l) = let same : k ≡ length xs = omega arith in let there : n ≡ k = omega arith in
        ap (marked (xs ++ x ∷ [])) same ∙ (ap (λ o. unwrap_or o false) (get_end xs x) ∙ (is ∙ ap f there))

-- a whole table tells the test of each number, where the test is false past its end
pub table_whole : (f : ℕ → Bool) (xs : List Bool) (n : ℕ) → length xs ≡ n → ((k : ℕ) → n ≤ k → f k ≡ false) → ((k : ℕ) → k < n → marked xs k ≡ f k) → (k : ℕ) → marked xs k ≡ f k
table_whole f xs n e over below k = go (within' k n)
  where
    go : (k < n) ⊎ (n ≤ k) → marked xs k ≡ f k
    go (inl l) = below k l
    go (inr l) = past xs k (omega arith) ∙ sym (over k l)

-- past the end of a graph a number has no successor
pub successors_past : (graph : Graph) (a : ℕ) → length graph ≤ a → successors graph a ≡ []
successors_past graph a h = ap (λ o. unwrap_or o []) (slice_get_past graph a h)

-- ---- elements

pub same_at : (xs : List ℕ) (i d e : ℕ) → i < length xs → get_or xs i d ≡ get_or xs i e
same_at [] i d e h = absurd (omega arith)
same_at (x ∷ xs) zero d e h = refl
same_at (x ∷ xs) (suc i) d e h = same_at xs i d e (omega arith)

pub has_at : (xs : List ℕ) (i : ℕ) → i < length xs → Has xs (get_or xs i 0)
has_at [] i h = absurd (omega arith)
has_at (x ∷ xs) zero h = inl refl
has_at (x ∷ xs) (suc i) h = inr (has_at xs i (omega arith))

-- the two ways to say that a list has an element
pub has_from : (xs : List ℕ) (u : ℕ) → Contains xs u → Has xs u
has_from xs u c = subst (Has xs) (same_at xs c.0 0 u c.1 ∙ c.2) (has_at xs c.0 c.1)

pub contains_from : (xs : List ℕ) (u : ℕ) → Has xs u → Contains xs u
contains_from [] u h = absurd h
contains_from (x ∷ xs) u (inl e) = (0, omega arith, sym e)
contains_from (x ∷ xs) u (inr h) = let c = contains_from xs u h in (suc c.0, omega arith, c.2)
